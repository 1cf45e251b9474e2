use Rattle.mm_model.proofs.Cycle.Courses.{begin_marks_reached}
use Rattle.mm_laws.proofs.cycles.begin_marks_only_what_is_reached.Goals as goal

pub returns : goal.returns
returns c = begin_marks_reached
