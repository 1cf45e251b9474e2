use Rattle.mm_model.proofs.Cycle.Courses.{course_is_good, throughout_is_freed}
use Rattle.mm_model.proofs.Good.Steps.{step_is_good}
use Rattle.mm_laws.proofs.cycles.finish_frees_what_was_unreachable_throughout.Goals as goal

pub returns : goal.returns
returns c = λ begun states course. throughout_is_freed begun states course
    (course_is_good step_is_good begun states course)
