use Rattle.mm_model.proofs.Cycle.Marked.{unmarked_iff_neither}
use Rattle.mm_laws.proofs.cycles.finish_frees_what_neither_reaches.Goals as goal

pub returns : goal.returns
returns c = unmarked_iff_neither
