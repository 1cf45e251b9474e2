-- The lemma says it.
use Rattle.mm_model.proofs.Cycle.Marked.{unmarked_is_not_reached}
use Rattle.mm_laws.proofs.reachability.unmarked_is_not_reached.Goals as goal

pub returns : goal.returns
returns c = unmarked_is_not_reached
