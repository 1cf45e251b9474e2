-- The lemma says it.
use Rattle.mm_laws.proofs.Phases.Reaching.{reapable_is_not_protected}
use Rattle.mm_laws.proofs.reachability.reapable_is_not_protected.Goals as goal

pub returns : goal.returns
returns c = reapable_is_not_protected
