-- The lemma says it.
use Rattle.mm_laws.proofs.Phases.Reaching.{protected_is_reached}
use Rattle.mm_laws.proofs.reachability.protected_is_reached.Goals as goal

pub returns : goal.returns
returns c = protected_is_reached
