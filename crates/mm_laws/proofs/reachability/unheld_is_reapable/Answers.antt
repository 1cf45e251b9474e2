-- The lemma says it.
use Rattle.mm_laws.proofs.Phases.Reaching.{unheld_is_reapable}
use Rattle.mm_laws.proofs.reachability.unheld_is_reapable.Goals as goal

pub returns : goal.returns
returns c = unheld_is_reapable
