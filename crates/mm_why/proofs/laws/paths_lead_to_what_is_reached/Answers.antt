-- The lemma says it.
use Rattle.mm_why.proofs.Reached.{paths-reach}
use Rattle.mm_why.proofs.laws.paths_lead_to_what_is_reached.Goals as goal

pub returns : goal.returns
returns c = paths-reach
