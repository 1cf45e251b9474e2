-- The lemma says it.
use Rattle.mm_why.proofs.Reached.{paths-reach_state}
use Rattle.mm_why.proofs.laws.paths_lead_to_what_a_state_reaches.Goals as goal

pub returns : goal.returns
returns c = paths-reach_state
