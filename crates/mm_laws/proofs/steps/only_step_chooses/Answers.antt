-- The lemma says it.
use Rattle.mm_laws.proofs.Stepping.Unchosen.{only_step_chooses}
use Rattle.mm_laws.proofs.steps.only_step_chooses.Goals as goal

pub returns : goal.returns
returns c = only_step_chooses
