-- The lemma says it.
use Rattle.mm_laws.proofs.Turning.Lawful.{lawful-step}
use Rattle.mm_laws.proofs.logs.steps_are_lawful.Goals as goal

pub returns : goal.returns
returns c = lawful-step
