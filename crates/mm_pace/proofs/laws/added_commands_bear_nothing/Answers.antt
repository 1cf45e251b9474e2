-- The lemma says it.
use Rattle.mm_pace.proofs.Births.{births-paced}
use Rattle.mm_pace.proofs.laws.added_commands_bear_nothing.Goals as goal

pub returns : goal.returns
returns c = births-paced
