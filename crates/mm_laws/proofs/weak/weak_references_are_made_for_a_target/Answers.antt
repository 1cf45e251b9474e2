-- The lemmas say it.
use Rattle.mm_laws.proofs.Targets.WeakReferences.{made_for-weak, lives-weak}
use Rattle.mm_laws.proofs.weak.weak_references_are_made_for_a_target.Goals as goal

pub returns : goal.returns
returns c = record { made = made_for-weak; lives = lives-weak }
