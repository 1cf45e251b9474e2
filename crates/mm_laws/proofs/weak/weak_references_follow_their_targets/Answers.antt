-- The lemma says it.
use Rattle.mm_laws.proofs.Keeping.FollowingSteps.{made_for-step}
use Rattle.mm_laws.proofs.weak.weak_references_follow_their_targets.Goals as goal

pub returns : goal.returns
returns c = made_for-step
