-- The lemma says it.
use Rattle.mm_laws.proofs.Keeping.FollowingSteps.{made_for-run}
use Rattle.mm_laws.proofs.weak.runs_leave_weak_references_their_targets.Goals as goal

pub returns : goal.returns
returns c = made_for-run
