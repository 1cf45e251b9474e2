-- The lemmas say it.
use Rattle.mm_pace.proofs.Growing.{paced-more, paced-goes_on}
use Rattle.mm_pace.proofs.laws.paced_lists_can_be_carried_on.Goals as goal

pub returns : goal.returns
returns c = record { one_more = paced-more; more = paced-goes_on }
