-- The lemmas say it.
use Rattle.mm_pace.proofs.OneMore.{since-more, work_begun-more}
use Rattle.mm_pace.proofs.laws.bytes_and_work_are_counted_on.Goals as goal

pub returns : goal.returns
returns c = record { since = since-more; work = work_begun-more }
