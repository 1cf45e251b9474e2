-- The lemma says it.
use Rattle.mm_pace.proofs.Bound.{own-in_time}
use Rattle.mm_pace.proofs.laws.cycles_end_in_time.Goals as goal

pub returns : goal.returns
returns c = λ rate settings trace turns own b paced steps. own-in_time settings rate trace turns own b paced steps
