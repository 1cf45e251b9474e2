-- The lemma says it.
use Rattle.mm_pace.proofs.Lengths.{length-paced}
use Rattle.mm_pace.proofs.laws.a_trace_is_at_most_quadrupled.Goals as goal

pub returns : goal.returns
returns c = length-paced
