-- The lemma says it.
use Rattle.mm_audit.proofs.Zeros.{zeros-right}
use Rattle.mm_audit.proofs.laws.zeros_are_zero_count_objects.Goals as goal

pub returns : goal.returns
returns c = zeros-right
