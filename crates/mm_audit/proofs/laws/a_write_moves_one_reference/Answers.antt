-- The lemma says it.
use Rattle.mm_audit.proofs.References.{written-counts}
use Rattle.mm_audit.proofs.laws.a_write_moves_one_reference.Goals as goal

pub returns : goal.returns
returns c = written-counts
