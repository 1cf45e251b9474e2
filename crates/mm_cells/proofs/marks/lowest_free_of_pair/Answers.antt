-- The bits that are left stand for the free cells.
use Rattle.std.proofs.Common.{arith}
use Rattle.mm_cells.proofs.Bits.Free.{NoneFree-pair, IsLowestFree-pair}
use Rattle.mm_cells.proofs.marks.lowest_free_of_pair.Goals as goal

pub returns-then-free-eq0 : goal.returns-then-free-eq0
returns-then-free-eq0 c = NoneFree-pair c.args.pair c.if-free-eq0.true

pub returns-else-free-eq0 : goal.returns-else-free-eq0
returns-else-free-eq0 c = IsLowestFree-pair c.args.pair (omega arith)
