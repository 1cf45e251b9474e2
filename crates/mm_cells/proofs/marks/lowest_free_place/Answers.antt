-- The bits that are left stand for the free cells.
use Rattle.std.proofs.Common.{arith}
use Rattle.mm_cells.proofs.Bits.Free.{NoneFree-word, IsLowestFree-word}
use Rattle.mm_cells.proofs.marks.lowest_free_place.Goals as goal

pub returns-then-free-eq0 : goal.returns-then-free-eq0
returns-then-free-eq0 c = NoneFree-word c.args.word c.if-free-eq0.true

pub returns-else-free-eq0 : goal.returns-else-free-eq0
returns-else-free-eq0 c = IsLowestFree-word c.args.word (omega arith)
