-- The bits that are left stand for the marks that are sought.
use Rattle.std.proofs.Common.{arith}
use Rattle.mm_cells.proofs.Bits.Sought.{NoneSought-word, IsLowestSought-word}
use Rattle.mm_cells.proofs.marks.lowest_sought_place.Goals as goal

pub returns-then-mask-eq0 : goal.returns-then-mask-eq0
returns-then-mask-eq0 c =
    NoneSought-word c.args.sought c.args.word c.sought_mask.result c.args.from c.sought_mask.ensures c.if-mask-eq0.true

pub returns-else-mask-eq0 : goal.returns-else-mask-eq0
returns-else-mask-eq0 c =
    IsLowestSought-word c.args.sought c.args.word c.sought_mask.result c.args.from (omega arith) c.sought_mask.ensures
    (omega arith)
