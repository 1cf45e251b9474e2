-- The place that was found is that of a cell of the page.
use Rattle.std.proofs.Common.{◌*◌, arith}
use Rattle.mm_cells.specs.Marks.{mark_in, page_marks, IsLowestFree}
use Rattle.mm_cells.proofs.Bits.Pages.{page_marks-pair, NoneFree-more, IsLowestFree-more}
use Rattle.mm_cells.proofs.marks.lowest_free.Goals as goal

pub returns-then-cell-cells : goal.returns-then-cell-cells
returns-then-cell-cells c =
    IsLowestFree-more (page_marks c.args.table.now c.args.first_word) (mark_in c.pair_of.result) (16 * c.loop-pair.pair)
    c.in-Some.place c.args.cells 16 (omega arith)
    (λ p low. page_marks-pair c.args.table.now c.args.first_word c.loop-pair.pair c.pair_of.result p low
    c.pair_of.ensures.low c.pair_of.ensures.high)
    c.loop-pair.invariant c.in-Some.ensures

pub returns-else-cell-cells : goal.returns-else-cell-cells
returns-else-cell-cells c =
    let found : IsLowestFree (mark_in c.pair_of.result) 16 c.in-Some.place = c.in-Some.ensures in
    NoneFree-more (page_marks c.args.table.now c.args.first_word) (mark_in c.pair_of.result) (16 * c.loop-pair.pair)
    c.in-Some.place c.args.cells (omega arith)
    (λ p low. page_marks-pair c.args.table.now c.args.first_word c.loop-pair.pair c.pair_of.result p
    (omega (arith, found.within)) c.pair_of.ensures.low c.pair_of.ensures.high)
    c.loop-pair.invariant found.lowest
