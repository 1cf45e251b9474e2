use Rattle.std.proofs.Common.{arith}
use Rattle.mm_cells.proofs.Sizes.ClassSizes.{cells_in-most}
use Rattle.mm_cells.proofs.cells.small_cell.Goals as goal

pub mark_at-requires-clause-cell : goal.mark_at-requires-clause-cell
mark_at-requires-clause-cell c = omega (
  arith,
  c.if-cells_per_page-number.false,
  c.cells_per_page.ensures,
  cells_in-most c.args.class c.requires.class,
)
