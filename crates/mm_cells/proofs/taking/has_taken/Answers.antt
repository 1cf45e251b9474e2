use Rattle.std.proofs.Common.{arith}
use Rattle.mm_cells.proofs.Sizes.ClassSizes.{cells_in-most}
use Rattle.mm_cells.proofs.taking.has_taken.Goals as goal

pub lowest_sought-requires-clause-cells : goal.lowest_sought-requires-clause-cells
lowest_sought-requires-clause-cells c =
    omega (arith, c.cells_per_page.ensures, cells_in-most c.args.class c.requires.class)
