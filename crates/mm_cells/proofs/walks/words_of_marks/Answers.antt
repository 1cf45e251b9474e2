use Rattle.std.proofs.Common.{arith}
use Rattle.mm_cells.proofs.Sizes.ClassSizes.{cells_in-most}
use Rattle.mm_cells.proofs.walks.words_of_marks.Goals as goal

pub returns-in-Class-clause-most : goal.returns-in-Class-clause-most
returns-in-Class-clause-most c =
    omega (
      arith,
      c.div_ceil.ensures,
      c.cells_per_page.ensures,
      cells_in-most c.in-Class.class (c.requires c.in-Class.class c.in-Class.is),
    )
