use Rattle.std.proofs.Common.{arith}
use Rattle.mm_cells.proofs.Sizes.ClassSizes.{cells_in-most}
use Rattle.mm_cells.proofs.Sizes.Grains.{div_ceil-below, div_ceil-reaches}
use Rattle.mm_cells.proofs.cells.lowest_small.Goals as goal

pub lowest_sought-requires-clause-cells : goal.lowest_sought-requires-clause-cells
lowest_sought-requires-clause-cells c =
    omega (arith, c.cells_per_page.ensures, cells_in-most c.args.class c.requires.class)

pub returns-in_err-number : goal.returns-in_err-number
returns-in_err-number c = rw c.from_residual.ensures (λ cell within reached is.
    let above = div_ceil-below c.args.offset c.extent_of-size.result cell c.extent_of-size.ensures.some
    (rw c.extent_of-size.ensures.value reached) in
    c.in_err-number.ensures cell (omega (arith, c.div_ceil.ensures, above)) (omega (arith, c.cells_per_page.ensures))
    is)

pub returns : goal.returns
returns c =
    let found = c.in_ok-number.ensures in
    record {
      number = c.in_ok-number.number;
      within = omega (arith, c.cells_per_page.ensures, found.within);
      is = found.is;
      begins = rw c.extent_of-size.ensures.value (omega arith);
      reached = rw (← c.extent_of-size.ensures.value) (div_ceil-reaches c.args.offset c.extent_of-size.result
          c.in_ok-number.number c.extent_of-size.ensures.some (omega (arith, c.div_ceil.ensures, found.reached)));
      lowest = λ other below reached is.
          let above = div_ceil-below c.args.offset c.extent_of-size.result other c.extent_of-size.ensures.some
          (rw c.extent_of-size.ensures.value reached) in
          found.lowest other (omega (arith, c.div_ceil.ensures, above)) below is;
    }
