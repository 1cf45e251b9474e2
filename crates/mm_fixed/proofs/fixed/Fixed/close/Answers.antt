-- A taken cell would be a block's.
use Rattle.std.proofs.Common.{subst}
use Rattle.mm_cells.specs.Cells.{Cells, Begins}
use Rattle.mm_fixed.proofs.Shown.{kept-shown, begins-block}
use Rattle.mm_fixed.proofs.fixed.Fixed.close.Goals as goal

pub close-requires : goal.close-requires
close-requires c = λ base cell begins.
    let is = kept-shown c.self.inside.cells c.args.self c.self.invariant c.self.view_is in
    let there = begins-block c.args.self base cell (subst (λ (w : Cells). Begins w base cell) is begins) in
    c.requires base there.block there.begins
