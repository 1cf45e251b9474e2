use Rattle.std.proofs.Common.{subst}
use Rattle.mm_cells.specs.Cells.{Cells, Covers}
use Rattle.mm_mark.proofs.Told.{coloured-cell, cell_at_base, cell-covers_at_base}
use Rattle.mm_object.specs.Heap.{cell_of}
use Rattle.mm_mark.proofs.colours.colour_at.Goals as goal

pub returns-then-cell-base-clause-colour : goal.returns-then-cell-base-clause-colour
returns-then-cell-base-clause-colour g c =
    coloured-cell c.args.heap.now c.args.base c.in-Some.cell.base
    (record { extent = c.in-Some.cell.extent; colour = c.in-Some.cell.colour; flags = c.in-Some.cell.flags })
    c.if-cell-base.true
    (subst (λ (v : Cells). Covers v c.args.base c.in-Some.cell.base
    (record { extent = c.in-Some.cell.extent; colour = c.in-Some.cell.colour; flags = c.in-Some.cell.flags }))
    c.cells.ensures.cells c.in-Some.ensures.cell)

pub returns-else-cell-base-clause-colour : goal.returns-else-cell-base-clause-colour
returns-else-cell-base-clause-colour g c = λ object begins.
    c.if-cell-base.false
    (cell_at_base c.args.heap.now c.cells.ensures.sound c.args.base c.in-Some.cell.base object
    (record { extent = c.in-Some.cell.extent; colour = c.in-Some.cell.colour; flags = c.in-Some.cell.flags }) begins
    (subst (λ (v : Cells). Covers v c.args.base c.in-Some.cell.base
    (record { extent = c.in-Some.cell.extent; colour = c.in-Some.cell.colour; flags = c.in-Some.cell.flags }))
    c.cells.ensures.cells c.in-Some.ensures.cell))

pub returns-in-None-clause-colour : goal.returns-in-None-clause-colour
returns-in-None-clause-colour g c = λ object begins.
    subst (λ (v : Cells). Covers v c.args.base c.args.base (cell_of object) → ⊥) c.cells.ensures.cells
    (c.in-None.ensures.cell c.args.base (cell_of object))
    (cell-covers_at_base c.args.heap.now c.cells.ensures.sound c.args.base object begins)
