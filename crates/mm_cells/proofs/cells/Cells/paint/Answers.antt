use Rattle.mm_cells.proofs.Region.Soundness.{IsSoundCells-kept}
use Rattle.mm_cells.proofs.Region.Indexes.{KeepsCells-told, cells_of-coloured}
use Rattle.mm_cells.proofs.cells.Cells.paint.Goals as goal

pub invariant_of-self : goal.invariant_of-self
invariant_of-self c =
    let seat = c.mark_index_of-index.ensures in
    KeepsCells-told c.self.inside.table c.set_colour.new.self c.mark_index_of-index.result.page
    c.mark_index_of-index.result.number c.args.base c.args.colour seat.cell.flags c.self.invariant seat
    (c.set_colour.ensures seat.cell.colour seat.cell.flags seat.mark)

pub returns-clause-colour : goal.returns-clause-colour
returns-clause-colour c = rw (← c.self.view_is) (λ cell begins.
    let seat = c.mark_index_of-index.ensures in
    cells_of-coloured c.self.inside.table c.set_colour.new.self c.mark_index_of-index.result.page
    c.mark_index_of-index.result.number c.args.base seat.cell.colour c.args.colour seat.cell.flags c.self.invariant
    seat seat.mark (c.set_colour.ensures seat.cell.colour seat.cell.flags seat.mark) cell begins)

pub returns-clause-sound : goal.returns-clause-sound
returns-clause-sound c = IsSoundCells-kept c.set_colour.new.self (invariant_of-self c)
