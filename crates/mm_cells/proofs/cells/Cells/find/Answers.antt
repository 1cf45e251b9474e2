-- What its mark tells is told of the cell.
use Rattle.mm_cells.proofs.Region.Found.{Covers-marked}
use Rattle.mm_cells.proofs.Region.Soundness.{IsSoundCells-kept}
use Rattle.mm_cells.proofs.cells.Cells.find.Goals as goal

pub returns-in-Some-clause-cell : goal.returns-in-Some-clause-cell
returns-in-Some-clause-cell g c =
    rw (← c.self.view_is)
    (Covers-marked c.self.inside.table c.args.word c.in-Some.located.index.page c.in-Some.located.index.number
    c.in-Some.located.cell.base c.in-Some.located.cell.extent c.in-Some.located.told.colour
    c.in-Some.located.told.flags c.in-Some.ensures.0 c.in-Some.ensures.1)

pub returns-in-Some-clause-sound : goal.returns-in-Some-clause-sound
returns-in-Some-clause-sound g c = rw (← c.self.view_is) (IsSoundCells-kept c.self.inside.table c.self.invariant)

pub returns-in-None-clause-cell : goal.returns-in-None-clause-cell
returns-in-None-clause-cell g c = rw (← c.self.view_is) c.in-None.ensures

pub returns-in-None-clause-sound : goal.returns-in-None-clause-sound
returns-in-None-clause-sound g c = rw (← c.self.view_is) (IsSoundCells-kept c.self.inside.table c.self.invariant)
