-- What is located is a taken cell of those that callers see.
use Rattle.mm_cells.proofs.Region.Soundness.{IsSoundCells-kept}
use Rattle.mm_cells.proofs.cells.Cells.resolve.Goals as goal

pub returns-in-Some-clause-cell : goal.returns-in-Some-clause-cell
returns-in-Some-clause-cell g c =
    let found = c.in-Some.ensures.0 in
    rw (← c.self.view_is) ((found.cell, found.covers, found.sized))

pub returns-in-Some-clause-sound : goal.returns-in-Some-clause-sound
returns-in-Some-clause-sound g c = rw (← c.self.view_is) (IsSoundCells-kept c.self.inside.table c.self.invariant)

pub returns-in-None-clause-cell : goal.returns-in-None-clause-cell
returns-in-None-clause-cell g c = rw (← c.self.view_is) c.in-None.ensures

pub returns-in-None-clause-sound : goal.returns-in-None-clause-sound
returns-in-None-clause-sound g c = rw (← c.self.view_is) (IsSoundCells-kept c.self.inside.table c.self.invariant)
