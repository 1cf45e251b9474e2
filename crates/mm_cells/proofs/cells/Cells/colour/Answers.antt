-- What is kept of the table is sound.
use Rattle.std.proofs.Common.{subst}
use Rattle.mm_cells.specs.Cells.{IsSoundCells}
use Rattle.mm_cells.proofs.Region.Soundness.{IsSoundCells-kept}
use Rattle.mm_cells.proofs.cells.Cells.colour.Goals as goal

pub returns-clause-sound : goal.returns-clause-sound
returns-clause-sound g c =
    subst IsSoundCells c.self.view_is (IsSoundCells-kept c.self.inside.table c.self.invariant)
