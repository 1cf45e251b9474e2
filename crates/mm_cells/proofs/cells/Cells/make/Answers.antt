-- A table of unused pages shows no cell.
use Rattle.mm_cells.proofs.Region.Empty.{AreParked-none, HasNoCell-fresh}
use Rattle.mm_cells.proofs.Tables.Untaken.{KeepsCells-untouched, cells_of-untouched}
use Rattle.std.proofs.Common.{subst, sym}
use Rattle.mm_pages.specs.Parked.{AreParked}
use Rattle.mm_cells.specs.Cells.{Cells, HasNoCell}
use Rattle.mm_cells.proofs.Region.Soundness.{IsSoundCells-kept}
use Rattle.mm_cells.proofs.cells.Cells.make.Goals as goal

pub invariant_of-result : goal.invariant_of-result
invariant_of-result c = KeepsCells-untouched _ c.args.pages c.make.result c.requires.two c.requires.most c.make.ensures

pub returns-clause-value : goal.returns-clause-value
returns-clause-value c = cells_of-untouched _ c.args.pages c.make.result c.make.ensures

pub returns-clause-empty : goal.returns-clause-empty
returns-clause-empty c = subst HasNoCell (sym (returns-clause-value c)) (HasNoCell-fresh _ c.args.pages)

pub returns-clause-parked : goal.returns-clause-parked
returns-clause-parked c = λ heap small.
    subst (λ (v : Cells). AreParked v.runs heap) (sym (returns-clause-value c)) (AreParked-none c.args.pages heap small)

pub returns-clause-sound : goal.returns-clause-sound
returns-clause-sound c = IsSoundCells-kept c.make.result (invariant_of-result c)
