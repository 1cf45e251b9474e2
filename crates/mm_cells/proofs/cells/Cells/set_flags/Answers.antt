use Rattle.mm_cells.proofs.Region.Soundness.{IsSoundCells-kept}
use Rattle.mm_cells.proofs.Region.Indexes.{KeepsCells-told, cells_of-flagged}
use Rattle.mm_cells.proofs.cells.Cells.set_flags.Goals as goal

pub invariant_of-self : goal.invariant_of-self
invariant_of-self g c = KeepsCells-told c.self.inside.table c.set_mark.new.self c.mark_index_of-index.result.page
    c.mark_index_of-index.result.number c.args.base c.object_mark_at-told.result.colour c.args.flags c.self.invariant
    c.mark_index_of-index.ensures c.set_mark.ensures.set

pub returns-clause-flags : goal.returns-clause-flags
returns-clause-flags g c = rw (← c.self.view_is) (λ cell begins.
    cells_of-flagged c.self.inside.table c.set_mark.new.self c.mark_index_of-index.result.page
    c.mark_index_of-index.result.number
    c.args.base c.object_mark_at-told.result.colour c.object_mark_at-told.result.flags c.args.flags c.self.invariant
    c.mark_index_of-index.ensures c.object_mark_at-told.ensures.mark c.set_mark.ensures.set cell begins)

pub returns-clause-sound : goal.returns-clause-sound
returns-clause-sound g c = IsSoundCells-kept c.set_mark.new.self (invariant_of-self g c)
