use Rattle.std.proofs.Common.{◌≡◌, ◌/◌, false, Some, Option, List, refl, sym, ap, ◌∙◌, arith}
use Rattle.std.specs.Prelude.{slice_get, slice_set}
use Rattle.mm_cells.specs.Cells.{Taken, Cells, with_cell}
use Rattle.mm_cells.specs.Marks.{no_flags}
use Rattle.mm_cells.specs.declared.marks.CellBits.{CellBits}
use Rattle.mm_object.specs.Object.{flags_with}
use Rattle.mm_object.proofs.Writes.{set-same, one-cell}
use Rattle.mm_object.proofs.creating.tell_finalizer.Goals as goal

pub returns-then-finalize-clause-flags : goal.returns-then-finalize-clause-flags
returns-then-finalize-clause-flags g c cell begins = rw c.if-finalize.true (c.set_flags.ensures.flags cell begins)

-- the cell has no flags as it is
pub returns-else-finalize-clause-flags : goal.returns-else-finalize-clause-flags
returns-else-finalize-clause-flags g c cell begins =
    let cells = c.args.cells.now in
    let base = c.args.base in
    let plain = c.requires.taken in
    let flags : cell.flags ≡ no_flags =
    ap (λ (t : Taken). t.flags) (one-cell cells base cell plain.0 begins plain.1) ∙ plain.2 in
    let here : base / 16 ≡ begins.grain = omega (arith, begins.aligned) in
    let entry : slice_get cells.taken (base / 16) ≡ Some (Some cell) = rw here begins.is in
    let unset : record cell { flags = flags_with c.args.finalize false } ≡ cell =
    ap (λ (f : CellBits). record cell { flags = f }) (rw c.if-finalize.false (sym flags)) in
    ap (λ (taken : List (Option Taken)). record cells { taken = taken })
    (sym (rw unset (set-same cells.taken (base / 16) (Some cell) entry)))
