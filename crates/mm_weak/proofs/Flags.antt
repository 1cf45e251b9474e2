-- What setting and clearing the flag for a weak object leaves in a cell's flags.
use Rattle.std.proofs.Common.{◌≡◌, ℕ, ◌/◌, ◌%◌, ◌<◌, Bool, true, false, refl, sym, ap, subst, ◌∙◌, arith}
use Rattle.std.specs.Prelude.{◌==◌, if◌then◌else◌}
use Rattle.std.specs.Int.RustNames.{bit_and, bit_or}
use Rattle.std.specs.Option.{option_map}
use Rattle.std.proofs.lemmas.Option.{slice_get-map}
use Rattle.bitflags.specs.Sets.{without}
use Rattle.mm_cells.specs.declared.marks.CellBits.{CellBits}
use Rattle.mm_cells.specs.Cells as cells
use Rattle.mm_cells.specs.Cells.{Cells, Taken, IsTaken}
use Rattle.mm_model.specs.Views.ByBase.{Begins}
use Rattle.mm_object.specs.Object.{StoredObject, flags_with}
use Rattle.mm_object.specs.Heap.{Heap, cell_of, cells_in}

-- flags with this finalizer and this weak object
pub record SaysWeak (finalize has_weak : Bool) (flags : ℕ) : Type 0 where
  pub known : flags < 4
  pub finalizer : (flags % 2 == 1) ≡ finalize
  pub weak : (flags / 2 % 2 == 1) ≡ has_weak

flags_set : (finalize had has_weak : Bool) → SaysWeak finalize has_weak
    (if has_weak then bit_or (flags_with finalize had).0 2 else without 8 (flags_with finalize had).0 2)
flags_set true true true = record { known = omega arith; finalizer = refl; weak = refl }
flags_set true true false = record { known = omega arith; finalizer = refl; weak = refl }
flags_set true false true = record { known = omega arith; finalizer = refl; weak = refl }
flags_set true false false = record { known = omega arith; finalizer = refl; weak = refl }
flags_set false true true = record { known = omega arith; finalizer = refl; weak = refl }
flags_set false true false = record { known = omega arith; finalizer = refl; weak = refl }
flags_set false false true = record { known = omega arith; finalizer = refl; weak = refl }
flags_set false false false = record { known = omega arith; finalizer = refl; weak = refl }

pub flags-set : (before after : CellBits) (finalize had has_weak : Bool) → before ≡ flags_with finalize had
    → after.0 ≡ (if has_weak then bit_or before.0 2 else without 8 before.0 2) → SaysWeak finalize has_weak after.0
flags-set before after finalize had has_weak was e =
    subst (SaysWeak finalize has_weak)
    (sym (e ∙ ap (λ (flags : CellBits). if has_weak then bit_or flags.0 2 else without 8 flags.0 2) was))
    (flags_set finalize had has_weak)

-- whether the flag is set
contains-flags : (finalize has_weak : Bool) → (bit_and (flags_with finalize has_weak).0 2 == 2) ≡ has_weak
contains-flags true true = refl
contains-flags true false = refl
contains-flags false true = refl
contains-flags false false = refl

-- the cell of an object
pub begins-cell : (h : Heap) (base : ℕ) (object : StoredObject) → Begins h.objects base object
    → cells.Begins (cells_in h) base (cell_of object)
begins-cell h base object begins =
    record {
      grain = begins.grain;
      aligned = begins.aligned;
      is = slice_get-map (option_map cell_of) h.objects begins.grain ∙ ap (option_map (option_map cell_of)) begins.is;
    }

pub taken-object : (h : Heap) (v : Cells) (base : ℕ) (object : StoredObject) → v ≡ cells_in h
    → Begins h.objects base object → IsTaken v base
taken-object h v base object shown begins =
    subst (λ (u : Cells). IsTaken u base) (sym shown) (cell_of object, begins-cell h base object begins)

-- the flags of that cell
pub flags-object : (h : Heap) (v : Cells) (base : ℕ) (object : StoredObject) (flags : CellBits) → v ≡ cells_in h
    → Begins h.objects base object → ((cell : Taken) → cells.Begins v base cell → flags ≡ cell.flags)
    → flags ≡ flags_with object.finalize object.has_weak
flags-object h v base object flags shown begins told =
    told (cell_of object)
    (subst (λ (u : Cells). cells.Begins u base (cell_of object)) (sym shown) (begins-cell h base object begins))

pub contains-told : (flags : CellBits) (finalize has_weak : Bool) → flags ≡ flags_with finalize has_weak
    → (bit_and flags.0 2 == 2) ≡ has_weak
contains-told flags finalize has_weak e =
    ap (λ (bits : CellBits). bit_and bits.0 2 == 2) e ∙ contains-flags finalize has_weak
