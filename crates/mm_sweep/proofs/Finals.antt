-- Finalizers: which objects have one, what they are told, and what they cost.
use Rattle.std.proofs.Common.{◌≡◌, ℕ, Bool, true, false, eqb-true, [], ◌∷◌, length, Some, refl, sym, ap}
use Rattle.std.proofs.Common.{subst, ◌∙◌}
use Rattle.std.specs.Prelude.{◌==◌, if◌then◌else◌}
use Rattle.std.specs.Int.RustNames.{bit_and}
use Rattle.std.specs.Option.{option_map}
use Rattle.std.proofs.lemmas.Bool.{eq-eqb}
use Rattle.std.proofs.lemmas.Option.{slice_get-map}
use Rattle.mm_model.specs.Views.ByBase.{Begins, Based, based}
use Rattle.mm_model.specs.Views.ObjectView.{ObjectView, ObjectsByBase}
use Rattle.mm_model.specs.Views.ViewWords.{object_at}
use Rattle.mm_model.proofs.Lists.Growing.{find-only}
use Rattle.mm_model.proofs.View.ByBase.Entries.{based_at, begins_at, begins_same}
use Rattle.mm_model.proofs.View.ByBase.MappedEntries.{begins_mapped}
use Rattle.mm_cells.specs.declared.marks.CellBits.{CellBits}
use Rattle.mm_cells.specs.Cells as cells
use Rattle.mm_cells.specs.Cells.{Cells}
use Rattle.mm_object.specs.Object.{StoredObject, StoredObjects, view_of_stored, views_of, flags_with}
use Rattle.mm_object.specs.Heap.{Heap, cell_of, cells_in}
use Rattle.mm_sweep.specs.Release.{final_slots, final_told}
use Rattle.mm_sweep.specs.Told.{Finalize}

-- the cell of an object
pub cell-object : (h : Heap) (v : Cells) (base : ℕ) (object : StoredObject) → v ≡ cells_in h
    → Begins h.objects base object → cells.Begins v base (cell_of object)
cell-object h v base object shown begins =
    subst (λ (u : Cells). cells.Begins u base (cell_of object)) (sym shown)
    (record {
      grain = begins.grain;
      aligned = begins.aligned;
      is = slice_get-map (option_map cell_of) h.objects begins.grain ∙ ap (option_map (option_map cell_of)) begins.is;
    })

-- the flag for a finalizer is the lowest bit
flag-finalize : (finalize has_weak : Bool) → (bit_and (flags_with finalize has_weak).0 1 == 1) ≡ finalize
flag-finalize true true = refl
flag-finalize true false = refl
flag-finalize false true = refl
flag-finalize false false = refl

pub flag-told : (flags : CellBits) (finalize has_weak : Bool) → flags ≡ flags_with finalize has_weak
    → (bit_and flags.0 1 == 1) ≡ finalize
flag-told flags finalize has_weak e =
    ap (λ (bits : CellBits). bit_and bits.0 1 == 1) e ∙ flag-finalize finalize has_weak

-- the object that begins at a base is the one that is found there
based_same : (base other : ℕ) (x y : ObjectView) → other ≡ base → y ≡ x
    → ◌≡◌ {A = Based ObjectView} (record { base = other; value = y }) (record { base = base; value = x })
based_same base other x y at is =
    ap (λ (n : ℕ). record { base = n; value = y }) at ∙ ap (λ (v : ObjectView). record { base = base; value = v }) is

pub object_at-begins : (objects : ObjectsByBase) (base : ℕ) (object : ObjectView) → Begins objects base object
    → object_at objects base ≡ Some (record { base = base; value = object })
object_at-begins objects base object begins =
    let at = based_at objects base object begins in
    find-only (λ (o : Based ObjectView). o.base == base) (based objects) at.0
    (record { base = base; value = object }) at.1
    (eq-eqb base base refl)
    (λ i other is there.
    let same = eqb-true other.base base there in
    based_same base other.base object other.value same
    (begins_same objects base other.value object
    (subst (λ (n : ℕ). Begins objects n other.value) same (begins_at objects i other is)) begins))

pub stored_at-begins : (objects : StoredObjects) (base : ℕ) (object : StoredObject) → Begins objects base object
    → object_at (views_of objects) base ≡ Some (record { base = base; value = view_of_stored object })
stored_at-begins objects base object begins =
    object_at-begins (views_of objects) base (view_of_stored object)
    (begins_mapped view_of_stored objects base object begins)

-- what one finalizer is told, and what it costs
pub final_told-true : (objects : StoredObjects) (base : ℕ) (object : StoredObject) → Begins objects base object
    → object.finalize ≡ true → final_told (object_at (views_of objects) base) ≡ Finalize base object.words ∷ []
final_told-true objects base object begins flag =
    ap final_told (stored_at-begins objects base object begins)
    ∙ ap (λ (b : Bool). if b then Finalize base object.words ∷ [] else []) flag

pub final_told-false : (objects : StoredObjects) (base : ℕ) (object : StoredObject) → Begins objects base object
    → object.finalize ≡ false → final_told (object_at (views_of objects) base) ≡ []
final_told-false objects base object begins flag =
    ap final_told (stored_at-begins objects base object begins)
    ∙ ap (λ (b : Bool). if b then Finalize base object.words ∷ [] else []) flag

pub final_slots-true : (objects : StoredObjects) (base : ℕ) (object : StoredObject) → Begins objects base object
    → object.finalize ≡ true → final_slots (object_at (views_of objects) base) ≡ length object.words
final_slots-true objects base object begins flag =
    ap final_slots (stored_at-begins objects base object begins)
    ∙ ap (λ (b : Bool). if b then length object.words else 0) flag

pub final_slots-false : (objects : StoredObjects) (base : ℕ) (object : StoredObject) → Begins objects base object
    → object.finalize ≡ false → final_slots (object_at (views_of objects) base) ≡ 0
final_slots-false objects base object begins flag =
    ap final_slots (stored_at-begins objects base object begins)
    ∙ ap (λ (b : Bool). if b then length object.words else 0) flag
