-- The objects that memory and cells tell, entry by entry.
use Rattle.std.proofs.Common.{◌≡◌, ℕ, zero, suc, ◌+◌, ◌*◌, ◌<◌, List, [], ◌∷◌, map, length, Option, Some, None, inl}
use Rattle.std.proofs.Common.{inr, refl, sym, ap, ◌∙◌, arith}
use Rattle.std.specs.Prelude.{slice_get, slice_set}
use Rattle.std.specs.Option.{option_map}
use Rattle.std.proofs.lemmas.Bool.{cases_eq}
use Rattle.mm_model.specs.Views.ByBase as bases
use Rattle.mm_model.proofs.View.ByBase.Entries.{same_entries}
use Rattle.mm_model.proofs.Lists.Replaced.{get-set_same, get-set_other}
use Rattle.mm_cells.specs.Cells.{Taken, Cells, Begins}
use Rattle.mm_cells.specs.declared.marks.CellBits.{CellBits}
use Rattle.mm_object.specs.Object.{StoredObject, flags_with, has_weak_object}
use Rattle.mm_object.specs.Heap.{cell_of}
use Rattle.mm_object.specs.Kept.{shape_told, extent_words, object_at, objects_from}

pub get-objects_from : (words : List ℕ) (low : ℕ) (taken : List (Option Taken)) (k : ℕ)
    → slice_get (objects_from words low taken) k
    ≡ option_map (option_map (object_at words (low + 16 * k))) (slice_get taken k)
get-objects_from words low [] k = refl
get-objects_from words low (cell ∷ taken) zero =
    let here : low ≡ low + 16 * 0 = omega arith in ap (λ (n : ℕ). Some (option_map (object_at words n) cell)) here
get-objects_from words low (cell ∷ taken) (suc k) =
    let next : low + 16 + 16 * k ≡ low + 16 * suc k = omega arith in
    get-objects_from words (low + 16) taken k
    ∙ ap (λ (n : ℕ). option_map (option_map (object_at words n)) (slice_get taken k)) next

pub get-objects : (words : List ℕ) (taken : List (Option Taken)) (k : ℕ)
    → slice_get (objects_from words 0 taken) k
    ≡ option_map (option_map (object_at words (16 * k))) (slice_get taken k)
get-objects words taken k =
    let same : 0 + 16 * k ≡ 16 * k = omega arith in
    get-objects_from words 0 taken k
    ∙ ap (λ (n : ℕ). option_map (option_map (object_at words n)) (slice_get taken k)) same

pub length-objects_from : (words : List ℕ) (low : ℕ) (taken : List (Option Taken))
    → length (objects_from words low taken) ≡ length taken
length-objects_from words low [] = refl
length-objects_from words low (cell ∷ taken) = ap suc (length-objects_from words (low + 16) taken)

-- in each cell there is an object
pub begins-object : (words : List ℕ) (cells : Cells) (base : ℕ) (cell : Taken) → Begins cells base cell
    → bases.Begins (objects_from words 0 cells.taken) base (object_at words base cell)
begins-object words cells base cell h =
    let aligned : 16 * h.grain ≡ base = sym h.aligned in
    record {
      grain = h.grain;
      aligned = h.aligned;
      is =
          get-objects words cells.taken h.grain
          ∙ ap (λ (x : Option (Option Taken)). option_map (option_map (object_at words (16 * h.grain))) x) h.is
          ∙ ap (λ (n : ℕ). Some (Some (object_at words n cell))) aligned;
    }

-- the cell of an object
pub record IsIn (words : List ℕ) (cells : Cells) (base : ℕ) (object : StoredObject) : Type 0 where
  pub cell : Taken
  pub begins : Begins cells base cell
  pub is : object ≡ object_at words base cell

pub object-begins : (words : List ℕ) (cells : Cells) (base : ℕ) (object : StoredObject)
    → bases.Begins (objects_from words 0 cells.taken) base object → IsIn words cells base object
object-begins words cells base object h = split (slice_get cells.taken h.grain) refl
  where
    split : (entry : Option (Option Taken)) → slice_get cells.taken h.grain ≡ entry → IsIn words cells base object
    split None e =
        let none = sym h.is ∙ get-objects words cells.taken h.grain
        ∙ ap (λ (x : Option (Option Taken)). option_map (option_map (object_at words (16 * h.grain))) x) e in
        absurd (cc)
    split (Some None) e =
        let none = sym h.is ∙ get-objects words cells.taken h.grain
        ∙ ap (λ (x : Option (Option Taken)). option_map (option_map (object_at words (16 * h.grain))) x) e in
        absurd (cc)
    split (Some (Some cell)) e =
        let aligned : 16 * h.grain ≡ base = sym h.aligned in
        let same : ◌≡◌ {A = Option (Option StoredObject)} (Some (Some object)) (Some (Some (object_at words base cell)))
        =
        sym h.is ∙ get-objects words cells.taken h.grain
        ∙ ap (λ (x : Option (Option Taken)). option_map (option_map (object_at words (16 * h.grain))) x) e
        ∙ ap (λ (n : ℕ). Some (Some (object_at words n cell))) aligned in
        record {
          cell = cell;
          begins = record { grain = h.grain; aligned = h.aligned; is = e };
          is = cc;
        }

-- one entry changes, where all other cells tell the same objects
pub objects-changed : (words others : List ℕ) (taken : List (Option Taken)) (grain : ℕ) (entry : Option Taken)
    → grain < length taken
    → ((k : ℕ) (cell : Taken) → (k ≡ grain → ⊥) → slice_get taken k ≡ Some (Some cell)
    → object_at others (16 * k) cell ≡ object_at words (16 * k) cell)
    → objects_from others 0 (slice_set taken grain entry)
    ≡ slice_set (objects_from words 0 taken) grain (option_map (object_at others (16 * grain)) entry)
objects-changed words others taken grain entry within same = same_entries _ _ each
  where
    here : Option StoredObject
    here = option_map (object_at others (16 * grain)) entry

    old : (x : Option Taken) → slice_get taken grain ≡ Some x
        → slice_get (slice_set (objects_from words 0 taken) grain (option_map (object_at others (16 * grain)) entry))
        grain
        ≡ Some (option_map (object_at others (16 * grain)) entry)
    old x e =
        get-set_same (objects_from words 0 taken) grain (option_map (object_at words (16 * grain)) x)
        (option_map (object_at others (16 * grain)) entry)
        (get-objects words taken grain
        ∙ ap (λ (y : Option (Option Taken)). option_map (option_map (object_at words (16 * grain))) y) e)

    inside : (x : Option (Option Taken)) → slice_get taken grain ≡ x
        → slice_get (objects_from others 0 (slice_set taken grain entry)) grain
        ≡ slice_get (slice_set (objects_from words 0 taken) grain (option_map (object_at others (16 * grain)) entry))
        grain
    inside None e = absurd (past taken grain within e)
      where
        past : (xs : List (Option Taken)) (n : ℕ) → n < length xs → slice_get xs n ≡ None → ⊥
        past [] n h e = omega arith
        past (x ∷ xs) zero h e = absurd (cc)
        past (x ∷ xs) (suc n) h e = past xs n (omega arith) e
    inside (Some x) e =
        get-objects others (slice_set taken grain entry) grain
        ∙ ap (λ (y : Option (Option Taken)). option_map (option_map (object_at others (16 * grain))) y)
        (get-set_same taken grain x entry e)
        ∙ sym (old x e)

    alike : (k : ℕ) → (k ≡ grain → ⊥) → (x : Option (Option Taken)) → slice_get taken k ≡ x
        → option_map (option_map (object_at others (16 * k))) x ≡ option_map (option_map (object_at words (16 * k))) x
    alike k d None e = refl
    alike k d (Some None) e = refl
    alike k d (Some (Some cell)) e = ap (λ (o : StoredObject). Some (Some o)) (same k cell d e)

    each : (k : ℕ) → slice_get (objects_from others 0 (slice_set taken grain entry)) k
        ≡ slice_get (slice_set (objects_from words 0 taken) grain (option_map (object_at others (16 * grain)) entry)) k
    each k = elim (cases_eq k grain) [
      | inl e ↦
          ap (slice_get (objects_from others 0 (slice_set taken grain entry))) e
          ∙ inside (slice_get taken grain) refl
          ∙ ap (slice_get (slice_set (objects_from words 0 taken) grain
          (option_map (object_at others (16 * grain)) entry)))
          (sym e)
      | inr d ↦
          get-objects others (slice_set taken grain entry) k
          ∙ ap (λ (y : Option (Option Taken)). option_map (option_map (object_at others (16 * k))) y)
          (get-set_other taken grain k entry d)
          ∙ alike k d (slice_get taken k) refl
          ∙ sym (get-objects words taken k)
          ∙ sym (get-set_other (objects_from words 0 taken) grain k (option_map (object_at others (16 * grain)) entry)
          d)
    ]

-- all cells tell the same objects
pub objects-alike : (words others : List ℕ) (taken : List (Option Taken))
    → ((k : ℕ) (cell : Taken) → slice_get taken k ≡ Some (Some cell)
    → object_at others (16 * k) cell ≡ object_at words (16 * k) cell)
    → objects_from others 0 taken ≡ objects_from words 0 taken
objects-alike words others taken same =
    same_entries _ _
    (λ k. get-objects others taken k ∙ alike k (slice_get taken k) refl ∙ sym (get-objects words taken k))
  where
    alike : (k : ℕ) (x : Option (Option Taken)) → slice_get taken k ≡ x
        → option_map (option_map (object_at others (16 * k))) x ≡ option_map (option_map (object_at words (16 * k))) x
    alike k None e = refl
    alike k (Some None) e = refl
    alike k (Some (Some cell)) e = ap (λ (o : StoredObject). Some (Some o)) (same k cell e)

-- the cells of the objects, which tell what the cells say
pub cells-objects_from : (words : List ℕ) (low : ℕ) (taken : List (Option Taken))
    → ((k : ℕ) (cell : Taken) → slice_get taken k ≡ Some (Some cell)
    → cell.flags
    ≡ flags_with (shape_told (extent_words words (low + 16 * k) cell.extent)).finalize (has_weak_object cell.flags))
    → map (option_map cell_of) (objects_from words low taken) ≡ taken
cells-objects_from words low [] same = refl
cells-objects_from words low (cell ∷ taken) same =
    ap (λ (xs : List (Option Taken)). option_map cell_of (option_map (object_at words low) cell) ∷ xs)
    (cells-objects_from words (low + 16) taken (λ k other e.
    let next : low + 16 * suc k ≡ low + 16 + 16 * k = omega arith in
    same (suc k) other e
    ∙ ap (λ (n : ℕ). flags_with (shape_told (extent_words words n other.extent)).finalize (has_weak_object other.flags))
    next))
    ∙ ap (λ (x : Option Taken). x ∷ taken) (here cell refl)
  where
    here : (x : Option Taken) → cell ≡ x → option_map cell_of (option_map (object_at words low) x) ≡ x
    here None e = refl
    here (Some one) e =
        let first : low + 16 * 0 ≡ low = omega arith in
        let flags = same 0 one (ap Some e)
        ∙ ap (λ (n : ℕ). flags_with (shape_told (extent_words words n one.extent)).finalize (has_weak_object one.flags))
        first in
        ap (λ (f : CellBits). Some (record one { flags = f })) (sym flags)
