-- A heap once an object was made in it.
use Rattle.std.proofs.Common.{◌≡◌, ℕ, ◌+◌, ◌/◌, ◌≤◌, false, List, length, Option, Some, None, refl, sym, ap, subst}
use Rattle.std.proofs.Common.{◌∙◌, arith}
use Rattle.std.specs.Prelude.{Result, Ok, Err, IsErr, slice_get, slice_set}
use Rattle.std.proofs.lemmas.List.{set-set}
use Rattle.mm_model.specs.declared.object.Shape.{Shape}
use Rattle.mm_model.specs.declared.object.Colour.{Colour}
use Rattle.mm_model.specs.Places.SizeClass.{size_of, extent_of, object_bytes}
use Rattle.mm_model.specs.Views.ByBase as bases
use Rattle.mm_model.proofs.Lists.Replaced.{get-set_same}
use Rattle.mm_words.specs.Piece.{Piece, with_words}
use Rattle.mm_words.specs.Writes.{written}
use Rattle.mm_words.proofs.Writes.{length-written}
use Rattle.mm_pages.specs.Pages as heaps
use Rattle.mm_cells.specs.declared.marks.CellBits.{CellBits}
use Rattle.mm_cells.specs.Cells.{Taken, Cells, with_cell, with_run, newly_taken, Begins, IsSoundCells}
use Rattle.mm_pages.specs.Parked.{AreParked}
use Rattle.mm_cells.specs.Placing.{IsPlaceFor, found_in, run_length}
use Rattle.mm_object.specs.Object.{StoredObject, newly_stored, flags_with}
use Rattle.mm_object.specs.Header.{IsShape, shape_in, first_word, second_word}
use Rattle.mm_object.specs.Heap.{Heap, cells_in, FitsHeap, TakesWords}
use Rattle.mm_object.specs.Kept.{object_told, newborn_words, objects_from, raw_from, heap_of, IsHeaded, KeepsHeap}
use Rattle.mm_object.proofs.Born.{changed_cells, born-heap, born-kept, born-raw, born-none}
use Rattle.mm_object.proofs.Newborn.{newborn_cell, told-newborn, headed-newborn, extent-newborn, changes-newborn}
use Rattle.mm_object.proofs.Recolouring.{begins-here}
use Rattle.mm_object.proofs.Sound.{cells-heap}
use Rattle.mm_object.proofs.Vacant.{IsVacant, vacant}
use Rattle.mm_object.proofs.Writes.{ChangesWithin}

-- the cells once a place was taken in them, and then its flags were noted
pub cells-flagged : (cells placed after : Cells) (base page count extent : ℕ) (colour : Colour) (flags : CellBits)
    → placed ≡ with_run (with_cell cells base (Some (newly_taken extent colour))) page count
    → after ≡ with_cell placed base (Some (record (newly_taken extent colour) { flags = flags }))
    → after ≡ changed_cells cells base (Some (record (newly_taken extent colour) { flags = flags }))
    (slice_set cells.runs page count)
cells-flagged cells placed after base page count extent colour flags e f =
    f ∙ ap (λ (v : Cells). with_cell v base (Some (record (newly_taken extent colour) { flags = flags }))) e
    ∙ ap (λ (taken : List (Option Taken)). record cells { taken = taken; runs = slice_set cells.runs page count })
    (set-set cells.taken (base / 16) (Some (newly_taken extent colour))
    (Some (record (newly_taken extent colour) { flags = flags })))

pub placed-begins : (memory : Piece) (cells placed : Cells) (base page count extent : ℕ) (colour : Colour)
    → IsVacant memory cells extent base
    → placed ≡ with_run (with_cell cells base (Some (newly_taken extent colour))) page count
    → Begins placed base (newly_taken extent colour)
placed-begins memory cells placed base page count extent colour place e =
    let one = begins-here cells place.grain base (newly_taken extent colour) place.aligned place.within in
    subst (λ (v : Cells). Begins v base (newly_taken extent colour)) (sym e)
    (record { grain = one.grain; aligned = one.aligned; is = one.is })

-- the place that the cells found is that of the heap's cells
pub place-shown : (memory : Piece) (cells : Cells) → KeepsHeap memory cells → (h : Heap) → heap_of memory cells ≡ h
    → (heap : heaps.Pages) (bytes size : ℕ) → bytes ≡ size → (found shown : Option ℕ) → shown ≡ found
    → IsPlaceFor cells heap (size_of bytes) found → IsPlaceFor (cells_in h) heap (size_of size) shown
place-shown memory cells kept h is heap bytes size e found shown f place =
    subst (λ (v : Heap). IsPlaceFor (cells_in v) heap (size_of size) shown) is
    (subst (λ (v : Cells). IsPlaceFor v heap (size_of size) shown) (sym (cells-heap memory cells kept))
    (subst (λ (o : Option ℕ). IsPlaceFor cells heap (size_of size) o) (sym f)
    (subst (λ (n : ℕ). IsPlaceFor cells heap (size_of n) found) e place)))

pub found-none : {E : Type 0} (r : Result ℕ E) → IsErr r → found_in r ≡ None
found-none (Ok base) h = absurd (cc)
found-none (Err e) h = refl

-- where a new object goes, and the cells once its place was taken
pub record IsMade (memory : Piece) (cells placed : Cells) (shape : Shape) (colour : Colour) (base : ℕ) : Type 0 where
  pub vacant : IsVacant memory cells (extent_of (object_bytes shape.slots)) base
  pub placed_is : placed ≡ with_run
      (with_cell cells base (Some (newly_taken (extent_of (object_bytes shape.slots)) colour))) (base / 4096)
      (run_length (size_of (object_bytes shape.slots)))
  pub enough : object_bytes shape.slots ≤ extent_of (object_bytes shape.slots)

pub made : (memory : Piece) (cells : Cells) → KeepsHeap memory cells → (h : Heap) → heap_of memory cells ≡ h
    → (heap : heaps.Pages) → FitsHeap h heap → (shape : Shape) (colour : Colour) (bytes : ℕ)
    → bytes ≡ object_bytes shape.slots → (base : ℕ) (placed : Cells)
    → IsPlaceFor cells heap (size_of bytes) (Some base)
    → placed ≡ with_run (with_cell cells base (Some (newly_taken (extent_of bytes) colour))) (base / 4096)
    (run_length (size_of bytes))
    → bytes ≤ extent_of bytes → IsMade memory cells placed shape colour base
made memory cells kept h is heap fits shape colour bytes e base placed place taken enough =
    record {
      vacant =
          vacant memory cells kept h is heap fits (object_bytes shape.slots) base (omega arith)
          (subst (λ (n : ℕ). IsPlaceFor cells heap (size_of n) (Some base)) e place);
      placed_is =
          taken ∙ ap (λ (n : ℕ). with_run (with_cell cells base (Some (newly_taken (extent_of n) colour))) (base / 4096)
          (run_length (size_of n))) e;
      enough = subst (λ (n : ℕ). n ≤ extent_of n) e enough;
    }

-- the place begins a cell, and the words of a new object lie in memory
pub made-begins : (memory : Piece) (cells placed : Cells) (shape : Shape) (colour : Colour) (base : ℕ)
    → IsMade memory cells placed shape colour base
    → Begins placed base (newly_taken (extent_of (object_bytes shape.slots)) colour)
made-begins memory cells placed shape colour base m =
    placed-begins memory cells placed base (base / 4096) (run_length (size_of (object_bytes shape.slots)))
    (extent_of (object_bytes shape.slots)) colour m.vacant m.placed_is

pub made-within : (memory : Piece) (cells placed : Cells) (shape : Shape) (colour : Colour) (base : ℕ)
    → IsMade memory cells placed shape colour base → base / 4 + 4 + shape.slots ≤ length memory.words
made-within memory cells placed shape colour base m = omega (arith, m.vacant.end, m.vacant.aligned, m.enough)

pub made-cells : (memory : Piece) (cells placed after : Cells) (shape : Shape) (colour : Colour) (base : ℕ)
    (flags : CellBits) → IsMade memory cells placed shape colour base → flags ≡ flags_with shape.finalize false
    → ((cell : Taken) → Begins placed base cell → after ≡ with_cell placed base (Some (record cell { flags = flags })))
    → after ≡ changed_cells cells base (Some (newborn_cell shape colour))
    (slice_set cells.runs (base / 4096) (run_length (size_of (object_bytes shape.slots))))
made-cells memory cells placed after shape colour base flags m known told =
    cells-flagged cells placed after base (base / 4096) (run_length (size_of (object_bytes shape.slots)))
    (extent_of (object_bytes shape.slots)) colour (flags_with shape.finalize false) m.placed_is
    (told (newly_taken (extent_of (object_bytes shape.slots)) colour)
    (made-begins memory cells placed shape colour base m)
    ∙ ap (λ (f : CellBits). with_cell placed base
    (Some (record (newly_taken (extent_of (object_bytes shape.slots)) colour) { flags = f }))) known)

module _ (memory : Piece) (cells : Cells) (kept : KeepsHeap memory cells) (h : Heap) (is : heap_of memory cells ≡ h)
    (shape : Shape) (colour : Colour) (ok : IsShape shape)
    (means : shape_in (first_word shape) (second_word shape) ≡ shape)
    (enough : object_bytes shape.slots ≤ extent_of (object_bytes shape.slots)) (base : ℕ)
    (place : IsVacant memory cells (extent_of (object_bytes shape.slots)) base) (runs : List ℕ) where
  now : Taken
  now = newborn_cell shape colour

  short : 4 + shape.slots ≤ extent_of (object_bytes shape.slots) / 4
  short = omega (arith, enough)

  within : base / 4 + (4 + shape.slots) ≤ length memory.words
  within = omega (arith, place.end, place.aligned, short)

  module _ (after : Cells)
      (flagged : after ≡ changed_cells cells base (Some (newborn_cell shape colour)) runs)
      (sound : IsSoundCells after) (filled : Piece)
      (writes : filled ≡ with_words memory (written (base / 4) (newborn_words shape) memory.words)) where
    changes : ChangesWithin memory.words (written (base / 4) (newborn_words shape) memory.words) base
        (extent_of (object_bytes shape.slots))
    changes = changes-newborn memory.words shape base (extent_of (object_bytes shape.slots)) short within

    sound_now : IsSoundCells (changed_cells cells base (Some (newborn_cell shape colour)) runs)
    sound_now = subst IsSoundCells flagged sound

    pub created-kept : KeepsHeap filled after
    created-kept =
        let own = extent-newborn memory.words shape base (extent_of (object_bytes shape.slots)) short within in
        subst (λ (p : Piece). KeepsHeap p after) (sym writes)
        (subst (λ (v : Cells). KeepsHeap (with_words memory (written (base / 4) (newborn_words shape) memory.words)) v)
        (sym flagged)
        (born-kept memory cells kept base (newborn_cell shape colour) runs place sound_now
        (written (base / 4) (newborn_words shape) memory.words) changes
        (subst (IsHeaded (newborn_cell shape colour)) (sym own.1)
        (headed-newborn shape colour ok means own.0 enough))))

    pub created-heap : heap_of filled after
        ≡ record h {
          objects = bases.with_entry base (Some (newly_stored shape colour)) h.objects;
          runs = runs;
          raw = (heap_of filled after).raw;
        }
    created-heap =
        let own = extent-newborn memory.words shape base (extent_of (object_bytes shape.slots)) short within in
        let raw : raw_from (slice_set cells.taken (base / 16) (Some (newborn_cell shape colour))) 0
        (written (base / 4) (newborn_words shape) memory.words) ≡ (heap_of filled after).raw =
        ap (λ (v : Cells). raw_from v.taken 0 (written (base / 4) (newborn_words shape) memory.words)) (sym flagged)
        ∙ ap (λ (p : Piece). raw_from after.taken 0 p.words) (sym writes) in
        ap (λ (p : Piece). heap_of p after) writes
        ∙ ap (λ (v : Cells). heap_of (with_words memory (written (base / 4) (newborn_words shape) memory.words)) v)
        flagged
        ∙ born-heap memory cells kept base (newborn_cell shape colour) runs place sound_now
        (written (base / 4) (newborn_words shape) memory.words) changes
        ∙ ap (λ (o : StoredObject). record (heap_of memory cells) {
          objects = bases.with_entry base (Some o) (objects_from memory.words 0 cells.taken);
          runs = runs;
          raw = raw_from (slice_set cells.taken (base / 16) (Some (newborn_cell shape colour))) 0
              (written (base / 4) (newborn_words shape) memory.words);
        }) (ap (object_told (newborn_cell shape colour)) own.1 ∙ told-newborn shape colour ok means own.0)
        ∙ ap (λ (ws : List (Option ℕ)). record (heap_of memory cells) {
          objects = bases.with_entry base (Some (newly_stored shape colour)) (objects_from memory.words 0 cells.taken);
          runs = runs;
          raw = ws;
        }) raw
        ∙ ap (λ (v : Heap). record v {
          objects = bases.with_entry base (Some (newly_stored shape colour)) v.objects;
          runs = runs;
          raw = (heap_of filled after).raw;
        }) is

    pub created-raw : TakesWords h.raw (heap_of filled after).raw base (extent_of (object_bytes shape.slots))
    created-raw =
        subst (λ (v : Heap). TakesWords v.raw (heap_of filled after).raw base (extent_of (object_bytes shape.slots))) is
        (subst (λ (p : Piece). TakesWords (heap_of memory cells).raw (heap_of p after).raw base
        (extent_of (object_bytes shape.slots))) (sym writes)
        (subst (λ (v : Cells). TakesWords (heap_of memory cells).raw
        (raw_from v.taken 0 (written (base / 4) (newborn_words shape) memory.words)) base
        (extent_of (object_bytes shape.slots))) (sym flagged)
        (born-raw memory cells kept base (newborn_cell shape colour) runs place sound_now
        (written (base / 4) (newborn_words shape) memory.words) changes)))

    pub created-none : slice_get h.objects (base / 16) ≡ Some None
    created-none =
        subst (λ (v : Heap). slice_get v.objects (base / 16) ≡ Some None) is
        (born-none memory cells kept base (newborn_cell shape colour) runs place sound_now)

    pub created-begins : bases.Begins (heap_of filled after).objects base (newly_stored shape colour)
    created-begins =
        let at : base / 16 ≡ place.grain = omega (arith, place.aligned) in
        subst (λ (v : Heap). bases.Begins v.objects base (newly_stored shape colour)) (sym created-heap) (record {
          grain = place.grain;
          aligned = place.aligned;
          is =
              ap (λ (k : ℕ). slice_get (slice_set h.objects k (Some (newly_stored shape colour))) place.grain) at
              ∙ get-set_same h.objects place.grain None (Some (newly_stored shape colour))
              (ap (λ (k : ℕ). slice_get h.objects k) (sym at) ∙ created-none);
        })

    -- its cells stay parked, and memory has as many pages as before
    pub created-fits : (heap left : heaps.Pages) → FitsHeap h heap → left.limit ≡ heap.limit → AreParked after.runs left
        → FitsHeap (heap_of filled after) left
    created-fits heap left fits limit parked =
        let end : heap.limit ≤ length memory.words / 1024 =
        subst (λ (v : Heap). heap.limit ≤ v.size) (sym is) fits.memory in
        let size : length filled.words ≡ length memory.words =
        ap (λ (p : Piece). length p.words) writes
        ∙ length-written (base / 4) (newborn_words shape) memory.words in
        let end_now : heap.limit ≤ length filled.words / 1024 =
        subst (λ (n : ℕ). heap.limit ≤ n / 1024) (sym size) end in
        record { parked = parked; memory = omega arith }
