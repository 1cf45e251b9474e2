-- A heap once an object was taken away.
use Rattle.std.proofs.Common.{◌≡◌, ℕ, ◌/◌, ◌≤◌, length, None, refl, sym, ap, subst, ◌∙◌, arith}
use Rattle.std.specs.Prelude.{slice_set}
use Rattle.mm_model.specs.Views.ByBase as bases
use Rattle.mm_words.specs.Piece.{Piece}
use Rattle.mm_pages.specs.Pages as heaps
use Rattle.mm_pages.specs.Parked.{AreParked}
use Rattle.mm_cells.specs.Cells.{Cells, IsSoundCells}
use Rattle.mm_cells.specs.Placing.{LeavesPage, Page_stays, Page_goes}
use Rattle.mm_object.specs.Object.{StoredObject}
use Rattle.mm_object.specs.Heap.{Heap, cells_in, FitsHeap, LeavesWords}
use Rattle.mm_object.specs.Kept.{heap_of, raw_from, KeepsHeap}
use Rattle.mm_object.proofs.Born.{changed_cells}
use Rattle.mm_object.proofs.Calls.{at-object}
use Rattle.mm_object.proofs.Gone.{gone-heap, gone-kept, gone-raw}
use Rattle.mm_object.proofs.Sound.{cells-heap}

pub leaves-limit : (before after : Cells) (heap : heaps.Pages) (page : ℕ) (left : heaps.Pages)
    → LeavesPage before after heap page left → left.limit ≡ heap.limit
leaves-limit before after heap page left (Page_stays base cell begins here runs) = refl
leaves-limit before after heap page left (Page_goes none runs) = refl

module _ (memory : Piece) (cells : Cells) (kept : KeepsHeap memory cells) (h : Heap) (is : heap_of memory cells ≡ h)
    (base : ℕ) (object : StoredObject) (begins : bases.Begins h.objects base object) (after : Cells)
    (gone : after ≡ changed_cells cells base None after.runs) (sound : IsSoundCells after) where
  pub erased-kept : KeepsHeap memory after
  erased-kept =
      let at = at-object memory cells kept h is base object begins in
      subst (KeepsHeap memory) (sym gone)
      (gone-kept memory cells kept base at.cell at.begins after.runs (subst IsSoundCells gone sound))

  pub erased-heap : heap_of memory after
      ≡ record h {
        objects = bases.with_entry base None h.objects;
        runs = after.runs;
        raw = (heap_of memory after).raw;
      }
  erased-heap =
      let at = at-object memory cells kept h is base object begins in
      ap (heap_of memory) gone
      ∙ gone-heap memory cells kept base at.cell at.begins after.runs
      ∙ ap (λ (v : Heap). record v {
        objects = bases.with_entry base None v.objects;
        runs = after.runs;
        raw = raw_from (slice_set cells.taken (base / 16) None) 0 memory.words;
      }) is
      ∙ ap (λ (v : Cells). record h {
        objects = bases.with_entry base None h.objects;
        runs = after.runs;
        raw = raw_from v.taken 0 memory.words;
      }) (sym gone)

  pub erased-raw : LeavesWords h.raw (raw_from after.taken 0 memory.words) base object.extent
  erased-raw =
      let at = at-object memory cells kept h is base object begins in
      subst (λ (o : StoredObject). LeavesWords h.raw (raw_from after.taken 0 memory.words) base o.extent) (sym at.is)
      (subst (λ (v : Heap). LeavesWords v.raw (raw_from after.taken 0 memory.words) base at.cell.extent) is
      (subst (λ (v : Cells). LeavesWords (heap_of memory cells).raw (raw_from v.taken 0 memory.words) base
      at.cell.extent)
      (sym gone) (gone-raw memory cells kept base at.cell at.begins after.runs)))

  pub erased-page : (heap left : heaps.Pages) → LeavesPage cells after heap (base / 4096) left
      → LeavesPage (cells_in h) (cells_in (heap_of memory after)) heap (base / 4096) left
  erased-page heap left page =
      subst (λ (v : Heap). LeavesPage (cells_in v) (cells_in (heap_of memory after)) heap (base / 4096) left) is
      (subst (λ (v : Cells). LeavesPage v (cells_in (heap_of memory after)) heap (base / 4096) left)
      (sym (cells-heap memory cells kept))
      (subst (λ (v : Cells). LeavesPage cells v heap (base / 4096) left)
      (sym (cells-heap memory after erased-kept)) page))

  pub erased-fits : (heap left : heaps.Pages) → FitsHeap h heap → LeavesPage cells after heap (base / 4096) left
      → AreParked after.runs left → FitsHeap (heap_of memory after) left
  erased-fits heap left fits page parked =
      let limit : left.limit ≡ heap.limit = leaves-limit cells after heap (base / 4096) left page in
      let memory_end : heap.limit ≤ length memory.words / 1024 =
      subst (λ (v : Heap). heap.limit ≤ v.size) (sym is) fits.memory in
      record { parked = parked; memory = omega arith }
