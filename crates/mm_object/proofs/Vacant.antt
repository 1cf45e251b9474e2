-- The place that cells find for an object: it's free, lies on the grid and in memory.
use Rattle.std.proofs.Common.{◌≡◌, ℕ, ◌+◌, ◌-◌, ◌*◌, ◌/◌, ◌<◌, ◌≤◌, length, Some, inl, inr, sym, ap, subst, ◌∙◌, arith}
use Rattle.std.specs.Prelude.{slice_index}
use Rattle.std.proofs.Math.Nat.{mul_assoc, mul_comm}
use Rattle.std.proofs.lemmas.Bool.{cases_lt}
use Rattle.mm_model.specs.declared.object.Size.{Size}
use Rattle.mm_model.specs.declared.object.Size.TheVariants.{Small, Pages}
use Rattle.mm_model.specs.Places.SizeClass.{class_sizes, class_index, size_of, extent_of, extent_of_size}
use Rattle.mm_model.specs.Places.Lowest.{IsLowest, Of_first, Of_second}
use Rattle.mm_model.proofs.Places.SizeClasses.{IsCellSize, class_bounds, class_of_small}
use Rattle.mm_model.proofs.Places.Choosing.{size_of-small, size_of-large}
use Rattle.mm_words.specs.Piece.{Piece}
use Rattle.mm_pages.specs.Pages as heaps
use Rattle.mm_cells.specs.Cells.{Taken, Cells, Begins}
use Rattle.mm_cells.specs.Placing.{IsFreeCell, IsFreePages, IsPlaceFor}
use Rattle.mm_object.specs.Heap.{Heap, FitsHeap}
use Rattle.mm_object.specs.Kept.{heap_of, KeepsHeap}

times_16 : (n u : ℕ) → n * (16 * u) ≡ 16 * (n * u)
times_16 n u = sym (mul_assoc n 16 u) ∙ ap (λ (m : ℕ). m * u) (mul_comm n 16) ∙ mul_assoc 16 n u

pub record IsVacant (memory : Piece) (cells : Cells) (extent base : ℕ) : Type 0 where
  pub grain : ℕ
  pub aligned : base ≡ 16 * grain
  pub within : grain < length cells.taken
  pub free : (cell : Taken) → Begins cells base cell → ⊥
  pub end : base + extent ≤ 4 * length memory.words

module _ (memory : Piece) (cells : Cells) (kept : KeepsHeap memory cells) (h : Heap) (is : heap_of memory cells ≡ h)
    (heap : heaps.Pages) (fits : FitsHeap h heap) where
  limit : heap.limit ≤ length memory.words / 1024
  limit = subst (λ (v : Heap). heap.limit ≤ v.size) (sym is) fits.memory

  -- free pages
  in_pages : (count extent base : ℕ) → IsFreePages heap count base → 0 < count → extent ≤ 4096 * count
      → IsVacant memory cells extent base
  in_pages count extent base pages some most =
      let first : pages.page < heap.limit =
      (pages.free pages.page (omega arith) (omega arith)).below_limit in
      let last : pages.page + (count - 1) < heap.limit =
      (pages.free (pages.page + (count - 1)) (omega arith) (omega arith)).below_limit in
      let at = pages.at in
      let whole = kept.whole in
      let top = kept.most in
      record {
        grain = 256 * pages.page;
        aligned = omega arith;
        within = omega (arith, kept.sound.size, limit);
        free = λ cell begins.
            let page : base / 4096 ≡ pages.page = omega arith in
            let run : base + cell.extent ≤ 4096 * (pages.page + slice_index cells.runs pages.page) =
            subst (λ (n : ℕ). base + cell.extent ≤ 4096 * (n + slice_index cells.runs n)) page
            (kept.sound.in_run base cell begins) in
            let big : 16 ≤ cell.extent = omega (arith, (kept.headed base cell begins).room) in
            let some_run : 0 < slice_index cells.runs pages.page = omega arith in
            let parked : slice_index heap.parked pages.page ≡ slice_index cells.runs pages.page =
            subst (λ (v : Heap). slice_index heap.parked pages.page ≡ slice_index v.runs pages.page) (sym is)
            (fits.parked.parked pages.page
            (subst (λ (v : Heap). 0 < slice_index v.runs pages.page) is some_run)) in
            (pages.free pages.page (omega arith) (omega arith)).not_parked
            (record { first = pages.page; begins = omega arith; reaches = omega arith });
        end = omega (arith, limit);
      }

  -- a free cell of a page of cells
  in_page : (extent base : ℕ) → IsFreeCell cells extent base → IsCellSize extent → IsVacant memory cells extent base
  in_page extent base cell size =
      let even : extent ≡ 16 * (extent / 16) = omega (arith, size.even) in
      let units : cell.number * extent ≡ 16 * (cell.number * (extent / 16)) =
      ap (λ (n : ℕ). cell.number * n) even ∙ times_16 cell.number (extent / 16) in
      let at = cell.at in
      let whole = cell.whole in
      let inside = cell.of_page.inside in
      let end = kept.within cell.of_page.base cell.of_page.cell cell.of_page.begins in
      let big : 16 ≤ cell.of_page.cell.extent =
      omega (arith, (kept.headed cell.of_page.base cell.of_page.cell cell.of_page.begins).room) in
      let pages = kept.whole in
      let below : cell.page < length memory.words / 1024 = omega arith in
      record {
        grain = 256 * cell.page + cell.number * (extent / 16);
        aligned = omega arith;
        within = omega (arith, kept.sound.size, kept.most, size.least);
        free = cell.free;
        end = omega arith;
      }

  small : (class base : ℕ) → IsCellSize (slice_index class_sizes class)
      → IsPlaceFor cells heap (Small class) (Some base) → IsVacant memory cells (slice_index class_sizes class) base
  small class base size (Of_first one e lowest) =
      let same : base ≡ one = cc in
      in_page (slice_index class_sizes class) base
      (subst (IsFreeCell cells (slice_index class_sizes class)) (sym same) lowest.is) size
  small class base size (Of_second none lowest) =
      in_pages 1 (slice_index class_sizes class) base lowest.is (omega arith) (omega (arith, size.most))

  pub vacant : (bytes base : ℕ) → 1 ≤ bytes → IsPlaceFor cells heap (size_of bytes) (Some base)
      → IsVacant memory cells (extent_of bytes) base
  vacant bytes base some place = elim (cases_lt 2048 bytes) [
    | inr short ↦
        let size : size_of bytes ≡ Small (class_index bytes) = size_of-small bytes short in
        subst (λ (n : ℕ). IsVacant memory cells n base) (sym (ap (λ (s : Size). extent_of_size s) size))
        (small (class_index bytes) base
        (class_bounds (slice_index class_sizes (class_index bytes)) (class_of_small bytes short))
        (subst (λ (s : Size). IsPlaceFor cells heap s (Some base)) size place))
    | inl long ↦
        let size : size_of bytes ≡ Pages ((bytes + 4095) / 4096) = size_of-large bytes long in
        let lowest : IsLowest (IsFreePages heap ((bytes + 4095) / 4096)) base =
        subst (λ (s : Size). IsPlaceFor cells heap s (Some base)) size place in
        subst (λ (n : ℕ). IsVacant memory cells n base) (sym (ap (λ (s : Size). extent_of_size s) size))
        (in_pages ((bytes + 4095) / 4096) (4096 * ((bytes + 4095) / 4096)) base lowest.is (omega arith) (omega arith))
  ]
