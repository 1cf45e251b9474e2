-- What leaves the views of areas as they are, for callers that change the objects of a heap.
use Rattle.std.proofs.Common.{◌≡◌, ℕ, ◌+◌, ◌-◌, ◌*◌, ◌/◌, ◌<◌, ◌≤◌, inl, inr, List, Option, Some, None, sym, ap, ◌∙◌}
use Rattle.std.proofs.Common.{arith}
use Rattle.std.specs.Prelude.{slice_get}
use Rattle.std.proofs.lemmas.Bool.{cases_lt}
use Rattle.mm_pages.specs.Pages.{Pages, IsSoundHeap}
use Rattle.mm_pages.specs.Parked.{AreParked, HaveNoCommonRun}
use Rattle.mm_object.specs.Heap.{Heap, IsSound, FitsHeap, TakesWords}
use Rattle.mm_roots.specs.Areas.{Areas, IsSoundAreas, IsBeside}
use Rattle.mm_roots.specs.Views.{views_of_areas}
use Rattle.mm_roots.proofs.Blocks.{ShareNoPage-parked, parked-within}
use Rattle.mm_roots.proofs.CellWords.{cell-raw}
use Rattle.mm_roots.proofs.Views.{views_from-same}
use Rattle.mm_roots.proofs.Words.{word_at-same, words_from-same}

-- Areas lie beside a heap where the runs of both are parked in one page heap and no run is common to both.
pub IsBeside-parked : (a : Areas) (heap : Heap) (pages : Pages) → IsSoundHeap pages → AreParked a.fixed.runs pages →
    FitsHeap heap pages → HaveNoCommonRun a.fixed.runs heap.runs → IsBeside a heap
IsBeside-parked a heap pages sound parked fits clear = record {
  apart = ShareNoPage-parked pages a.fixed.runs heap.runs sound parked fits.parked clear;
  within = λ page some.
      omega (arith, parked-within pages a.fixed.runs page sound parked some, fits.memory);
}

module _ (a : Areas) (sound : IsSoundAreas a) (heap : Heap) (heap_sound : IsSound heap) (beside : IsBeside a heap) where
  -- each word outside objects is kept
  pub views-kept : (other : List (Option ℕ)) →
      ((place word : ℕ) → slice_get heap.raw place ≡ Some (Some word) → slice_get other place ≡ Some (Some word)) →
      views_of_areas a other ≡ views_of_areas a heap.raw
  views-kept other kept =
      views_from-same heap.raw other 0 a.areas (λ number area lives.
      words_from-same heap.raw other (area.base / 4) area.cells (λ here from to.
      let s : here ≡ area.base / 4 + (here - area.base / 4) = omega arith in
      let raw = cell-raw a sound number area lives heap heap_sound beside (here - area.base / 4) (omega arith) in
      let is = ap (slice_get heap.raw) s ∙ raw.1 in
      word_at-same heap.raw other here raw.0 is (kept here raw.0 is)))

  -- a word that isn't in an extent is the same in both
  outside : (other : List (Option ℕ)) (base extent : ℕ) →
      ((place : ℕ) → base ≤ 4 * place → 4 * place < base + extent → slice_get heap.raw place ≡ Some None) →
      ((place : ℕ) → 4 * place < base → slice_get other place ≡ slice_get heap.raw place) →
      ((place : ℕ) → base + extent ≤ 4 * place → slice_get other place ≡ slice_get heap.raw place) →
      views_of_areas a other ≡ views_of_areas a heap.raw
  outside other base extent inside below above =
      views-kept other (λ place word is. elim (cases_lt (4 * place) base) [
        | inl before ↦ below place before ∙ is
        | inr from ↦ elim (cases_lt (4 * place) (base + extent)) [
          | inl to ↦ absurd (cc (inside place from to, is))
          | inr past ↦ above place past ∙ is
        ]
      ])

  -- an object has taken the words of an extent, and this is the heap afterwards
  pub views-taken : (before : List (Option ℕ)) (base extent : ℕ) → TakesWords before heap.raw base extent →
      views_of_areas a heap.raw ≡ views_of_areas a before
  views-taken before base extent takes =
      sym (outside before base extent takes.inside (λ place less. sym (takes.below place less))
      (λ place past. sym (takes.above place past)))
