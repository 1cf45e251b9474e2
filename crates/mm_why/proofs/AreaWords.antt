-- The words of scanned areas, by their numbers and cells.
use Rattle.std.proofs.Common.{◌≡◌, ◌≢◌, ℕ, zero, suc, ◌+◌, ◌-◌, ◌*◌, ◌/◌, ◌<◌, ◌≤◌, inl, inr, Bool, true, false, List}
use Rattle.std.proofs.Common.{[], ◌∷◌, ◌++◌, length}
use Rattle.std.proofs.Common.{Option, Some, None, refl, sym, ap, ◌∙◌, arith, append_assoc, length-append}
use Rattle.std.specs.Prelude.{slice_get, slice_index_or, if◌then◌else◌}
use Rattle.std.proofs.lemmas.Bool.{cases_lt}
use Rattle.mm_model.specs.Views.ObjectView.{ObjectsByBase}
use Rattle.mm_object.specs.Object.{views_of}
use Rattle.mm_object.specs.Heap.{Heap}
use Rattle.mm_roots.specs.declared.area_shape.AreaShape.{AreaShape}
use Rattle.mm_roots.specs.declared.area_shape.ScannedArea.{ScannedArea}
use Rattle.mm_roots.specs.Areas.{Areas, IsScanned}
use Rattle.mm_roots.specs.Views.{words_from, cell_words, area_words, view_of_area, views_from, views_of_areas}
use Rattle.mm_roots.specs.Views.{scanned_words_from}
use Rattle.mm_why.specs.declared.found.Found.{Found}
use Rattle.mm_why.specs.Path.{IsAreaWord}
use Rattle.mm_why.specs.Queue.{IsGrown}
use Rattle.mm_why.specs.Search.{AreWordsFound}
use Rattle.mm_why.proofs.Noted.{found-grown, none-found}

-- so many words there are in an area
pub length-words_from : (raw : List (Option ℕ)) (place count : ℕ) → length (words_from raw place count) ≡ count
length-words_from raw place zero = refl
length-words_from raw place (suc count) = ap suc (length-words_from raw (place + 1) count)

pub length-cell_words : (raw : List (Option ℕ)) (base cells : ℕ) → length (cell_words raw base cells) ≡ cells
length-cell_words raw base cells = length-words_from raw (base / 4) cells

-- an area with a number is seen
viewed : (raw : List (Option ℕ)) (low : ℕ) (areas : List (Option AreaShape)) (k : ℕ) (shape : AreaShape)
    → slice_index_or areas k None ≡ Some shape
    → (place : ℕ) × (slice_get (views_from raw low areas) place ≡ Some (view_of_area raw (low + k) shape))
viewed raw low [] k shape e = cc
viewed raw low (None ∷ areas) zero shape e = cc
viewed raw low (None ∷ areas) (suc k) shape e =
    let rest = viewed raw (low + 1) areas k shape e in
    let at : low + 1 + k ≡ low + suc k = omega arith in
    (rest.0, rest.1 ∙ ap (λ (n : ℕ). Some (view_of_area raw n shape)) at)
viewed raw low (Some own ∷ areas) zero shape e =
    let same : own ≡ shape = cc in
    let at : low ≡ low + 0 = omega arith in (
      0,
      ap (λ (n : ℕ). Some (view_of_area raw n own)) at
          ∙ ap (λ (s : AreaShape). Some (view_of_area raw (low + 0) s)) same,
    )
viewed raw low (Some own ∷ areas) (suc k) shape e =
    let rest = viewed raw (low + 1) areas k shape e in
    let at : low + 1 + k ≡ low + suc k = omega arith in
    (suc rest.0, rest.1 ∙ ap (λ (n : ℕ). Some (view_of_area raw n shape)) at)

scanned : (b : Bool) (words : List ℕ) → b ≢ false → (if b then words else []) ≡ words
scanned true words h = refl
scanned false words h = absurd (h refl)

pub area-word : (areas : Areas) (raw : List (Option ℕ)) (area : ScannedArea) (cell word : ℕ) → IsScanned areas area
    → slice_get (cell_words raw area.base area.cells) cell ≡ Some word
    → IsAreaWord (views_of_areas areas raw) area.number cell word
area-word areas raw area cell word s holds =
    let at = viewed raw 0 areas.areas area.number s.shape s.lives in
    let words : area_words raw s.shape ≡ cell_words raw area.base area.cells =
    ap (λ (b : ℕ). cell_words raw b s.shape.cells) s.base ∙ ap (cell_words raw area.base) s.cells in
    record {
      place = at.0;
      area = view_of_area raw (0 + area.number) s.shape;
      is = at.1;
      numbered = omega arith;
      holds = ap (λ (ws : List ℕ). slice_get ws cell)
          (scanned s.shape.scanned (area_words raw s.shape) s.scanned ∙ words)
          ∙ holds;
    }

-- The words of the scanned areas whose numbers are below one are noted, two steps a word.
pub record AreAreasNoted (areas : Areas) (heap : Heap) (found : List Found) (from start steps : ℕ) : Type 0 where
  pub words : List ℕ
  pub noted : AreWordsFound (views_of heap.objects) found words 1
  pub rest : words ++ scanned_words_from areas heap.raw from ≡ scanned_words_from areas heap.raw 0
  pub paid : steps ≡ start + 2 * length words

pub no-areas : (areas : Areas) (heap : Heap) (found : List Found) (start : ℕ)
    → AreAreasNoted areas heap found 0 start start
no-areas areas heap found start = record {
  words = [];
  noted = none-found (views_of heap.objects) found 1;
  rest = refl;
  paid = omega arith;
}

-- words of two lists
pub both-found : (objects : ObjectsByBase) (found : List Found) (xs ys : List ℕ) (most : ℕ)
    → AreWordsFound objects found xs most → AreWordsFound objects found ys most
    → AreWordsFound objects found (xs ++ ys) most
both-found objects found xs ys most one two k word base h falls = elim (cases_lt k (length xs)) [
  | inl low ↦ one k word base (front xs k low h) falls
  | inr high ↦ two (k - length xs) word base (behind xs k high h) falls
]
  where
    front : (zs : List ℕ) (i : ℕ) → i < length zs → slice_get (zs ++ ys) i ≡ Some word → slice_get zs i ≡ Some word
    front [] i low e = absurd (omega arith)
    front (z ∷ zs) zero low e = e
    front (z ∷ zs) (suc i) low e = front zs i (omega arith) e

    behind : (zs : List ℕ) (i : ℕ) → length zs ≤ i → slice_get (zs ++ ys) i ≡ Some word
        → slice_get ys (i - length zs) ≡ Some word
    behind [] i high e = let same : i - 0 ≡ i = omega arith in ap (slice_get ys) same ∙ e
    behind (z ∷ zs) zero high e = absurd (omega arith)
    behind (z ∷ zs) (suc i) high e =
        let same : suc i - suc (length zs) ≡ i - length zs = omega arith in
        ap (slice_get ys) same ∙ behind zs i (omega arith) e

-- one area more
pub area-noted : (areas : Areas) (heap : Heap) (before after : List Found) (from next base cells : ℕ)
    (start spent steps : ℕ) → AreAreasNoted areas heap before from start spent → IsGrown before after
    → scanned_words_from areas heap.raw from ≡ cell_words heap.raw base cells ++ scanned_words_from areas heap.raw next
    → AreWordsFound (views_of heap.objects) after (cell_words heap.raw base cells) 1 → steps ≡ spent + 2 * cells
    → AreAreasNoted areas heap after next start steps
area-noted areas heap before after from next base cells start spent steps so_far grown is own cost = record {
  words = so_far.words ++ cell_words heap.raw base cells;
  noted = both-found (views_of heap.objects) after so_far.words (cell_words heap.raw base cells) 1
      (found-grown (views_of heap.objects) before after so_far.words 1 grown so_far.noted) own;
  rest =
      append_assoc so_far.words (cell_words heap.raw base cells) (scanned_words_from areas heap.raw next)
      ∙ ap (λ (ws : List ℕ). so_far.words ++ ws) (sym is) ∙ so_far.rest;
  paid =
      let size = length-append so_far.words (cell_words heap.raw base cells) in
      let own_size = length-cell_words heap.raw base cells in
      let paid = so_far.paid in
      omega arith;
}
