-- A region in which a weak object was made.
use Rattle.std.proofs.Common.{◌≡◌, ℕ, ◌/◌, ◌<◌, List, Option, Some, None, length, set, slice_index}
use Rattle.std.proofs.Common.{refl, sym, ap, ◌∙◌, subst, arith, inl, inr}
use Rattle.std.specs.Prelude.{IfSome, slice_set}
use Rattle.std.proofs.lemmas.Bool.{cases_eq}
use Rattle.std.proofs.lemmas.List.{get_or-set_same, get_or-set_other}
use Rattle.std.proofs.lemmas.Option.{slice_get_within}
use Rattle.mm_model.specs.declared.object.Colour.{Colour}
use Rattle.mm_model.specs.Places.SizeClass.{size_of}
use Rattle.mm_pages.specs.Pages.{Pages, IsSoundHeap, with_parked}
use Rattle.mm_pages.specs.Parked.{AreParked, AreAllParked}
use Rattle.mm_cells.specs.Placing.{IsPlaceFor}
use Rattle.mm_object.specs.Heap.{Heap, IsSound, FitsHeap, cells_in}
use Rattle.mm_fixed.proofs.Clear.{placed-clear}
use Rattle.mm_weak.specs.Links.{IsWeakMade}
use Rattle.mm_roots.specs.Views.{views_of_areas}
use Rattle.mm_roots.proofs.Kept.{views-taken}
use Rattle.mm_gc.specs.declared.region.Region.{Region}
use Rattle.mm_gc.specs.Gc.{areas_in}
use Rattle.mm_gc.specs.Kept.{KeepsRegion}
use Rattle.mm_gc.proofs.Regions.Changed.{StaysBeside, heap-stays, pages-stay, stays-heap, keeps-heap, clear-all_parked}

-- one run more is parked, where another family has none
all_parked-placed : (before others : List ℕ) (heap : Pages) (page count : ℕ) → page < length before
    → page < length heap.parked → slice_index others page ≡ 0 → AreAllParked before others heap
    → AreAllParked (slice_set before page count) others (with_parked heap page count)
all_parked-placed before others heap page count own within none all p = elim (cases_eq p page) [
  | inl e ↦
      let here : slice_index (set before page count) p ≡ count =
      ap (slice_index (set before page count)) e ∙ get_or-set_same before page count 0 own in
      let parked : slice_index (set heap.parked page count) p ≡ count =
      ap (slice_index (set heap.parked page count)) e ∙ get_or-set_same heap.parked page count 0 within in
      omega (arith, here, parked, none, ap (slice_index others) e)
  | inr ne ↦
      omega (
        arith,
        all p,
        get_or-set_other before page p count 0 ne,
        get_or-set_other heap.parked page p count 0 ne,
      )
]

-- what the call that makes one says of the heap and the page heap
pub record MakesWeak (r : Region) (heap : Heap) (pages : Pages) (target : ℕ) (colour : Colour) (found : Option ℕ)
    : Type 0 where
  pub place : IsPlaceFor (cells_in r.heap) r.pages (size_of 16) found
  pub made : IfSome found (λ w. IsWeakMade r.heap target colour w heap)
  pub parked : IfSome found (λ w. pages ≡ with_parked r.pages (w / 4096) 1)
  pub unchanged : found ≡ None → (heap ≡ r.heap) × (pages ≡ r.pages)
  pub fits : FitsHeap heap pages
  pub others : (runs : List ℕ) → AreParked runs r.pages → AreParked runs pages
  pub sound : IsSound heap
  pub pages_sound : IsSoundHeap pages

module _ (r : Region) (heap : Heap) (pages : Pages) (target : ℕ) (colour : Colour) (keeps : KeepsRegion r) where
  stays-weak : (found : Option ℕ) → MakesWeak r heap pages target colour found
      → StaysBeside r (record r { heap = heap; pages = pages })
  stays-weak None makes =
      let same = makes.unchanged refl in
      stays-heap r heap pages (heap-stays r.heap heap r.heap.objects r.heap.runs r.heap.raw same.0)
      (pages-stay r.pages pages r.pages.parked same.1)
  stays-weak (Some w) makes =
      stays-heap r heap pages (heap-stays r.heap heap _ _ _ makes.made.same) (pages-stay r.pages pages _ makes.parked)

  all_parked-weak : (found : Option ℕ) → MakesWeak r heap pages target colour found
      → AreAllParked heap.runs r.areas.fixed.runs pages
  all_parked-weak None makes =
      let same = makes.unchanged refl in
      subst (AreAllParked heap.runs r.areas.fixed.runs) (sym same.1)
      (subst (λ (h : Heap). AreAllParked h.runs r.areas.fixed.runs r.pages) (sym same.0) keeps.placed.all_parked)
  all_parked-weak (Some w) makes =
      let runs : heap.runs ≡ slice_set r.heap.runs (w / 4096) 1 = ap (λ (h : Heap). h.runs) makes.made.same in
      let grain = slice_get_within r.heap.objects (w / 16) None makes.made.was_none in
      let page : w / 4096 < r.heap.pages = omega (arith, grain, keeps.sound.heap.entries) in
      let own : w / 4096 < length r.heap.runs = omega (arith, page, keeps.sound.heap.cells.runs_size) in
      let clear = placed-clear (cells_in r.heap) (cells_in heap) r.pages (size_of 16) w r.areas.fixed.runs
      keeps.sound.heap.cells (omega arith) makes.place runs keeps.placed.areas
      (clear-all_parked r.pages r.heap.runs r.areas.fixed.runs keeps.placed.heap.parked keeps.placed.all_parked) in
      let there = get_or-set_same r.heap.runs (w / 4096) 1 0 own in
      let none = clear (w / 4096) (omega (arith, there, ap (λ (l : List ℕ). slice_index l (w / 4096)) runs)) in
      subst (AreAllParked heap.runs r.areas.fixed.runs) (sym makes.parked)
      (subst (λ (l : List ℕ). AreAllParked l r.areas.fixed.runs (with_parked r.pages (w / 4096) 1)) (sym runs)
      (all_parked-placed r.heap.runs r.areas.fixed.runs r.pages (w / 4096) 1 own
      (omega (arith, page, keeps.sound.pages.parked_size, keeps.tables.pages, keeps.tables.heap)) none
      keeps.placed.all_parked))

  module _ (found : Option ℕ) (makes : MakesWeak r heap pages target colour found) where
    pub keeps-weak : KeepsRegion (record r { heap = heap; pages = pages })
    keeps-weak =
        keeps-heap r heap pages keeps (stays-weak found makes) makes.sound makes.pages_sound makes.fits
        (makes.others r.areas.fixed.runs keeps.placed.areas) (all_parked-weak found makes)

  pub areas-weak : (found : Option ℕ) → MakesWeak r heap pages target colour found
      → areas_in (record r { heap = heap; pages = pages }) ≡ areas_in r
  areas-weak None makes = ap (λ (h : Heap). views_of_areas r.areas h.raw) (makes.unchanged refl).0
  areas-weak (Some w) makes =
      views-taken r.areas keeps.sound.areas heap makes.sound (keeps-weak (Some w) makes).placed.beside r.heap.raw w 16
      makes.made.raw
