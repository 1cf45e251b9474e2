-- Runs that stay clear of those of another family in the same page heap.
use Rattle.std.proofs.Common.{◌≡◌, ℕ, zero, suc, ◌/◌, ◌<◌, inl, inr, List, length, set, slice_index, refl, arith, sym}
use Rattle.std.proofs.Common.{◌∙◌, ap, subst}
use Rattle.std.specs.Prelude.{Some}
use Rattle.std.proofs.lemmas.Bool.{cases_eq, cases_lt}
use Rattle.std.proofs.lemmas.List.{length-set, get_or-set_same, get_or-set_other, get_or_past}
use Rattle.mm_model.specs.declared.object.Size.{Size}
use Rattle.mm_model.specs.declared.object.Size.TheVariants.{Small, Pages}
use Rattle.mm_model.proofs.Places.SizeClasses.{class_bounds}
use Rattle.mm_model.specs.Places.Lowest.{Of_first, Of_second}
use Rattle.mm_pages.specs.Pages as heaps
use Rattle.mm_pages.specs.Pages.{Covers}
use Rattle.mm_pages.specs.Parked.{AreParked, HaveNoCommonRun}
use Rattle.mm_cells.specs.Cells.{Cells, IsSoundCells}
use Rattle.mm_cells.specs.Placing.{IsFreeCell, IsFreePages, IsPlaceFor, run_length, LeavesPage, Page_stays, Page_goes}
use Rattle.mm_cells.specs.Sizes.{IsSize}

zero_unless : (n : ℕ) → (0 < n → ⊥) → n ≡ 0
zero_unless zero h = refl
zero_unless (suc n) h = absurd (h (omega arith))

pub run_length-some : (size : Size) → IsSize size → 0 < run_length size
run_length-some (Small class) known = omega arith
run_length-some (Pages count) known = known.0

-- no run of another family begins at a free page
free-clear : (heap : heaps.Pages) (count base : ℕ) (runs : List ℕ) → 0 < count → IsFreePages heap count base →
    AreParked runs heap → slice_index runs (base / 4096) ≡ 0
free-clear heap count base runs some free parked =
    let page : base / 4096 ≡ free.page = omega (arith, free.at) in
    ap (slice_index runs) page ∙ zero_unless (slice_index runs free.page) (λ there.
    (free.free free.page (omega arith) (omega arith)).not_parked (record {
      first = free.page;
      begins = omega arith;
      reaches = omega (arith, parked.parked free.page there);
    }))

-- nor at a page in which the family has a cell
page-clear : (v : Cells) (extent base : ℕ) (runs : List ℕ) → IsSoundCells v → IsFreeCell v extent base →
    HaveNoCommonRun v.runs runs → slice_index runs (base / 4096) ≡ 0
page-clear v extent base runs sound free clear =
    let of = free.of_page in
    let inside = sound.inside of.base of.cell of.begins in
    let some : 0 < extent = elim inside.placed [
      | inl small ↦ omega (arith, (class_bounds of.cell.extent small.class).least, of.same)
      | inr whole ↦ omega (arith, whole.some, of.same)
    ] in
    let page : base / 4096 ≡ free.page = omega (arith, free.at, free.whole, some) in
    ap (slice_index runs) (page ∙ sym of.inside) ∙ clear (of.base / 4096) (sound.has_run of.base of.cell of.begins)

place-clear : (v : Cells) (heap : heaps.Pages) (size : Size) (base : ℕ) (runs : List ℕ) → IsSoundCells v →
    0 < run_length size → IsPlaceFor v heap size (Some base) → AreParked runs heap → HaveNoCommonRun v.runs runs →
    slice_index runs (base / 4096) ≡ 0
place-clear v heap (Small class) base runs sound some (Of_first found is first) parked clear =
    let same : found ≡ base = cc in
    ap (λ (b : ℕ). slice_index runs (b / 4096)) (sym same) ∙ page-clear v _ found runs sound first.is clear
place-clear v heap (Small class) base runs sound some (Of_second none second) parked clear =
    free-clear heap 1 base runs some second.is parked
place-clear v heap (Pages count) base runs sound some lowest parked clear =
    free-clear heap count base runs some lowest.is parked

-- where a run begins at one more page, and none of theirs does
set-clear : (own : List ℕ) (page count : ℕ) (runs : List ℕ) → slice_index runs page ≡ 0 → HaveNoCommonRun own runs →
    HaveNoCommonRun (set own page count) runs
set-clear own page count runs none clear at some = elim (cases_eq at page) [
  | inl e ↦ ap (slice_index runs) e ∙ none
  | inr ne ↦ clear at (omega (arith, some, get_or-set_other own page at count 0 ne))
]

-- where one goes
gone-clear : (own : List ℕ) (page : ℕ) (runs : List ℕ) → HaveNoCommonRun own runs
    → HaveNoCommonRun (set own page 0) runs
gone-clear own page runs clear at some = elim (cases_eq at page) [
  | inl e ↦ absurd (elim (cases_lt page (length own)) [
    | inl h ↦ omega (arith, some, ap (slice_index (set own page 0)) e, get_or-set_same own page 0 0 h)
    | inr h ↦ omega (
      arith,
      some,
      ap (slice_index (set own page 0)) e,
      get_or_past (set own page 0) page 0 (omega (arith, h, length-set own page 0)),
    )
  ])
  | inr ne ↦ clear at (omega (arith, some, get_or-set_other own page at 0 0 ne))
]

pub placed-clear : (v after : Cells) (heap : heaps.Pages) (size : Size) (base : ℕ) (runs : List ℕ) → IsSoundCells v →
    0 < run_length size → IsPlaceFor v heap size (Some base) →
    after.runs ≡ set v.runs (base / 4096) (run_length size) → AreParked runs heap → HaveNoCommonRun v.runs runs →
    HaveNoCommonRun after.runs runs
placed-clear v after heap size base runs sound some place is parked clear =
    subst (λ (own : List ℕ). HaveNoCommonRun own runs) (sym is)
    (set-clear v.runs (base / 4096) (run_length size) runs
    (place-clear v heap size base runs sound some place parked clear)
    clear)

pub left-clear : (v after : Cells) (heap now : heaps.Pages) (page : ℕ) (runs : List ℕ)
    → LeavesPage v after heap page now →
    HaveNoCommonRun v.runs runs → HaveNoCommonRun after.runs runs
left-clear v after heap now page runs (Page_stays base cell begins inside is) clear =
    subst (λ (own : List ℕ). HaveNoCommonRun own runs) (sym is) clear
left-clear v after heap now page runs (Page_goes none is) clear =
    subst (λ (own : List ℕ). HaveNoCommonRun own runs) (sym is) (gone-clear v.runs page runs clear)
