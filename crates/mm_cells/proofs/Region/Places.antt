-- Where a cell may be placed, and what that leaves of the runs of all families.
use Rattle.std.proofs.Common.{◌≡◌, ℕ, ◌+◌, ◌*◌, ◌/◌, ◌%◌, ◌<◌, ◌≤◌, List, length, set, slice_index, inl, inr, arith}
use Rattle.std.proofs.Common.{sym, ◌∙◌, ap, subst}
use Rattle.std.specs.Prelude.{Option, Some, None, slice_get}
use Rattle.std.proofs.lemmas.Bool.{cases_eq, cases_lt}
use Rattle.std.proofs.lemmas.List.{length-set, get_or-set_same, get_or-set_other, get_or_past}
use Rattle.std.proofs.lemmas.Option.{slice_get-get_or}
use Rattle.mm_model.proofs.Places.SizeClasses.{class_bounds}
use Rattle.mm_model.proofs.Lists.Replaced.{get-set_same}
use Rattle.mm_pages.specs.Pages.{Pages, IsFreeRun, IsSoundHeap, with_parked}
use Rattle.mm_pages.specs.Parked.{AreParked, AreAllParked}
use Rattle.mm_pages.proofs.Parked.{parked-free}
use Rattle.mm_cells.specs.Map.{Map}
use Rattle.mm_cells.specs.Cells.{Taken, Cells, Begins, with_cell, with_run, IsTaken, IsSoundCells}
use Rattle.mm_cells.specs.Kept.{cells_of, KeepsCells}
use Rattle.mm_cells.specs.Placing.{IsFreeCell, LeavesPage, Page_stays, Page_goes}
use Rattle.mm_cells.proofs.Region.Soundness.{IsSoundCells-kept}

pub seen-sound : (m : Map) (v : Cells) → cells_of m ≡ v → KeepsCells m → IsSoundCells v
seen-sound m v is kept = subst IsSoundCells is (IsSoundCells-kept m kept)

-- so the page of a taken cell has a run
pub run-taken : (m : Map) (v : Cells) (base : ℕ) → cells_of m ≡ v → KeepsCells m → IsTaken v base →
    0 < slice_index v.runs (base / 4096)
run-taken m v base is kept taken =
    (seen-sound m v is kept).has_run base taken.0 taken.1

-- no cell begins at the base, but one may
pub record IsOpen (v : Cells) (base : ℕ) : Type 0 where
  pub even : base % 16 ≡ 0
  pub within : base / 16 < length v.taken
  pub vacant : (cell : Taken) → Begins v base cell → ⊥

pub open-cell : (v : Cells) (extent base : ℕ) → IsSoundCells v → IsFreeCell v extent base → IsOpen v base
open-cell v extent base sound free =
    let of = free.of_page in
    let inside = sound.inside of.base of.cell of.begins in
    let some : 0 < extent = elim inside.placed [
      | inl small ↦ omega (arith, (class_bounds of.cell.extent small.class).least, of.same)
      | inr whole ↦ omega (arith, whole.some, of.same)
    ] in
    let units : extent ≡ 16 * (extent / 16) = elim inside.placed [
      | inl small ↦ omega (arith, (class_bounds of.cell.extent small.class).even, of.same)
      | inr whole ↦ omega (arith, whole.pages, of.same)
    ] in
    let bytes : free.number * extent ≡ 16 * (free.number * (extent / 16)) =
    ap (λ (x : ℕ). free.number * x) units ∙ omega arith in
    record {
      even = omega (arith, free.at, bytes);
      within = omega (arith, free.at, free.whole, some, inside.to, of.inside, of.same, sound.size);
      vacant = free.free;
    }

pub open-page : (v : Cells) (heap : Pages) (page count : ℕ) → IsSoundCells v → AreParked v.runs heap → 0 < count →
    IsFreeRun heap page count → page < v.pages → IsOpen v (4096 * page)
open-page v heap page count sound parked some free within = record {
  even = omega arith;
  within = omega (arith, within, sound.size);
  vacant = λ cell begins.
      let at : 4096 * page / 4096 ≡ page = omega arith in
      let run : 0 < slice_index v.runs page =
      subst (λ (p : ℕ). 0 < slice_index v.runs p) at (sound.has_run (4096 * page) cell begins) in
      absurd (omega (
        arith,
        run,
        parked.parked page run,
        parked-free heap page
            (free page (omega arith) (omega arith)),
      ));
}

pub begins-placed : (v after : Cells) (base page count : ℕ) (cell : Taken) → IsOpen v base →
    after ≡ with_run (with_cell v base (Some cell)) page count → Begins after base cell
begins-placed v after base page count cell place is =
    subst (λ (w : Cells). Begins w base cell) (sym is) (record {
      grain = base / 16;
      aligned = omega (arith, place.even);
      is = get-set_same v.taken (base / 16) _ (Some cell) (slice_get-get_or v.taken (base / 16) None place.within);
    })

none-where : (v : Cells) (base : ℕ) → base % 16 ≡ 0 → ((cell : Taken) → Begins v base cell → ⊥) →
    (entry : Option Taken) → slice_get v.taken (base / 16) ≡ Some entry → slice_get v.taken (base / 16) ≡ Some None
none-where v base even vacant None is = is
none-where v base even vacant (Some cell) is =
    absurd (vacant cell (record { grain = base / 16; aligned = omega (arith, even); is = is }))

pub was-free : (v : Cells) (base : ℕ) → IsOpen v base → slice_get v.taken (base / 16) ≡ Some None
was-free v base place =
    none-where v base place.even place.vacant _ (slice_get-get_or v.taken (base / 16) None place.within)

-- a page with a run parked lies below the limit
pub parked-below : (heap : Pages) (page : ℕ) → IsSoundHeap heap → 0 < slice_index heap.parked page → page < heap.limit
parked-below heap page sound some = omega (arith, sound.within page (omega arith), some)

-- another run of the family where no other family has one
pub AreAllParked-set : (runs others : List ℕ) (heap : Pages) (page count : ℕ) → page < length runs →
    page < length heap.parked → slice_index others page ≡ 0 → AreAllParked runs others heap →
    AreAllParked (set runs page count) others (with_parked heap page count)
AreAllParked-set runs others heap page count within parked_within none all at = elim (cases_eq at page) [
  | inl e ↦
      let own : slice_index (set runs page count) at ≡ count =
      ap (slice_index (set runs page count)) e ∙ get_or-set_same runs page count 0 within in
      let parked : slice_index (set heap.parked page count) at ≡ count =
      ap (slice_index (set heap.parked page count)) e ∙ get_or-set_same heap.parked page count 0 parked_within in
      omega (arith, own, parked, ap (slice_index others) e, none)
  | inr ne ↦
      omega (
        arith,
        get_or-set_other runs page at count 0 ne,
        get_or-set_other heap.parked page at count 0 ne,
        all at,
      )
]

-- the family takes free pages
pub AreAllParked-taken : (runs others : List ℕ) (heap now : Pages) (page count : ℕ) → 0 < count →
    IsFreeRun heap page count → page + count ≤ heap.pages → AreParked runs heap → IsSoundHeap now →
    now ≡ with_parked heap page count → AreAllParked runs others heap → AreAllParked (set runs page count) others now
AreAllParked-taken runs others heap now page count some free within parked sound is all =
    let size : length (set heap.parked page count) ≡ heap.pages = (subst IsSoundHeap is sound).parked_size in
    let none : slice_index heap.parked page ≡ 0 = parked-free heap page (free page (omega arith) (omega arith)) in
    subst (λ (h : Pages). AreAllParked (set runs page count) others h) (sym is)
    (AreAllParked-set runs others heap page count (omega (arith, within, some, parked.pages))
    (omega (arith, within, some, size, length-set heap.parked page count)) (omega (arith, none, all page)) all)

index-within : (xs : List ℕ) (i : ℕ) → 0 < slice_index xs i → i < length xs
index-within xs i some = elim (cases_lt i (length xs)) [
  | inl h ↦ h
  | inr h ↦ absurd (omega (arith, get_or_past xs i 0 h, some))
]

-- a page's last cell goes, or another stays in it
pub AreAllParked-left : (v after : Cells) (others : List ℕ) (heap now : Pages) (page : ℕ) →
    LeavesPage v after heap page now → AreParked v.runs heap → 0 < slice_index v.runs page →
    AreAllParked v.runs others heap → AreAllParked after.runs others now
AreAllParked-left v after others heap now page (Page_stays base cell begins inside is) parked some all =
    subst (λ (runs : List ℕ). AreAllParked runs others heap) (sym is) all
AreAllParked-left v after others heap now page (Page_goes none is) parked some all =
    let there = parked.parked page some in
    subst (λ (runs : List ℕ). AreAllParked runs others (with_parked heap page 0)) (sym is)
    (AreAllParked-set v.runs others heap page 0 (index-within v.runs page some)
    (index-within heap.parked page (omega arith)) (omega (arith, there, all page)) all)
