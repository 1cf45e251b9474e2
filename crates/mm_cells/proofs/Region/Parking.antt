-- What taking and giving back a cell's pages leaves of its runs and of the page heap.
use Rattle.std.proofs.Common.{◌≡◌, ℕ, ◌*◌, ◌/◌, ◌<◌, List, length, set, slice_index, inl, inr, arith}
use Rattle.std.proofs.Common.{sym, ◌∙◌, ap, subst}
use Rattle.std.specs.Prelude.{None}
use Rattle.std.proofs.lemmas.Bool.{cases_eq, cases_lt}
use Rattle.std.proofs.lemmas.List.{ext_get_or, length-set, get_or-set_same, get_or-set_other, get_or_past}
use Rattle.mm_model.specs.Places.Lowest.{IsLowest, IsNowhere}
use Rattle.mm_pages.specs.Pages.{Pages, Covers, with_parked, IsFreeRun, IsLowestRun}
use Rattle.mm_pages.specs.Parked.{AreParked}
use Rattle.mm_cells.specs.declared.page_use.PageUse.{PageUse}
use Rattle.mm_cells.specs.declared.page_use.PageUse.TheVariants.{Unused}
use Rattle.mm_cells.specs.Map.{Map, use_at}
use Rattle.mm_cells.specs.Cells.{Taken, Cells, Begins, with_cell, with_run}
use Rattle.mm_cells.specs.Kept.{run_of, cells_of, KeepsCells}
use Rattle.mm_cells.specs.Placing.{IsFreePages, LeavesPage, Page_goes}
use Rattle.mm_cells.proofs.Tables.Changed.{run-at, length-runs}
use Rattle.mm_cells.proofs.Region.PageCells.{vacant-unused}

-- a number that is written where it stands
set-there : (xs : List ℕ) (i x : ℕ) → 0 < x → slice_index xs i ≡ x → set xs i x ≡ xs
set-there xs i x some there =
    let once : length (set xs i x) ≡ length xs = length-set xs i x in
    let within : i < length xs = elim (cases_lt i (length xs)) [
      | inl h ↦ h
      | inr h ↦ absurd (omega (arith, get_or_past xs i 0 h))
    ] in
    ext_get_or 0 (set xs i x) xs once (λ j h. elim (cases_eq j i) [
      | inl e ↦ ap (slice_index (set xs i x)) e ∙ get_or-set_same xs i x 0 within ∙ sym there
          ∙ ap (slice_index xs) (sym e)
      | inr ne ↦ get_or-set_other xs i j x 0 ne
    ])

pub with_run-there : (v : Cells) (page count : ℕ) → 0 < count → slice_index v.runs page ≡ count →
    with_run v page count ≡ v
with_run-there v page count some there =
    ap (λ (runs : List ℕ). record v { runs = runs }) (set-there v.runs page count some there)

pub with_parked-there : (v : Pages) (page count : ℕ) → 0 < count → slice_index v.parked page ≡ count →
    with_parked v page count ≡ v
with_parked-there v page count some there =
    ap (λ (parked : List ℕ). record v { parked = parked }) (set-there v.parked page count some there)

-- the run that begins at a page, as callers and the page heap see it
pub run-seen : (m : Map) (v : Cells) (page : ℕ) (page_use : PageUse) → cells_of m ≡ v → page < m.pages →
    use_at m page ≡ page_use → slice_index v.runs page ≡ run_of page_use
run-seen m v page page_use is within used =
    ap (λ (w : Cells). slice_index w.runs page) (sym is) ∙ run-at m page within ∙ ap run_of used

pub run-parked : (m : Map) (v : Cells) (heap : Pages) (page : ℕ) (page_use : PageUse) → cells_of m ≡ v →
    page < m.pages → use_at m page ≡ page_use → 0 < run_of page_use → AreParked v.runs heap →
    slice_index heap.parked page ≡ run_of page_use
run-parked m v heap page page_use is within used some parked =
    let run : slice_index v.runs page ≡ run_of page_use = run-seen m v page page_use is within used in
    parked.parked page (omega arith) ∙ run

pub runs-seen : (m : Map) (v : Cells) → cells_of m ≡ v → length v.runs ≡ m.pages
runs-seen m v is = ap (λ (w : Cells). length w.runs) (sym is) ∙ length-runs m

-- where no run of the cells lies, the table has unused pages
pub seen-unused : (m : Map) (v : Cells) (page : ℕ) → cells_of m ≡ v → KeepsCells m → page < m.pages →
    (Covers v.runs page → ⊥) → use_at m page ≡ Unused
seen-unused m v page is kept within vacant =
    vacant-unused m page kept within
    (λ covers. vacant (subst (λ (w : Cells). Covers w.runs page) is covers))

-- what callers see after a cell was given back
pub gone-seen : (m after : Map) (v : Cells) (base at : ℕ) → cells_of m ≡ v → at ≡ base →
    cells_of after ≡ with_cell (cells_of m) at None → cells_of after ≡ with_cell v base None
gone-seen m after v base at is same gone =
    gone ∙ ap (λ (b : ℕ). with_cell (cells_of m) b None) same ∙ ap (λ (w : Cells). with_cell w base None) is

pub gone-seen_run : (m after : Map) (v : Cells) (base at page : ℕ) → cells_of m ≡ v → at ≡ base →
    cells_of after ≡ with_run (with_cell (cells_of m) at None) page 0 →
    cells_of after ≡ with_run (with_cell v base None) page 0
gone-seen_run m after v base at page is same gone =
    gone ∙ ap (λ (b : ℕ). with_run (with_cell (cells_of m) b None) page 0) same
    ∙ ap (λ (w : Cells). with_run (with_cell w base None) page 0) is

pub own-runs : (v after : Cells) (base : ℕ) (runs : List ℕ) → after ≡ record (with_cell v base None) { runs = runs } →
    after ≡ record (with_cell v base None) { runs = after.runs }
own-runs v after base runs is =
    is ∙ ap (λ (r : List ℕ). record (with_cell v base None) { runs = r }) (sym (ap (λ (w : Cells). w.runs) is))

pub LeavesPage-goes : (v after : Cells) (heap now : Pages) (base page : ℕ) →
    after ≡ with_run (with_cell v base None) page 0 → now ≡ with_parked heap page 0 →
    ((other : ℕ) (cell : Taken) → Begins after other cell → other / 4096 ≡ page → ⊥) →
    LeavesPage v after heap page now
LeavesPage-goes v after heap now base page is freed none =
    subst (λ (h : Pages). LeavesPage v after heap page h) (sym freed)
    (Page_goes none (ap (λ (w : Cells). w.runs) is))

pub AreParked-goes : (v after : Cells) (now : Pages) (base page : ℕ) →
    after ≡ with_run (with_cell v base None) page 0 → AreParked (set v.runs page 0) now → AreParked after.runs now
AreParked-goes v after now base page is parked =
    subst (λ (runs : List ℕ). AreParked runs now) (sym (ap (λ (w : Cells). w.runs) is)) parked

-- the lowest run is the lowest place for whole pages
pub IsLowest-run : (v : Pages) (page count base : ℕ) → 4096 * page ≡ base → IsLowestRun v page count →
    IsLowest (IsFreePages v count) base
IsLowest-run v page count base at lowest = record {
  is = record { page = page; at = at; free = lowest.free };
  least = λ other found. omega (arith, lowest.lowest found.page found.free, found.at);
}

pub IsNowhere-run : (v : Pages) (count : ℕ) → ((page : ℕ) → IsFreeRun v page count → ⊥) →
    IsNowhere (IsFreePages v count)
IsNowhere-run v count none base found = none found.page found.free
