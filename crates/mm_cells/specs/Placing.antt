-- Where a cell is taken, and what taking and giving it back does to the page heap.
use Rattle.std.specs.Prelude.{◌≡◌, ◌+◌, ◌*◌, ◌/◌, ◌<◌, ◌≤◌, ℕ, Option, Some, None, Result, Ok, Err, slice_set}
use Rattle.mm_model.specs.declared.object.Size.{Size}
use Rattle.mm_model.specs.declared.object.Size.TheVariants.{Small, Pages}
use Rattle.mm_model.specs.Places.SizeClass.{extent_of_size}
use Rattle.mm_model.specs.Places.Lowest.{IsLowestOf, IsPreferred}
use Rattle.mm_pages.specs.Pages as heaps
use Rattle.mm_pages.specs.Pages.{with_parked, IsFreeRun}
use Rattle.mm_cells.specs.Cells.{Taken, Cells, Begins}

-- the page has a taken cell of this size, which is less than a page
pub record IsPageOf (v : Cells) (extent page : ℕ) : Type 0 where
  pub base : ℕ
  pub cell : Taken
  pub begins : Begins v base cell
  pub inside : base / 4096 ≡ page
  pub same : cell.extent ≡ extent
  pub small : extent < 4096

-- a free cell of a page of cells that are so large
pub record IsFreeCell (v : Cells) (extent base : ℕ) : Type 0 where
  pub page : ℕ
  pub number : ℕ
  pub at : 4096 * page + number * extent ≡ base
  pub whole : number * extent + extent ≤ 4096
  pub of_page : IsPageOf v extent page
  pub free : (cell : Taken) → Begins v base cell → ⊥

-- the first of so many free pages
pub record IsFreePages (heap : heaps.Pages) (count base : ℕ) : Type 0 where
  pub page : ℕ
  pub at : 4096 * page ≡ base
  pub free : IsFreeRun heap page count

-- The place for a cell of this size, if there is one: the lowest free cell of the pages of its class, or else the first
-- cell of the lowest free page. Whole pages are the lowest free ones.
abbrev pub IsPlaceFor : Cells → heaps.Pages → Size → Option ℕ → Type 0
IsPlaceFor v heap (Small class) found =
    IsPreferred (IsFreeCell v (extent_of_size (Small class))) (IsFreePages heap 1) found
IsPlaceFor v heap (Pages count) found = IsLowestOf (IsFreePages heap count) found

-- the place that a call answers
abbrev pub found_in : {E : Type 0} → Result ℕ E → Option ℕ
found_in (Ok base) = Some base
found_in (Err refused) = None

-- how many pages the run has in which a cell of this size lies
abbrev pub run_length : Size → ℕ
run_length (Small class) = 1
run_length (Pages count) = count

-- A cell of the page is given back, and the page heap is left so. The run of the page stays parked where another cell
-- of it is taken.
pub data LeavesPage (before after : Cells) (heap : heaps.Pages) (page : ℕ) : heaps.Pages → Type 0 where
  Page_stays : (base : ℕ) (cell : Taken) → Begins after base cell → base / 4096 ≡ page → after.runs ≡ before.runs
      → LeavesPage before after heap page heap
  Page_goes : ((base : ℕ) (cell : Taken) → Begins after base cell → base / 4096 ≡ page → ⊥)
      → after.runs ≡ slice_set before.runs page 0 → LeavesPage before after heap page (with_parked heap page 0)
