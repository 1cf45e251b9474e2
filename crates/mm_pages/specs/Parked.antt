-- The runs of pages that a family of pieces keeps parked in a page heap.
use Rattle.std.specs.Prelude.{◌≡◌, ℕ, ◌+◌, ◌<◌, ◌≤◌, List, length, slice_index}
use Rattle.mm_pages.specs.Pages.{Pages}

-- For each page the family's list has the length of its run that begins there, 0 where none does. Each of them is
-- parked in the page heap. What else is parked there is another family's.
pub record AreParked (runs : List ℕ) (heap : Pages) : Type 0 where
  pub pages : heap.pages ≤ length runs
  pub parked : (page : ℕ) → 0 < slice_index runs page → slice_index heap.parked page ≡ slice_index runs page

-- No page is the first of a run of both families. So two families whose runs are parked in one page heap share no page.
abbrev pub HaveNoCommonRun : List ℕ → List ℕ → Type 0
HaveNoCommonRun runs others = (page : ℕ) → 0 < slice_index runs page → slice_index others page ≡ 0

-- What is parked in the page heap are the runs of one family, and those of all others. A page where both have none has
-- none.
abbrev pub AreAllParked : List ℕ → List ℕ → Pages → Type 0
AreAllParked runs others heap =
    (page : ℕ) → slice_index heap.parked page ≡ slice_index runs page + slice_index others page
