use Rattle.std.specs.Prelude.{◌*◌, ◌≡◌, ℕ, ◌+◌, ◌<◌, ◌≤◌, Bool, true, false, if◌then◌else◌, ◌&&◌, nat_lt, nat_le}
use Rattle.mm_pages.specs.declared.runs.Runs.{Runs}

-- a set of pages, told by a test
abbrev pub Marks : Type 0
Marks = ℕ → Bool

-- the n pages from page i on are all free
pub record AllFree (free : Marks) (i n : ℕ) : Type 0 where
  pub each : (j : ℕ) → i ≤ j → j < i + n → free j ≡ true

-- the pages from `at` on, counted from 0
abbrev pub beyond : ℕ → Marks → Marks
beyond at free i = free (at + i)

-- the same pages, but that those of from .. to are free or taken as `value` says
abbrev pub marked : Marks → ℕ → ℕ → Bool → Marks
marked free from to value i = if nat_le from i && nat_lt i to then value else free i

-- of `span` pages the first is taken and all others are free
pub record IsFreeButFirst (free : Marks) (span : ℕ) : Type 0 where
  pub first : free 0 ≡ false
  pub others : (i : ℕ) → 0 < i → i < span → free i ≡ true

-- `longest` is the length of the longest free run among `span` pages, `left` and `right` those of the free runs at
-- the two ends
pub record Sums (free : Marks) (span longest left right : ℕ) : Type 0 where
  pub none_longer : (i n : ℕ) → AllFree free i n → i + n ≤ span → n ≤ longest
  pub at : ℕ
  pub at_within : at + longest ≤ span
  pub at_free : AllFree free at longest
  pub left_within : left ≤ span
  pub left_free : AllFree free 0 left
  pub left_ends : left < span → free left ≡ false
  pub right_within : right ≤ span
  pub right_free : (i : ℕ) → i + right ≡ span → AllFree free i right
  pub right_ends : (i : ℕ) → i + 1 + right ≡ span → free i ≡ false

-- the same, of the three numbers that a node keeps
abbrev pub TellsRuns : Marks → ℕ → Runs → Type 0
TellsRuns free span r = Sums free span r.longest r.left r.right

-- `whole` tells the runs of both halves where `low` and `high` tell those of each
abbrev pub JoinsRuns : ℕ → Runs → Runs → Runs → Type 0
JoinsRuns half low high whole =
    (free : Marks) → TellsRuns free half low → TellsRuns (beyond half free) half high → TellsRuns free (2 * half) whole

-- no run is longer than all of the pages
pub record FitIn (span : ℕ) (r : Runs) : Type 0 where
  pub longest : r.longest ≤ span
  pub left : r.left ≤ span
  pub right : r.right ≤ span

-- the lowest place among `span` pages where k of them are free
pub record LowestFit (free : Marks) (span k first : ℕ) : Type 0 where
  pub fits : AllFree free first k
  pub within : first + k ≤ span
  pub lowest : (i : ℕ) → AllFree free i k → i + k ≤ span → first ≤ i
