-- What changes where some pages in a row have new uses.
use Rattle.std.specs.Prelude.{◌≡◌, ◌+◌, ◌<◌, ◌≤◌, ◌⊎◌, ℕ}
use Rattle.mm_cells.specs.declared.page_use.PageUse.{PageUse}
use Rattle.mm_cells.specs.declared.page_use.PageUse.TheVariants.{Unused}
use Rattle.mm_cells.specs.Uses.{use_in_whole}
use Rattle.mm_cells.specs.Map.{Map, use_at, IsSame}

-- so many pages from a page on have uses by their distance from it, and all else is as it was
pub record SetsUses (a b : Map) (first count : ℕ) (uses : ℕ → PageUse) : Type 0 where
  pub same : IsSame a b
  pub here : (distance : ℕ) → distance < count → use_at b (first + distance) ≡ uses distance
  pub others : (other : ℕ) → (other < first) ⊎ (first + count ≤ other) → use_at b other ≡ use_at a other
  pub marks : b.marks ≡ a.marks
  pub rooms : b.rooms ≡ a.rooms

-- no page of these is used
abbrev pub AreUnused : Map → ℕ → ℕ → Type 0
AreUnused m first count = (page : ℕ) → first ≤ page → page < first + count → use_at m page ≡ Unused

-- these pages are those of one cell
abbrev pub AreWhole : Map → ℕ → ℕ → Type 0
AreWhole m first count = (distance : ℕ) → distance < count → use_at m (first + distance) ≡ use_in_whole count distance
