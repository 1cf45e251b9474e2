-- The stack of words, as it is kept.
use Rattle.std.specs.Prelude.{ℕ, ◌≤◌, List, length, reverse}

pub record StackWords : Type 0 where
  -- from the top
  pub words : List ℕ
  -- how many there may be
  pub limit : ℕ

-- cells are kept from the bottom
abbrev pub stack_of : List ℕ → ℕ → StackWords
stack_of cells limit = record { words = reverse cells; limit = limit }

-- Inner: all cells have their room from the first on.
pub record KeepsStack (cells : List ℕ) (limit capacity : ℕ) : Type 0 where
  pub within : length cells ≤ limit
  pub room : limit ≤ capacity
  pub few : limit ≤ 65536
