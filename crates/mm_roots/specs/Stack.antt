-- What contracts see of a stack of words.
use Rattle.std.specs.Prelude.{ℕ, ◌^◌, ◌<◌, ◌≤◌, List, [], ◌∷◌, All, length, reverse, take, drop}
use Rattle.mm_words.specs.Piece.{Piece}
use Rattle.mm_words.specs.Location.{Location, location_of}

-- the cells of a stack: where they lie, how many they may be, and their words from the top down
pub record Cells : Type 0 where
  pub location : Location
  pub limit : ℕ
  pub words : List ℕ

-- a stack without cells
abbrev pub empty : Location → ℕ → Cells
empty location limit = record { location = location; limit = limit; words = [] }

-- the stack with one more word on top
abbrev pub pushed : Cells → ℕ → Cells
pushed s w = record s { words = w ∷ s.words }

-- the stack without its k cells on top
abbrev pub popped : Cells → ℕ → Cells
popped s k = record s { words = drop k s.words }

-- what holds of every stack: its cells are no more than they may be, and have room where they lie
pub record IsSoundStack (s : Cells) : Type 0 where
  pub within : length s.words ≤ s.limit
  pub room : s.limit ≤ s.location.size
  pub small : s.limit < 2 ^ 32
  pub fitting : All (λ w. w < 2 ^ 32) s.words

-- the first `depth` words of a piece as a stack that grows at their end
abbrev pub cells_of : Piece → ℕ → ℕ → Cells
cells_of p depth limit = record { location = location_of p; limit = limit; words = reverse (take depth p.words) }

-- and they are no more than they may be, which is no more than the piece has
pub record KeepsStack (p : Piece) (depth limit : ℕ) : Type 0 where
  pub within : depth ≤ limit
  pub room : limit ≤ length p.words
  pub small : limit < 2 ^ 32
  pub fitting : All (λ w. w < 2 ^ 32) (reverse (take depth p.words))
