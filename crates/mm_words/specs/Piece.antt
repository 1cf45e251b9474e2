-- What contracts see of a piece of an arena.
use Rattle.std.specs.Prelude.{ℕ, ◌+◌, ◌<◌, ◌≤◌, List, length}

-- tells one arena from another
pub record Name : Type 0 where
  pub life : ℕ
  pub block : ℕ
  pub start : ℕ

-- the words that a piece holds, the arena that it was cut from, and how many words of the arena lie before it
pub record Piece : Type 0 where
  pub arena : Name
  pub place : ℕ
  pub words : List ℕ

-- the piece with other words
abbrev pub with_words : Piece → List ℕ → Piece
with_words p ws = record p { words = ws }

-- no place is in both spans, which are given by the first place and the number of places
abbrev pub SpansApart : ℕ → ℕ → ℕ → ℕ → Type 0
SpansApart x m y n = (i : ℕ) → (x ≤ i) × (i < x + m) → ¬ ((y ≤ i) × (i < y + n))

-- no word of the arena is in both pieces
abbrev pub Apart : Piece → Piece → Type 0
Apart p q = SpansApart p.place (length p.words) q.place (length q.words)
