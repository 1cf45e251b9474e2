-- Where a piece of an arena lies.
use Rattle.std.specs.Prelude.{ℕ, length}
use Rattle.mm_words.specs.Piece.{Name, Piece}

-- where a piece of an arena lies, and how many words it has
pub record Location : Type 0 where
  pub arena : Name
  pub start : ℕ
  pub size : ℕ

-- that of this piece
abbrev pub location_of : Piece → Location
location_of p = record { arena = p.arena; start = p.place; size = length p.words }
