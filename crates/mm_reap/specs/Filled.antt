-- Words of a piece that were written.
use Rattle.std.specs.Prelude.{◌≡◌, ◌≤◌, ℕ, take, drop, length}
use Rattle.mm_words.specs.Piece.{Piece}
use Rattle.mm_words.specs.Location.{location_of}

-- Those from place k up to place n may be other words now, and all others are as they were.
pub record IsFilled (before after : Piece) (k n : ℕ) : Type 0 where
  pub location : location_of after ≡ location_of before
  pub front : take k after.words ≡ take k before.words
  pub behind : drop n after.words ≡ drop n before.words
  pub order : k ≤ n
  pub within : n ≤ length after.words
