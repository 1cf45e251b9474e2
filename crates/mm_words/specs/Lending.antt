-- What a lent part of a piece leaves behind.
use Rattle.std.specs.Prelude.{ℕ, List}
use Rattle.std.specs.Borrow.{Lends, MutBor, Fml, Array, u32}
use Rattle.mm_words.specs.Piece.{Piece, with_words}
use Rattle.mm_words.specs.Writes.{written}
use Rattle.mm_words.specs.contracts.words.Words.{the_row}

-- the piece ends with what the slice r holds last in the words from `from` on, and with its other words as they were
abbrev pub LendsPart : MutBor Piece → ℕ → MutBor (List ℕ) → Fml
LendsPart p from r = Lends the_row (Array u32 0) p r (λ ws. with_words p.now (written from ws p.now.words))
