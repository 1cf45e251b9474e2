-- What contracts see of an arena.
use Rattle.std.specs.Prelude.{◌≡◌, ℕ, ◌+◌, ◌-◌, length, replicate}
use Rattle.mm_words.specs.Piece.{Name, Piece}

-- an arena's name, how many words it has, how many of them are not yet cut, and how many are out in pieces
pub record Arena : Type 0 where
  pub name : Name
  pub total : ℕ
  pub spare : ℕ
  pub out : ℕ

-- an arena of which nothing is cut
abbrev pub whole : Name → ℕ → Arena
whole a n = record { name = a; total = n; spare = n; out = 0 }

-- the next n words, all 0
abbrev pub blank_piece : Arena → ℕ → Piece
blank_piece a n = record { arena = a.name; place = a.total - a.spare; words = replicate n 0 }

-- the arena after the next n words were cut
abbrev pub with_cut : Arena → ℕ → Arena
with_cut a n = record a { spare = a.spare - n; out = a.out + n }

-- the arena where the n words that were cut last are uncut again
abbrev pub with_uncut : Arena → ℕ → Arena
with_uncut a n = record a { spare = a.spare + n; out = a.out - n }

-- the arena after n words came back
abbrev pub with_back : Arena → ℕ → Arena
with_back a n = record a { out = a.out - n }

-- the piece is the one that was cut last: it ends where the uncut words begin
pub record IsLast (a : Arena) (p : Piece) : Type 0 where
  pub arena : p.arena ≡ a.name
  pub end : p.place + length p.words ≡ a.total - a.spare
