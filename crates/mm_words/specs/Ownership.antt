-- What a run of words and an arena own. The arena lends all its room for a lifetime of its own, and the token of that
-- lifetime goes out in equal parts, one with each word. Who has all parts again can end the lifetime and has the room
-- back.
use Rattle.std.specs.Prelude.{ℕ, zero, suc, ◌+◌, ◌-◌, ◌*◌, ◌^◌, List, [], ◌∷◌, length}
use mir.Syntax.{Ty, w32, ty_int, ty_array}
use base.Fraction.{full_share}
use base.FractionLaws.{Counts}
use base.Fml.{Share, Fml, ftrue, fsep, fex, froom, flft, fobor, flent}
use denote.RattleType.{RattleType}
use denote.RawPtr.{Ptr, block_ptr, lies_at}
use denote.Array.{Array}
use denote.Param.{param}
use denote.Builtin.{u32}
use Rattle.mm_words.specs.Piece.{Name}

-- n words, as they lie in memory
abbrev pub words_type : ℕ → Ty
words_type n = ty_array (ty_int w32) n

-- a word of a row
abbrev pub word : RattleType
word = param 0 u32

module _ (a : Name) where
  -- where the word at this place lies
  abbrev pub at_place : ℕ → Ptr
  at_place x = block_ptr a.block (a.start + 4 * x)

  -- room for the n words from the place x on
  abbrev pub words_room : ℕ → ℕ → Fml
  words_room x n = froom (words_type n) a.block (a.start + 4 * x)

  -- k parts in 2 ^ 33 of the lifetime's token
  abbrev pub parts : ℕ → Fml
  parts k = fex Share (λ s. fex (Counts 33 s k) (λ _. flft (a.life ∷ []) s))

  -- room for the word at this place
  abbrev pub word_room : ℕ → Fml
  word_room x = froom (ty_int w32) a.block (a.start + 4 * x)

  -- the word was taken out of the loan against one part of the token
  abbrev pub word_debt : ℕ → Fml
  word_debt x = fex Share (λ s. fex (Counts 33 s 1) (λ _. fobor (a.life ∷ []) s (word_room x)))

  -- so were the n words from x on
  abbrev pub debt : ℕ → ℕ → Fml
  debt x zero = ftrue
  debt x (suc n) = fsep (word_debt x) (debt (suc x) n)

  -- n words from x on, of which the first hold these values, and the debt for them
  abbrev pub run_owns : ℕ → ℕ → List ℕ → Fml
  run_owns x n ws =
      fsep (lies_at (Array word (length ws)) full_share (at_place x) ws)
      (fsep (words_room (x + length ws) (n - length ws)) (debt x n))

  -- the parts of the token that are not out, the way back to the room, and the right to free it
  abbrev pub allocation_owns : (Ty → Ptr → Fml) → ℕ → ℕ → Fml
  allocation_owns t total owing =
      fsep (parts (2 ^ 33 - owing))
      (fsep (flent (a.life ∷ []) (words_room 0 total)) (t (words_type total) (at_place 0)))
