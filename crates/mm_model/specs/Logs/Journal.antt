-- What a journal holds: the lines that it was given, as far as it can tell.
use Rattle.std.specs.Prelude.{◌≡◌, ℕ, Bool, true, false, IsTrue, List, ◌++◌, Option, Some, None, ⊤}

-- the text goes on from these bytes
abbrev pub IsFront : List ℕ → List ℕ → Type 0
IsFront front text = (rest : List ℕ) × (front ++ rest ≡ text)

-- The texts that a journal holds, from its kept bytes and whether it is broken. Whole, it holds its kept bytes.
-- Broken, it holds all that goes on from them. One that doesn't tell its kept bytes holds every text.
abbrev pub Holds : Option (List ℕ) → Bool → List ℕ → Type 0
Holds None broken text = ⊤
Holds (Some kept) false text = kept ≡ text
Holds (Some kept) true text = IsFront kept text

-- a call that writes these bytes
pub record Writes (kept : Option (List ℕ)) (broken : Bool) (kept_after : Option (List ℕ)) (broken_after : Bool)
    (bytes : List ℕ) : Type 0 where
  -- each text that was held goes on with them
  pub held : (text : List ℕ) → Holds kept broken text → Holds kept_after broken_after (text ++ bytes)
  -- what is broken never becomes whole again
  pub stays_broken : IsTrue broken → IsTrue broken_after
  -- what doesn't tell its kept bytes doesn't tell them later
  pub stays_silent : kept ≡ None → kept_after ≡ None
