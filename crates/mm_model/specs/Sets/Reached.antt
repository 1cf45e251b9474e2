-- Which objects are conservatively reached: a stack word, a word of a scanned area and the word of a scanned slot of a
-- reached object each count as a reference to the object in which they fall.
use Rattle.std.specs.Prelude.{ℕ, IsTrue}
use Rattle.mm_model.specs.Object.{Object}
use Rattle.mm_model.specs.State.{State, Lives}
use Rattle.mm_model.specs.Words.{root_words, scanned_slots, names}

-- the least set of live objects with these rules
pub data IsReached (a : State) : ℕ → Type 0 where
  -- a stack word or a word of a scanned area falls in it
  By_root : (birth : ℕ) (object : Object) → Lives a birth object → IsTrue (names (root_words a) object)
      → IsReached a birth
  -- the word of a scanned slot of a reached object falls in it
  By_slot : (birth : ℕ) (object : Object) (by : ℕ) (holder : Object) → Lives a birth object → Lives a by holder
      → IsTrue (names (scanned_slots holder) object) → IsReached a by → IsReached a birth

-- what a full collection frees, if it lives
abbrev pub IsUnreached : State → ℕ → Type 0
IsUnreached a birth = IsReached a birth → ⊥
