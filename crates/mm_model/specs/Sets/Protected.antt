-- Which objects are protected: no phase may free one.
use Rattle.std.specs.Prelude.{ℕ, not, IsTrue}
use Rattle.mm_model.specs.Object.{Object, is_counted}
use Rattle.mm_model.specs.State.{State, Lives}
use Rattle.mm_model.specs.Words.{stack_words, area_words, counted_cell_words, counted_slots, word_slots, names, holds}

-- The least set of live objects with these rules. Each is protected by the stack words that fall in it. Beside these, a
-- counted object is protected by counted cells, and by counted slots of protected objects, that hold its base; any
-- other one by words of scanned areas, and of word slots of protected objects, that fall in it.
pub data IsProtected (a : State) : ℕ → Type 0 where
  -- a stack word falls in it
  By_stack : (birth : ℕ) (object : Object) → Lives a birth object → IsTrue (names (stack_words a) object)
      → IsProtected a birth
  -- it isn't counted, and a word of a scanned area falls in it
  By_area : (birth : ℕ) (object : Object) → Lives a birth object → IsTrue (not (is_counted object.kind))
      → IsTrue (names (area_words a) object) → IsProtected a birth
  -- it is counted, and a counted cell of an area holds its base
  By_counted_cell : (birth : ℕ) (object : Object) → Lives a birth object → IsTrue (is_counted object.kind)
      → IsTrue (holds (counted_cell_words a) object) → IsProtected a birth
  -- it isn't counted, and the word of a word slot of a protected object falls in it
  By_slot : (birth : ℕ) (object : Object) (by : ℕ) (holder : Object) → Lives a birth object
      → IsTrue (not (is_counted object.kind)) → Lives a by holder → IsTrue (names (word_slots holder) object)
      → IsProtected a by → IsProtected a birth
  -- it is counted, and a counted slot of a protected object holds its base
  By_counted_slot : (birth : ℕ) (object : Object) (by : ℕ) (holder : Object) → Lives a birth object
      → IsTrue (is_counted object.kind) → Lives a by holder → IsTrue (holds (counted_slots holder) object)
      → IsProtected a by → IsProtected a birth
