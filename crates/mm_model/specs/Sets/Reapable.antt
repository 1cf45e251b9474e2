-- Which objects counting alone shows to be dead.
use Rattle.std.specs.Prelude.{ℕ, Bool, not, ◌&&◌, IsTrue}
use Rattle.mm_model.specs.Object.{Object, is_counted}
use Rattle.mm_model.specs.State.{State, Lives}
use Rattle.mm_model.specs.Words.{stack_words, counted_cell_words, counted_slots, names, holds}

-- it is counted and not sticky, no stack word falls in it, and no counted cell of an area holds its base
abbrev pub only_slots_hold : State → Object → Bool
only_slots_hold a object =
    is_counted object.kind && not object.sticky && not (names (stack_words a) object)
    && not (holds (counted_cell_words a) object)

-- The least set: such a live object is in it once every live object with a counted slot that holds its base is.
pub data IsReapable (a : State) : ℕ → Type 0 where
  Reapable : (birth : ℕ) (object : Object) → Lives a birth object → IsTrue (only_slots_hold a object)
      → ((by : ℕ) (holder : Object) → Lives a by holder → IsTrue (holds (counted_slots holder) object)
      → IsReapable a by)
      → IsReapable a birth
