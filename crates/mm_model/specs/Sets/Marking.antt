-- Incremental marking, by three colours. In a cycle no word of a scanned slot of a black object falls in a white one.
-- Within `put` alone this may be broken, between the store and the barrier.
use Rattle.std.specs.Prelude.{◌≡◌, ℕ, ◌+◌, Bool, true, false, not, if◌then◌else◌, ◌&&◌, ◌||◌, ◌==◌, nat_lt, IsTrue}
use Rattle.std.specs.Prelude.{List, [], ◌∷◌, replicate, length, take, drop, Option, Some, None, slice_index_or}
use Rattle.std.specs.Prelude.{slice_set}
use Rattle.std.specs.Option.{option_map, IfSome}
use Rattle.mm_model.specs.declared.object.Colour.{Colour}
use Rattle.mm_model.specs.declared.object.Colour.TheVariants.{White, Gray, Black}
use Rattle.mm_model.specs.Object.{Object, is_live}
use Rattle.mm_model.specs.State.{State, Cycle, PartlyScanned, Lives, gone_count}
use Rattle.mm_model.specs.Words.{SlotKind, CountedSlot, WordSlot, RawSlot, root_words, scanned_slots, names}

abbrev pub is_white : Colour → Bool
is_white White = true
is_white Gray = false
is_white Black = false

abbrev pub is_gray : Colour → Bool
is_gray White = false
is_gray Gray = true
is_gray Black = false

abbrev pub is_black : Colour → Bool
is_black White = false
is_black Gray = false
is_black Black = true

abbrev pub colour_of : Cycle → ℕ → Colour
colour_of cycle birth = slice_index_or cycle.colours birth White

-- outside a cycle every object is white
abbrev pub colour_in : Option Cycle → ℕ → Colour
colour_in None birth = White
colour_in (Some cycle) birth = colour_of cycle birth

-- the white objects that live and in which one of the words falls become gray
abbrev pub grayed : List ℕ → List Object → List Colour → List Colour
grayed words [] colours = colours
grayed words (object ∷ objects) [] = []
grayed words (object ∷ objects) (colour ∷ colours) =
    (if is_white colour && is_live object && names words object then Gray else colour) ∷ grayed words objects colours

abbrev pub grayed_cycle : List ℕ → State → Cycle → Cycle
grayed_cycle words a cycle = record cycle { colours = grayed words a.objects cycle.colours }

abbrev pub with_grayed : List ℕ → State → State
with_grayed words a = record a { cycle = option_map (grayed_cycle words a) a.cycle }

-- `begin`: each object in which a stack word or a word of a scanned area falls is gray
abbrev pub begun : State → State
begun a =
    record a {
      cycle = Some (record {
        colours = grayed (root_words a) a.objects (replicate (length a.objects) White);
        gone_before = gone_count a;
        partly_scanned = None;
      });
    }

-- how many slots of the partly scanned object are done, and 0 for any other, also for one that is scanned to its end
abbrev pub done_in : Option PartlyScanned → ℕ → ℕ
done_in None birth = 0
done_in (Some partly_scanned) birth = if partly_scanned.object == birth then partly_scanned.slots_done else 0

abbrev pub done_of : Option Cycle → ℕ → ℕ
done_of None birth = 0
done_of (Some cycle) birth = done_in cycle.partly_scanned birth

-- A part has at most 64 slots, from the first that isn't done on.
abbrev pub part_slots : State → ℕ → Object → List ℕ
part_slots a birth object = take 64 (drop (done_of a.cycle birth) (scanned_slots object))

-- where an object is partly scanned, no other one is scanned
abbrev pub may_continue : Option PartlyScanned → ℕ → Bool
may_continue None birth = true
may_continue (Some partly_scanned) birth = partly_scanned.object == birth

-- an object that can be scanned next lives and is gray
pub record MayScan (a : State) (birth : ℕ) (object : Object) : Type 0 where
  pub lives : Lives a birth object
  pub gray : colour_in a.cycle birth ≡ Gray
  pub turn : IfSome a.cycle (λ cycle. IsTrue (may_continue cycle.partly_scanned birth))

-- The part that reaches the last scanned slot makes the object black. Another one leaves it partly scanned.
abbrev pub advanced : ℕ → ℕ → ℕ → Cycle → Cycle
advanced birth done all cycle =
    if done == all then record cycle { colours = slice_set cycle.colours birth Black; partly_scanned = None }
    else record cycle { partly_scanned = Some (record { object = birth; slots_done = done }) }

-- the state after a part of the object
abbrev pub part_done : State → ℕ → Object → State
part_done a birth object =
    let slots = part_slots a birth object in
    let done = done_of a.cycle birth + length slots in
    record a {
      cycle = option_map (λ cycle. advanced birth done (length (scanned_slots object)) (grayed_cycle slots a cycle))
          a.cycle;
    }

abbrev pub is_raw : SlotKind → Bool
is_raw CountedSlot = false
is_raw WordSlot = false
is_raw RawSlot = true

-- marking has passed the slot: the object is black, or partly scanned with the slot among those that are done
abbrev pub is_passed : Option Cycle → ℕ → ℕ → Bool
is_passed None birth s = false
is_passed (Some cycle) birth s =
    is_black (colour_of cycle birth) || nat_lt s (done_in cycle.partly_scanned birth)

-- The write barrier: where a word is stored in a scanned slot that marking has passed, the white object in which it
-- falls becomes gray.
abbrev pub barrier : SlotKind → ℕ → ℕ → ℕ → State → State
barrier kind birth s word a =
    if not (is_raw kind) && is_passed a.cycle birth s then with_grayed (word ∷ []) a else a

-- what `finish` marks: the least set that holds the gray objects and each white one in which the word of a scanned slot
-- of a member falls
pub data IsKeptAtFinish (a : State) : ℕ → Type 0 where
  Already : (birth : ℕ) (object : Object) → Lives a birth object → colour_in a.cycle birth ≡ Gray
      → IsKeptAtFinish a birth
  By_slot : (birth : ℕ) (object : Object) (by : ℕ) (holder : Object) → Lives a birth object
      → colour_in a.cycle birth ≡ White → Lives a by holder → IsTrue (names (scanned_slots holder) object)
      → IsKeptAtFinish a by → IsKeptAtFinish a birth

-- what `finish` frees: with the objects gray that the stack and scanned areas name, the white ones that aren't marked
pub record IsFreedAtFinish (a : State) (birth : ℕ) : Type 0 where
  pub white : colour_in (with_grayed (root_words a) a).cycle birth ≡ White
  pub unmarked : IsKeptAtFinish (with_grayed (root_words a) a) birth → ⊥

-- What marking still reaches: the least set of live objects that holds the gray and the black ones, and each in which
-- the word of a scanned slot of a member falls.
pub data IsMarked (a : State) : ℕ → Type 0 where
  Already : (birth : ℕ) (object : Object) → Lives a birth object → IsTrue (not (is_white (colour_in a.cycle birth)))
      → IsMarked a birth
  By_slot : (birth : ℕ) (object : Object) (by : ℕ) (holder : Object) → Lives a birth object → Lives a by holder
      → IsTrue (names (scanned_slots holder) object) → IsMarked a by → IsMarked a birth
