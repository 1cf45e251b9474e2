-- Which words a state holds, by the places that hold them, and what words name.
use Rattle.std.specs.Prelude.{ℕ, ◌+◌, Bool, if◌then◌else◌, ◌&&◌, ◌==◌, nat_lt, nat_le, List, [], ◌++◌, take, drop}
use Rattle.std.specs.List.{list_any, flat_map}
use Rattle.mm_model.specs.Value.{Value, words_of}
use Rattle.mm_model.specs.Object.{Object, is_scanned, live_objects}
use Rattle.mm_model.specs.State.{State, Area}

-- How a slot of an object or a cell of an area keeps a word. A counted one holds 0 or the base of a counted object.
-- Marking looks at counted ones and word ones, and at no raw one.
pub data SlotKind : Type 0 where
  CountedSlot : SlotKind
  WordSlot : SlotKind
  RawSlot : SlotKind

abbrev pub slot_kind_at : Bool → ℕ → ℕ → SlotKind
slot_kind_at scanned counted s =
    if scanned then (if nat_lt s counted then CountedSlot else WordSlot) else RawSlot

abbrev pub slot_kind : Object → ℕ → SlotKind
slot_kind object s = slot_kind_at (is_scanned object.kind) object.counted s

abbrev pub cell_kind : Area → ℕ → SlotKind
cell_kind area s = slot_kind_at area.scanned area.counted s

abbrev pub if_scanned : Bool → List Value → List ℕ
if_scanned scanned values = if scanned then words_of values else []

-- the words of an object's counted slots, of its word slots, and of both
abbrev pub counted_slots : Object → List ℕ
counted_slots object = if_scanned (is_scanned object.kind) (take object.counted object.slots)

abbrev pub word_slots : Object → List ℕ
word_slots object = if_scanned (is_scanned object.kind) (drop object.counted object.slots)

abbrev pub scanned_slots : Object → List ℕ
scanned_slots object = if_scanned (is_scanned object.kind) object.slots

-- the words of an area's counted cells, and of all its scanned cells
abbrev pub counted_cells : Area → List ℕ
counted_cells area = if_scanned area.scanned (take area.counted area.cells)

abbrev pub scanned_cells : Area → List ℕ
scanned_cells area = if_scanned area.scanned area.cells

abbrev pub stack_words : State → List ℕ
stack_words a = words_of a.stack

-- the words of scanned areas
abbrev pub area_words : State → List ℕ
area_words a = flat_map scanned_cells a.areas

-- the words at which marking begins
abbrev pub root_words : State → List ℕ
root_words a = stack_words a ++ area_words a

abbrev pub counted_cell_words : State → List ℕ
counted_cell_words a = flat_map counted_cells a.areas

-- the words of all counted slots of live objects and of all counted cells
abbrev pub counted_words : State → List ℕ
counted_words a = flat_map counted_slots (live_objects a.objects) ++ counted_cell_words a

-- whether a word falls in a piece of memory: it is the address of one of its bytes
abbrev pub falls : ℕ → ℕ → ℕ → Bool
falls word base extent = nat_le base word && nat_lt word (base + extent)

-- one of the words falls in the object
abbrev pub names : List ℕ → Object → Bool
names words object = list_any (λ word. falls word object.base object.extent) words

-- one of the words is the object's base
abbrev pub holds : List ℕ → Object → Bool
holds words object = list_any (λ word. word == object.base) words
