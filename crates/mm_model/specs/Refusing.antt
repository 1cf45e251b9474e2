-- When a command is refused, before anything is tried. `Full` alone is answered later, where a search ends without a
-- place.
use Rattle.std.specs.Prelude.{ℕ, ◌+◌, Bool, true, false, not, ◌&&◌, ◌||◌, ◌==◌, nat_lt, nat_le, List, [], ◌∷◌, length}
use Rattle.std.specs.Prelude.{Option, Some, None, is_some, slice_index}
use Rattle.std.specs.Option.{option_map_or}
use Rattle.mm_model.specs.declared.object.Shape.{Shape}
use Rattle.mm_model.specs.declared.command.Command.{Command}
use Rattle.mm_model.specs.declared.command.Command.TheVariants as commands
use Rattle.mm_model.specs.declared.refusal.Refusal.{Refusal}
use Rattle.mm_model.specs.declared.refusal.Refusal.TheVariants as refusals
use Rattle.mm_model.specs.Object.{is_leaf, is_weak}
use Rattle.mm_model.specs.State.{State}
use Rattle.mm_model.specs.Words.{falls, slot_kind, cell_kind, stack_words}
use Rattle.mm_model.specs.Meaning.{object_meant}
use Rattle.mm_model.specs.Areas.{area_at, most_areas}
use Rattle.mm_model.specs.Store.{refuses_word}

-- the first refusal of the row whose test holds
abbrev pub first_refusal : List (Bool × Refusal) → Option Refusal
first_refusal [] = None
first_refusal (row ∷ rows) = elim row.0 [ true ↦ Some row.1 | false ↦ first_refusal rows ]

-- an object or an area has at most so many slots or cells
abbrev pub most_slots : ℕ
most_slots = 1048575

-- no object that `new` makes has this shape
abbrev pub is_bad_shape : Shape → Bool
is_bad_shape shape =
    nat_lt shape.slots shape.counted || nat_lt most_slots shape.slots ||
    (is_leaf shape.kind && nat_lt 0 shape.counted) || is_weak shape.kind

-- no area has so many counted cells among so many
abbrev pub is_bad_area : ℕ → ℕ → Bool
is_bad_area counted cells = nat_lt cells counted || nat_lt most_slots cells || cells == 0

abbrev pub is_stack_full : State → Bool
is_stack_full a = length a.stack == a.settings.stack

abbrev pub are_areas_full : State → Bool
are_areas_full a = length a.areas == most_areas

-- no stack cell has this index from the top
abbrev pub no_cell : State → ℕ → Bool
no_cell a i = nat_le (length a.stack) i

abbrev pub no_area : State → ℕ → Bool
no_area a number = not (is_some (area_at a number))

abbrev pub means_nothing : State → ℕ → Bool
means_nothing a i = not (is_some (object_meant a i))

-- the word of a stack cell
abbrev pub word_at : State → ℕ → ℕ
word_at a i = slice_index (stack_words a) i

-- the word of the cell plus so many bytes doesn't fall in the object that the cell means
abbrev pub is_outside : State → ℕ → ℕ → Bool
is_outside a i bytes =
    option_map_or (λ object. not (falls (word_at a i + bytes) object.base object.extent)) (object_meant a i) false

abbrev pub has_no_slot : State → ℕ → ℕ → Bool
has_no_slot a i s = option_map_or (λ object. nat_le (length object.slots) s) (object_meant a i) false

abbrev pub refuses_in_slot : State → ℕ → ℕ → ℕ → Bool
refuses_in_slot a i s j =
    option_map_or (λ object. refuses_word a (slot_kind object s) (word_at a j)) (object_meant a i) false

abbrev pub means_weak : State → ℕ → Bool
means_weak a i = option_map_or (λ object. is_weak object.kind) (object_meant a i) false

abbrev pub has_no_area_cell : State → ℕ → ℕ → Bool
has_no_area_cell a number s = option_map_or (λ area. nat_le (length area.cells) s) (area_at a number) false

abbrev pub refuses_in_cell : State → ℕ → ℕ → ℕ → Bool
refuses_in_cell a number s j =
    option_map_or (λ area. refuses_word a (cell_kind area s) (word_at a j)) (area_at a number) false

-- what the refusals of commands ask of a heap, whatever tells it
pub record Tests : Type 0 where
  pub is_stack_full : Bool
  pub are_areas_full : Bool
  pub is_running : Bool
  -- no stack cell has this index from the top, and there are fewer than so many
  pub no_cell : ℕ → Bool
  pub has_fewer_cells : ℕ → Bool
  pub no_area : ℕ → Bool
  -- by stack cell: it means nothing, it means a weak reference, so many bytes further is outside of what it means
  pub means_nothing : ℕ → Bool
  pub means_weak : ℕ → Bool
  pub is_outside : ℕ → ℕ → Bool
  -- what the stack cell means has no such slot, or a counted one that doesn't take the word of the last stack cell
  pub has_no_slot : ℕ → ℕ → Bool
  pub refuses_in_slot : ℕ → ℕ → ℕ → Bool
  -- the same of the cells of the area with a number
  pub has_no_area_cell : ℕ → ℕ → Bool
  pub refuses_in_cell : ℕ → ℕ → ℕ → Bool

abbrev pub tests_of : State → Tests
tests_of a =
    record {
      is_stack_full = is_stack_full a;
      are_areas_full = are_areas_full a;
      is_running = is_some a.cycle;
      no_cell = no_cell a;
      has_fewer_cells = λ k. nat_lt (length a.stack) k;
      no_area = no_area a;
      means_nothing = means_nothing a;
      means_weak = means_weak a;
      is_outside = is_outside a;
      has_no_slot = has_no_slot a;
      refuses_in_slot = refuses_in_slot a;
      has_no_area_cell = has_no_area_cell a;
      refuses_in_cell = refuses_in_cell a;
    }

-- the row of each command, in the order in which the refusals are tried
abbrev pub refusal_row : Tests → Command → List (Bool × Refusal)
refusal_row t (commands.New shape) = (is_bad_shape shape, refusals.Shape) ∷ (t.is_stack_full, refusals.StackFull) ∷ []
refusal_row t (commands.Push word) = (t.is_stack_full, refusals.StackFull) ∷ []
refusal_row t (commands.Dup i) = (t.no_cell i, refusals.NoCell) ∷ (t.is_stack_full, refusals.StackFull) ∷ []
refusal_row t (commands.Pop k) = (t.has_fewer_cells k, refusals.NoCell) ∷ []
refusal_row t (commands.Inner i bytes) =
    (t.no_cell i, refusals.NoCell) ∷ (t.means_nothing i, refusals.Nothing) ∷
    (t.is_outside i bytes, refusals.Outside) ∷ (t.is_stack_full, refusals.StackFull) ∷ []
refusal_row t (commands.Get i s) =
    (t.no_cell i, refusals.NoCell) ∷ (t.means_nothing i, refusals.Nothing) ∷
    (t.has_no_slot i s, refusals.NoSlot) ∷ (t.is_stack_full, refusals.StackFull) ∷ []
refusal_row t (commands.Put i s j) =
    (t.no_cell i || t.no_cell j, refusals.NoCell) ∷ (t.means_nothing i, refusals.Nothing) ∷
    (t.has_no_slot i s, refusals.NoSlot) ∷ (t.refuses_in_slot i s j, refusals.NotCounted) ∷ []
refusal_row t (commands.Weak i) =
    (t.no_cell i, refusals.NoCell) ∷ (t.means_nothing i, refusals.Nothing) ∷
    (t.means_weak i, refusals.NoWeak) ∷ (t.is_stack_full, refusals.StackFull) ∷ []
refusal_row t (commands.Look i) =
    (t.no_cell i, refusals.NoCell) ∷ (t.means_nothing i, refusals.Nothing) ∷
    (not (t.means_weak i), refusals.NoWeak) ∷ (t.is_stack_full, refusals.StackFull) ∷ []
refusal_row t (commands.Root counted cells) =
    (is_bad_area counted cells, refusals.Shape) ∷ (t.are_areas_full, refusals.AreasFull) ∷ []
refusal_row t (commands.Fixed cells) =
    (is_bad_area 0 cells, refusals.Shape) ∷ (t.are_areas_full, refusals.AreasFull) ∷ []
refusal_row t (commands.DropArea number) = (t.no_area number, refusals.NoArea) ∷ []
refusal_row t (commands.AreaGet number s) =
    (t.no_area number, refusals.NoArea) ∷ (t.has_no_area_cell number s, refusals.NoSlot) ∷
    (t.is_stack_full, refusals.StackFull) ∷ []
refusal_row t (commands.AreaPut number s j) =
    (t.no_cell j, refusals.NoCell) ∷ (t.no_area number, refusals.NoArea) ∷
    (t.has_no_area_cell number s, refusals.NoSlot) ∷ (t.refuses_in_cell number s j, refusals.NotCounted) ∷ []
refusal_row t commands.Reap = []
refusal_row t commands.Collect = []
refusal_row t commands.Begin = (t.is_running, refusals.Busy) ∷ []
refusal_row t (commands.Step k) = (not t.is_running, refusals.Idle) ∷ []
refusal_row t commands.Finish = (not t.is_running, refusals.Idle) ∷ []
refusal_row t (commands.Map i) = (t.no_cell i, refusals.NoCell) ∷ []
refusal_row t commands.Stat = []

abbrev pub refusal : State → Command → Option Refusal
refusal a command = first_refusal (refusal_row (tests_of a) command)
