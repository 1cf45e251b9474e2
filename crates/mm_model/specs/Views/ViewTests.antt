-- When a command is refused in a view, before anything is tried.
use Rattle.std.specs.Prelude.{ℕ, ◌+◌, ◌==◌, Bool, false, not, nat_lt, nat_le, length, Option, is_some, slice_index}
use Rattle.std.specs.Option.{option_map_or}
use Rattle.mm_model.specs.declared.command.Command.{Command}
use Rattle.mm_model.specs.declared.refusal.Refusal.{Refusal}
use Rattle.mm_model.specs.Object.{is_weak}
use Rattle.mm_model.specs.Words.{falls}
use Rattle.mm_model.specs.Areas.{most_areas}
use Rattle.mm_model.specs.Refusing.{Tests, refusal_row, first_refusal}
use Rattle.mm_model.specs.Views.ObjectView.{slot_kind_of}
use Rattle.mm_model.specs.Views.View.{View}
use Rattle.mm_model.specs.Views.ViewWords.{view_meant, area_in, cell_kind_of, view_refuses_word}

-- the word of a stack cell
abbrev pub view_word : View → ℕ → ℕ
view_word view i = slice_index view.stack i

abbrev pub view_is_outside : View → ℕ → ℕ → Bool
view_is_outside view i bytes =
    option_map_or (λ o. not (falls (view_word view i + bytes) o.base o.value.extent)) (view_meant view i) false

abbrev pub view_has_no_slot : View → ℕ → ℕ → Bool
view_has_no_slot view i s = option_map_or (λ o. nat_le (length o.value.words) s) (view_meant view i) false

abbrev pub view_refuses_in_slot : View → ℕ → ℕ → ℕ → Bool
view_refuses_in_slot view i s j =
    option_map_or (λ o. view_refuses_word view (slot_kind_of o.value s) (view_word view j)) (view_meant view i) false

abbrev pub view_means_weak : View → ℕ → Bool
view_means_weak view i = option_map_or (λ o. is_weak o.value.kind) (view_meant view i) false

abbrev pub view_has_no_area_cell : View → ℕ → ℕ → Bool
view_has_no_area_cell view number s =
    option_map_or (λ area. nat_le (length area.words) s) (area_in view number) false

abbrev pub view_refuses_in_cell : View → ℕ → ℕ → ℕ → Bool
view_refuses_in_cell view number s j =
    option_map_or (λ area. view_refuses_word view (cell_kind_of area s) (view_word view j)) (area_in view number)
    false

abbrev pub tests_of_view : View → Tests
tests_of_view view =
    record {
      is_stack_full = length view.stack == view.settings.stack;
      are_areas_full = length view.areas == most_areas;
      is_running = is_some view.cycle;
      no_cell = λ i. nat_le (length view.stack) i;
      has_fewer_cells = λ k. nat_lt (length view.stack) k;
      no_area = λ number. not (is_some (area_in view number));
      means_nothing = λ i. not (is_some (view_meant view i));
      means_weak = view_means_weak view;
      is_outside = view_is_outside view;
      has_no_slot = view_has_no_slot view;
      refuses_in_slot = view_refuses_in_slot view;
      has_no_area_cell = view_has_no_area_cell view;
      refuses_in_cell = view_refuses_in_cell view;
    }

abbrev pub view_refusal : View → Command → Option Refusal
view_refusal view command = first_refusal (refusal_row (tests_of_view view) command)
