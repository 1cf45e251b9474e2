-- A command is refused in a view exactly as in the state, since the tests of refusals are the same.
use Rattle.std.proofs.Common.{◌≡◌, ℕ, ◌+◌, Bool, true, false, not, length, Option, Some, None, refl, sym, ap, ◌∙◌}
use mathlib.Core.Path.{fun_ext}
use Rattle.std.proofs.lemmas.List.{length-map}
use Rattle.std.specs.Prelude.{is_some, nat_le, nat_lt, ◌==◌}
use Rattle.std.specs.Option.{option_map, option_map_or}
use Rattle.mm_model.specs.declared.command.Command.{Command}
use Rattle.mm_model.specs.Value.{Value, words_of}
use Rattle.mm_model.specs.Object.{is_weak}
use Rattle.mm_model.specs.State.{State, Area}
use Rattle.mm_model.specs.Words.{slot_kind, cell_kind, falls}
use Rattle.mm_model.specs.Meaning.{object_meant}
use Rattle.mm_model.specs.Areas.{area_at, most_areas}
use Rattle.mm_model.specs.Store.{refuses_word}
use Rattle.mm_model.specs.Refusing.{tests_of, refusal_row, first_refusal, no_area, means_nothing, means_weak}
use Rattle.mm_model.specs.Refusing.{is_outside, has_no_slot, refuses_in_slot, has_no_area_cell, refuses_in_cell}
use Rattle.mm_model.specs.Refusing.{word_at, refusal}
use Rattle.mm_model.specs.Good.{IsGood}
use Rattle.mm_model.specs.Views.ObjectView.{slot_kind_of}
use Rattle.mm_model.specs.Views.View.{AreaView, seen_cycle, seen_area, view_of}
use Rattle.mm_model.specs.Views.ViewWords.{area_in, view_meant, cell_kind_of, view_refuses_word}
use Rattle.mm_model.specs.Views.ViewTests.{tests_of_view, view_is_outside, view_has_no_slot, view_refuses_in_slot}
use Rattle.mm_model.specs.Views.ViewTests.{view_means_weak, view_has_no_area_cell, view_refuses_in_cell, view_refusal}
use Rattle.mm_model.proofs.View.Words.{area_in-seen, view_refuses_word-seen}
use Rattle.mm_model.proofs.View.Meaning.{asked_of-meant}

pub is_some-map : {X Y : Type 0} (f : X → Y) (found : Option X) → is_some (option_map f found) ≡ is_some found
is_some-map f None = refl
is_some-map f (Some x) = refl

is_some_or : {X : Type 0} (found : Option X) → is_some found ≡ option_map_or (λ x. true) found false
is_some_or None = refl
is_some_or (Some x) = refl

-- what is asked of the area with a number
asked_of-area : (test : AreaView → Bool) (own : Area → Bool) → ((area : Area) → test (seen_area area) ≡ own area)
    → (found : Option Area) → option_map_or test (option_map seen_area found) false ≡ option_map_or own found false
asked_of-area test own same None = refl
asked_of-area test own same (Some area) = same area

module _ (a : State) where
  pub depth-seen : length (words_of a.stack) ≡ length a.stack
  depth-seen = length-map a.stack (λ (v : Value). v.word)

  no_area-seen : (number : ℕ) → not (is_some (area_in (view_of a) number)) ≡ no_area a number
  no_area-seen number =
      ap (λ found. not (is_some found)) (area_in-seen a number) ∙ ap not (is_some-map seen_area (area_at a number))

  no_area_cell-seen : (number s : ℕ) → view_has_no_area_cell (view_of a) number s ≡ has_no_area_cell a number s
  no_area_cell-seen number s =
      ap (λ found. option_map_or (λ (area : AreaView). nat_le (length area.words) s) found false)
      (area_in-seen a number)
      ∙ asked_of-area (λ area. nat_le (length area.words) s) (λ area. nat_le (length area.cells) s)
      (λ area. ap (λ n. nat_le n s) (length-map area.cells (λ (v : Value). v.word))) (area_at a number)

module _ (a : State) (good : IsGood a) where
  means_nothing-seen : (i : ℕ) → not (is_some (view_meant (view_of a) i)) ≡ means_nothing a i
  means_nothing-seen i =
      ap not
      (is_some_or (view_meant (view_of a) i)
      ∙ asked_of-meant a good (λ o. true) (λ o. true) false (λ birth object. refl) i
      ∙ sym (is_some_or (object_meant a i)))

  means_weak-seen : (i : ℕ) → view_means_weak (view_of a) i ≡ means_weak a i
  means_weak-seen i =
      asked_of-meant a good (λ o. is_weak o.value.kind) (λ o. is_weak o.kind) false (λ birth object. refl) i

  is_outside-seen : (i bytes : ℕ) → view_is_outside (view_of a) i bytes ≡ is_outside a i bytes
  is_outside-seen i bytes =
      asked_of-meant a good (λ o. not (falls (word_at a i + bytes) o.base o.value.extent))
      (λ o. not (falls (word_at a i + bytes) o.base o.extent)) false (λ birth object. refl) i

  has_no_slot-seen : (i s : ℕ) → view_has_no_slot (view_of a) i s ≡ has_no_slot a i s
  has_no_slot-seen i s =
      asked_of-meant a good (λ o. nat_le (length o.value.words) s) (λ o. nat_le (length o.slots) s) false
      (λ birth object. ap (λ n. nat_le n s) (length-map object.slots (λ (v : Value). v.word))) i

  refuses_in_slot-seen : (i s j : ℕ) → view_refuses_in_slot (view_of a) i s j ≡ refuses_in_slot a i s j
  refuses_in_slot-seen i s j =
      asked_of-meant a good (λ o. view_refuses_word (view_of a) (slot_kind_of o.value s) (word_at a j))
      (λ o. refuses_word a (slot_kind o s) (word_at a j)) false
      (λ birth object. view_refuses_word-seen a good.placed (slot_kind object s) (word_at a j)) i

  refuses_in_cell-seen : (number s j : ℕ) → view_refuses_in_cell (view_of a) number s j ≡ refuses_in_cell a number s j
  refuses_in_cell-seen number s j =
      let test = λ (area : AreaView). view_refuses_word (view_of a) (cell_kind_of area s) (word_at a j) in
      ap (λ found. option_map_or test found false) (area_in-seen a number)
      ∙ asked_of-area test (λ area. refuses_word a (cell_kind area s) (word_at a j))
      (λ area. view_refuses_word-seen a good.placed (cell_kind area s) (word_at a j)) (area_at a number)

  pub tests_of_view-seen : tests_of_view (view_of a) ≡ tests_of a
  tests_of_view-seen =
      let stack_full = ap (λ n. n == a.settings.stack) (depth-seen a) in
      let areas_full = ap (λ n. n == most_areas) (length-map a.areas seen_area) in
      let running = is_some-map (seen_cycle a) a.cycle in
      let no_cells = fun_ext (λ i. ap (λ n. nat_le n i) (depth-seen a)) in
      let fewer = fun_ext (λ k. ap (λ n. nat_lt n k) (depth-seen a)) in
      let no_areas = fun_ext (λ number. no_area-seen a number) in
      let nothing = fun_ext (λ i. means_nothing-seen i) in
      let weak = fun_ext (λ i. means_weak-seen i) in
      let outside = fun_ext (λ i. fun_ext (λ bytes. is_outside-seen i bytes)) in
      let no_slots = fun_ext (λ i. fun_ext (λ s. has_no_slot-seen i s)) in
      let refusing = fun_ext (λ i. fun_ext (λ s. fun_ext (λ j. refuses_in_slot-seen i s j))) in
      let no_area_cells = fun_ext (λ number. fun_ext (λ s. no_area_cell-seen a number s)) in
      let refusing_cells = fun_ext (λ number. fun_ext (λ s. fun_ext (λ j. refuses_in_cell-seen number s j))) in
      λ t. record {
        is_stack_full = stack_full t;
        are_areas_full = areas_full t;
        is_running = running t;
        no_cell = no_cells t;
        has_fewer_cells = fewer t;
        no_area = no_areas t;
        means_nothing = nothing t;
        means_weak = weak t;
        is_outside = outside t;
        has_no_slot = no_slots t;
        refuses_in_slot = refusing t;
        has_no_area_cell = no_area_cells t;
        refuses_in_cell = refusing_cells t;
      }

  -- the same refusal, or none
  pub view_refusal-seen : (command : Command) → view_refusal (view_of a) command ≡ refusal a command
  view_refusal-seen command = ap (λ tests. first_refusal (refusal_row tests command)) tests_of_view-seen
