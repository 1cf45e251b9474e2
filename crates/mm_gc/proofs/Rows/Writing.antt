-- The rows of `put`.
use Rattle.std.proofs.Common.{◌≡◌, ℕ, ◌<◌, ◌≤◌, Bool, true, false, ◌||◌, [], length, Some, refl, sym, ap, ◌∙◌}
use Rattle.std.specs.Prelude.{nat_le, slice_get}
use Rattle.std.specs.Option.{option_map_or}
use Rattle.mm_model.specs.declared.command.Command.TheVariants as commands
use Rattle.mm_model.specs.declared.refusal.Refusal.TheVariants as refusals
use Rattle.mm_model.specs.Views.ByBase.{Based}
use Rattle.mm_model.specs.Views.ObjectView.{ObjectView, slot_kind_of}
use Rattle.mm_model.specs.Views.View.{View}
use Rattle.mm_model.specs.Views.ViewWords.{view_meant, view_refuses_word}
use Rattle.mm_model.specs.Views.ViewTests.{view_word}
use Rattle.mm_model.specs.Views.ViewEffect.{with_found, view_put_effect}
use Rattle.mm_model.specs.Views.ViewStep.{IsViewRow}
use Rattle.mm_gc.proofs.Refusals.{RefusesIn, row-carried}
use Rattle.mm_gc.proofs.Refusals.Refuses.{Here, Later, Allowed}
use Rattle.mm_gc.proofs.Rows.Cells.{le-true, le-false, is_cell}
use Rattle.mm_gc.proofs.Rows.Reading.{MeansObject, MeansNothing, some_meant, none_meant, word_of-cell, told}

-- one of the two cells isn't there
pub put-no_holder : (view : View) (i s j : ℕ) → length view.stack ≤ i
    → RefusesIn view (commands.Put i s j) (Some refusals.NoCell)
put-no_holder view i s j past =
    Here (ap (λ b. b || nat_le (length view.stack) j) (le-true (length view.stack) i past))

pub put-no_word : (view : View) (i s j : ℕ) → length view.stack ≤ j
    → RefusesIn view (commands.Put i s j) (Some refusals.NoCell)
put-no_word view i s j past = Here (or-last (nat_le (length view.stack) i) (le-true (length view.stack) j past))
  where
    or-last : (a : Bool) {b : Bool} → b ≡ true → (a || b) ≡ true
    or-last true e = refl
    or-last false e = e

both_cells : (view : View) (i j word value : ℕ) → slice_get view.stack i ≡ Some word
    → slice_get view.stack j ≡ Some value → (nat_le (length view.stack) i || nat_le (length view.stack) j) ≡ false
both_cells view i j word value first second =
    ap (λ b. b || nat_le (length view.stack) j) (is_cell view i word first) ∙ is_cell view j value second

pub put-nothing : (view : View) (i s j value : ℕ) → MeansNothing view i → slice_get view.stack j ≡ Some value
    → RefusesIn view (commands.Put i s j) (Some refusals.Nothing)
put-nothing view i s j value h second =
    Later (both_cells view i j h.word value h.cell second) (Here (none_meant view i h.meant))

module _ (view : View) (i s j word value : ℕ) (o : Based ObjectView) (h : MeansObject view i word o)
    (second : slice_get view.stack j ≡ Some value) where
  test_slot : {b : Bool} → nat_le (length o.value.words) s ≡ b
      → option_map_or (λ o. nat_le (length o.value.words) s) (view_meant view i) false ≡ b
  test_slot is = told view i o h.meant (λ o. nat_le (length o.value.words) s) is

  test_word : {b : Bool} → view_refuses_word view (slot_kind_of o.value s) value ≡ b
      → option_map_or (λ o. view_refuses_word view (slot_kind_of o.value s) (view_word view j)) (view_meant view i)
      false ≡ b
  test_word is =
      told view i o h.meant (λ o. view_refuses_word view (slot_kind_of o.value s) (view_word view j))
      (ap (view_refuses_word view (slot_kind_of o.value s)) (word_of-cell view j value second) ∙ is)

  pub put-no_slot : length o.value.words ≤ s → RefusesIn view (commands.Put i s j) (Some refusals.NoSlot)
  put-no_slot past =
      Later (both_cells view i j word value h.cell second)
      (Later (some_meant view i o h.meant) (Here (test_slot (le-true (length o.value.words) s past))))

  pub put-refused : s < length o.value.words → view_refuses_word view (slot_kind_of o.value s) value ≡ true
      → RefusesIn view (commands.Put i s j) (Some refusals.NotCounted)
  put-refused within refused =
      Later (both_cells view i j word value h.cell second)
      (Later (some_meant view i o h.meant)
      (Later (test_slot (le-false (length o.value.words) s within)) (Here (test_word refused))))

  pub put-row : s < length o.value.words → view_refuses_word view (slot_kind_of o.value s) value ≡ false
      → IsViewRow view (commands.Put i s j) [] (view_put_effect view o s value)
  put-row within taken =
      row-carried view (commands.Put i s j) [] (view_put_effect view o s value)
      (Later (both_cells view i j word value h.cell second)
      (Later (some_meant view i o h.meant)
      (Later (test_slot (le-false (length o.value.words) s within)) (Later (test_word taken) Allowed))))
      (record {
        no_lines = refl;
        effect_is = sym (ap (λ found. with_found found view
            (λ o. with_found (slice_get view.stack j) view (view_put_effect view o s))) h.meant
            ∙ ap (λ found. with_found found view (view_put_effect view o s)) second);
      })
