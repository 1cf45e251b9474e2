-- The rows of the commands on areas that look for no place.
use Rattle.std.proofs.Common.{◌≡◌, ℕ, ◌<◌, ◌≤◌, Bool, true, false, not, [], length, Some, None, refl, sym, ap, ◌∙◌}
use Rattle.std.proofs.lemmas.Option.{slice_get_within}
use Rattle.std.specs.Prelude.{nat_le, slice_get, is_some}
use Rattle.std.specs.Option.{option_map_or}
use Rattle.mm_model.specs.declared.command.Command.TheVariants as commands
use Rattle.mm_model.specs.declared.refusal.Refusal.TheVariants as refusals
use Rattle.mm_model.specs.declared.reply.Reply.TheVariants as replies
use Rattle.mm_model.specs.Views.View.{View, AreaView}
use Rattle.mm_model.specs.Views.ViewWords.{area_in, cell_kind_of, view_refuses_word}
use Rattle.mm_model.specs.Views.ViewTests.{view_word}
use Rattle.mm_model.specs.Views.ViewEffect.{with_found, view_pushed, view_pushes, view_without_area}
use Rattle.mm_model.specs.Views.ViewEffect.{view_area_put_effect}
use Rattle.mm_model.specs.Views.ViewStep.{IsViewRow}
use Rattle.mm_gc.proofs.Refusals.{RefusesIn, row-carried}
use Rattle.mm_gc.proofs.Refusals.Refuses.{Here, Later, Allowed}
use Rattle.mm_gc.proofs.Rows.Cells.{le-true, le-false, HasRoomOnStack, IsFull, is_cell}
use Rattle.mm_gc.proofs.Rows.Reading.{word_of-cell}

no_area : (view : View) (number : ℕ) → area_in view number ≡ None → not (is_some (area_in view number)) ≡ true
no_area view number e = ap (λ found. not (is_some found)) e

some_area : (view : View) (number : ℕ) (area : AreaView) → area_in view number ≡ Some area
    → not (is_some (area_in view number)) ≡ false
some_area view number area e = ap (λ found. not (is_some found)) e

told_area : {b : Bool} (view : View) (number : ℕ) (area : AreaView) → area_in view number ≡ Some area
    → (test : AreaView → Bool) → test area ≡ b → option_map_or test (area_in view number) false ≡ b
told_area view number area e test is = ap (λ found. option_map_or test found false) e ∙ is

-- drop
pub drop-no_area : (view : View) (number : ℕ) → area_in view number ≡ None
    → RefusesIn view (commands.DropArea number) (Some refusals.NoArea)
drop-no_area view number e = Here (no_area view number e)

pub drop-row : (view : View) (number : ℕ) (area : AreaView) → area_in view number ≡ Some area
    → IsViewRow view (commands.DropArea number) []
    (record { view = view_without_area number view; reply = replies.Done })
drop-row view number area e =
    row-carried view (commands.DropArea number) []
    (record { view = view_without_area number view; reply = replies.Done })
    (Later (some_area view number area e) Allowed) (record { no_lines = refl; effect_is = refl })

-- aget
pub area_get-no_area : (view : View) (number s : ℕ) → area_in view number ≡ None
    → RefusesIn view (commands.AreaGet number s) (Some refusals.NoArea)
area_get-no_area view number s e = Here (no_area view number e)

module _ (view : View) (number s : ℕ) (area : AreaView) (e : area_in view number ≡ Some area) where
  test_cell : {b : Bool} → nat_le (length area.words) s ≡ b
      → option_map_or (λ area. nat_le (length area.words) s) (area_in view number) false ≡ b
  test_cell is = told_area view number area e (λ area. nat_le (length area.words) s) is

  pub area_get-no_slot : length area.words ≤ s → RefusesIn view (commands.AreaGet number s) (Some refusals.NoSlot)
  area_get-no_slot past =
      Later (some_area view number area e) (Here (test_cell (le-true (length area.words) s past)))

  pub area_get-full : s < length area.words → IsFull view
      → RefusesIn view (commands.AreaGet number s) (Some refusals.StackFull)
  area_get-full within full =
      Later (some_area view number area e) (Later (test_cell (le-false (length area.words) s within)) (Here full))

  pub area_get-row : (word : ℕ) → slice_get area.words s ≡ Some word → HasRoomOnStack view
      → IsViewRow view (commands.AreaGet number s) []
      (record { view = view_pushed word view; reply = replies.Word word })
  area_get-row word cell room =
      row-carried view (commands.AreaGet number s) []
      (record { view = view_pushed word view; reply = replies.Word word })
      (Later (some_area view number area e)
      (Later (test_cell (le-false (length area.words) s (slice_get_within area.words s word cell)))
      (Later room Allowed)))
      (record {
        no_lines = refl;
        effect_is = sym (ap (λ found. with_found found view
            (λ area. with_found (slice_get area.words s) view (λ word. view_pushes word view))) e
            ∙ ap (λ found. with_found found view (λ word. view_pushes word view)) cell);
      })

-- aput
pub area_put-no_cell : (view : View) (number s j : ℕ) → length view.stack ≤ j
    → RefusesIn view (commands.AreaPut number s j) (Some refusals.NoCell)
area_put-no_cell view number s j past = Here (le-true (length view.stack) j past)

pub area_put-no_area : (view : View) (number s j word : ℕ) → slice_get view.stack j ≡ Some word
    → area_in view number ≡ None → RefusesIn view (commands.AreaPut number s j) (Some refusals.NoArea)
area_put-no_area view number s j word cell e = Later (is_cell view j word cell) (Here (no_area view number e))

module _ (view : View) (number s j word : ℕ) (area : AreaView) (cell : slice_get view.stack j ≡ Some word)
    (e : area_in view number ≡ Some area) where
  test_put_cell : {b : Bool} → nat_le (length area.words) s ≡ b
      → option_map_or (λ area. nat_le (length area.words) s) (area_in view number) false ≡ b
  test_put_cell is = told_area view number area e (λ area. nat_le (length area.words) s) is

  test_word : {b : Bool} → view_refuses_word view (cell_kind_of area s) word ≡ b
      → option_map_or (λ area. view_refuses_word view (cell_kind_of area s) (view_word view j)) (area_in view number)
      false
      ≡ b
  test_word is =
      told_area view number area e (λ area. view_refuses_word view (cell_kind_of area s) (view_word view j))
      (ap (view_refuses_word view (cell_kind_of area s)) (word_of-cell view j word cell) ∙ is)

  pub area_put-no_slot : length area.words ≤ s → RefusesIn view (commands.AreaPut number s j) (Some refusals.NoSlot)
  area_put-no_slot past =
      Later (is_cell view j word cell)
      (Later (some_area view number area e) (Here (test_put_cell (le-true (length area.words) s past))))

  pub area_put-refused : s < length area.words → view_refuses_word view (cell_kind_of area s) word ≡ true
      → RefusesIn view (commands.AreaPut number s j) (Some refusals.NotCounted)
  area_put-refused within refused =
      Later (is_cell view j word cell)
      (Later (some_area view number area e)
      (Later (test_put_cell (le-false (length area.words) s within)) (Here (test_word refused))))

  pub area_put-row : s < length area.words → view_refuses_word view (cell_kind_of area s) word ≡ false
      → IsViewRow view (commands.AreaPut number s j) [] (view_area_put_effect view area s word)
  area_put-row within taken =
      row-carried view (commands.AreaPut number s j) [] (view_area_put_effect view area s word)
      (Later (is_cell view j word cell)
      (Later (some_area view number area e)
      (Later (test_put_cell (le-false (length area.words) s within)) (Later (test_word taken) Allowed))))
      (record {
        no_lines = refl;
        effect_is = sym (ap (λ found. with_found found view
            (λ area. with_found (slice_get view.stack j) view (view_area_put_effect view area s))) e
            ∙ ap (λ found. with_found found view (view_area_put_effect view area s)) cell);
      })
