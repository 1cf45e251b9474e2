-- The rows of the commands that read through what a stack cell means.
use Rattle.std.proofs.Common.{◌≡◌, ℕ, ◌+◌, ◌<◌, ◌≤◌, Bool, true, false, not, [], length, Option, Some, None, refl, sym}
use Rattle.std.proofs.Common.{ap, ◌∙◌}
use Rattle.std.proofs.lemmas.Option.{slice_get_within, slice_get-get_or}
use Rattle.std.specs.Prelude.{nat_le, slice_get, is_some}
use Rattle.std.specs.Option.{option_map_or}
use Rattle.mm_model.specs.declared.command.Command.TheVariants as commands
use Rattle.mm_model.specs.declared.refusal.Refusal.TheVariants as refusals
use Rattle.mm_model.specs.declared.reply.Reply.TheVariants as replies
use Rattle.mm_model.specs.Object.{is_weak}
use Rattle.mm_model.specs.Words.{falls}
use Rattle.mm_model.specs.Views.ByBase.{Based}
use Rattle.mm_model.specs.Views.ObjectView.{ObjectView}
use Rattle.mm_model.specs.Views.View.{View}
use Rattle.mm_model.specs.Views.ViewWords.{view_meant}
use Rattle.mm_model.specs.Views.ViewTests.{view_word}
use Rattle.mm_model.specs.Views.ViewEffect.{with_found, view_pushed, view_pushes, view_look_effect, view_map_reply}
use Rattle.mm_model.specs.Views.ViewEffect.{view_stat}
use Rattle.mm_model.specs.Views.ViewStep.{IsViewRow}
use Rattle.mm_gc.proofs.Refusals.{RefusesIn, row-carried}
use Rattle.mm_gc.proofs.Refusals.Refuses.{Here, Later, Allowed}
use Rattle.mm_gc.proofs.Rows.Cells.{le-true, le-false, HasRoomOnStack, IsFull, is_cell}

-- the word of a cell, and what the cell means
pub record MeansObject (view : View) (i word : ℕ) (o : Based ObjectView) : Type 0 where
  pub cell : slice_get view.stack i ≡ Some word
  pub meant : view_meant view i ≡ Some o

pub record MeansNothing (view : View) (i : ℕ) : Type 0 where
  pub word : ℕ
  pub cell : slice_get view.stack i ≡ Some word
  pub meant : view_meant view i ≡ None

pub word_of-cell : (view : View) (i word : ℕ) → slice_get view.stack i ≡ Some word → view_word view i ≡ word
word_of-cell view i word e =
    let one : Some (view_word view i) ≡ Some word =
    sym (slice_get-get_or view.stack i 0 (slice_get_within view.stack i word e)) ∙ e in
    cc

-- it isn't nothing that it means
pub some_meant : (view : View) (i : ℕ) (o : Based ObjectView) → view_meant view i ≡ Some o
    → not (is_some (view_meant view i)) ≡ false
some_meant view i o e = ap (λ found. not (is_some found)) e

pub none_meant : (view : View) (i : ℕ) → view_meant view i ≡ None → not (is_some (view_meant view i)) ≡ true
none_meant view i e = ap (λ found. not (is_some found)) e

-- what a test over the meant object says
pub told : {b : Bool} (view : View) (i : ℕ) (o : Based ObjectView) → view_meant view i ≡ Some o
    → (test : Based ObjectView → Bool) → test o ≡ b → option_map_or test (view_meant view i) false ≡ b
told view i o e test is = ap (λ found. option_map_or test found false) e ∙ is

-- inner
pub inner-no_cell : (view : View) (i bytes : ℕ) → length view.stack ≤ i
    → RefusesIn view (commands.Inner i bytes) (Some refusals.NoCell)
inner-no_cell view i bytes past = Here (le-true (length view.stack) i past)

pub inner-nothing : (view : View) (i bytes : ℕ) → MeansNothing view i
    → RefusesIn view (commands.Inner i bytes) (Some refusals.Nothing)
inner-nothing view i bytes h =
    Later (is_cell view i h.word h.cell)
    (Here (none_meant view i h.meant))

module _ (view : View) (i word bytes : ℕ) (o : Based ObjectView) (h : MeansObject view i word o) where
  test_inner : {b : Bool} → not (falls (word + bytes) o.base o.value.extent) ≡ b
      → option_map_or (λ o. not (falls (view_word view i + bytes) o.base o.value.extent)) (view_meant view i) false ≡ b
  test_inner is =
      told view i o h.meant (λ o. not (falls (view_word view i + bytes) o.base o.value.extent))
      (ap (λ w. not (falls (w + bytes) o.base o.value.extent)) (word_of-cell view i word h.cell) ∙ is)

  pub inner-outside : falls (word + bytes) o.base o.value.extent ≡ false
      → RefusesIn view (commands.Inner i bytes) (Some refusals.Outside)
  inner-outside out =
      Later (is_cell view i word h.cell)
      (Later (some_meant view i o h.meant)
      (Here (test_inner (ap not out))))

  pub inner-full : falls (word + bytes) o.base o.value.extent ≡ true → IsFull view
      → RefusesIn view (commands.Inner i bytes) (Some refusals.StackFull)
  inner-full inside full =
      Later (is_cell view i word h.cell)
      (Later (some_meant view i o h.meant)
      (Later (test_inner (ap not inside)) (Here full)))

  pub inner-row : falls (word + bytes) o.base o.value.extent ≡ true → HasRoomOnStack view
      → IsViewRow view (commands.Inner i bytes) []
      (record { view = view_pushed (word + bytes) view; reply = replies.Word (word + bytes) })
  inner-row inside room =
      row-carried view (commands.Inner i bytes) []
      (record { view = view_pushed (word + bytes) view; reply = replies.Word (word + bytes) })
      (Later (is_cell view i word h.cell)
      (Later (some_meant view i o h.meant)
      (Later (test_inner (ap not inside)) (Later room Allowed))))
      (record {
        no_lines = refl;
        effect_is = sym (ap (λ found. with_found found view (λ word. view_pushes (word + bytes) view)) h.cell);
      })

-- get
pub get-no_cell : (view : View) (i s : ℕ) → length view.stack ≤ i
    → RefusesIn view (commands.Get i s) (Some refusals.NoCell)
get-no_cell view i s past = Here (le-true (length view.stack) i past)

pub get-nothing : (view : View) (i s : ℕ) → MeansNothing view i
    → RefusesIn view (commands.Get i s) (Some refusals.Nothing)
get-nothing view i s h =
    Later (is_cell view i h.word h.cell)
    (Here (none_meant view i h.meant))

module _ (view : View) (i word s : ℕ) (o : Based ObjectView) (h : MeansObject view i word o) where
  pub test_slot : {b : Bool} → nat_le (length o.value.words) s ≡ b
      → option_map_or (λ o. nat_le (length o.value.words) s) (view_meant view i) false ≡ b
  test_slot is = told view i o h.meant (λ o. nat_le (length o.value.words) s) is

  pub get-no_slot : length o.value.words ≤ s → RefusesIn view (commands.Get i s) (Some refusals.NoSlot)
  get-no_slot past =
      Later (is_cell view i word h.cell)
      (Later (some_meant view i o h.meant)
      (Here (test_slot (le-true (length o.value.words) s past))))

  pub get-full : s < length o.value.words → IsFull view → RefusesIn view (commands.Get i s) (Some refusals.StackFull)
  get-full within full =
      Later (is_cell view i word h.cell)
      (Later (some_meant view i o h.meant)
      (Later (test_slot (le-false (length o.value.words) s within))
      (Here full)))

  pub get-row : (value : ℕ) → slice_get o.value.words s ≡ Some value → HasRoomOnStack view
      → IsViewRow view (commands.Get i s) [] (record { view = view_pushed value view; reply = replies.Word value })
  get-row value slot room =
      row-carried view (commands.Get i s) [] (record { view = view_pushed value view; reply = replies.Word value })
      (Later (is_cell view i word h.cell)
      (Later (some_meant view i o h.meant)
      (Later (test_slot (le-false (length o.value.words) s (slice_get_within o.value.words s value slot)))
      (Later room Allowed))))
      (record {
        no_lines = refl;
        effect_is = sym (ap (λ found. with_found found view
            (λ o. with_found (slice_get o.value.words s) view (λ word. view_pushes word view))) h.meant
            ∙ ap (λ found. with_found found view (λ word. view_pushes word view)) slot);
      })

-- look
pub look-no_cell : (view : View) (i : ℕ) → length view.stack ≤ i
    → RefusesIn view (commands.Look i) (Some refusals.NoCell)
look-no_cell view i past = Here (le-true (length view.stack) i past)

pub look-nothing : (view : View) (i : ℕ) → MeansNothing view i
    → RefusesIn view (commands.Look i) (Some refusals.Nothing)
look-nothing view i h =
    Later (is_cell view i h.word h.cell)
    (Here (none_meant view i h.meant))

module _ (view : View) (i word : ℕ) (o : Based ObjectView) (h : MeansObject view i word o) where
  pub test_weak : {b : Bool} → is_weak o.value.kind ≡ b
      → option_map_or (λ o. is_weak o.value.kind) (view_meant view i) false ≡ b
  test_weak is = told view i o h.meant (λ o. is_weak o.value.kind) is

  pub look-strong : is_weak o.value.kind ≡ false → RefusesIn view (commands.Look i) (Some refusals.NoWeak)
  look-strong strong =
      Later (is_cell view i word h.cell)
      (Later (some_meant view i o h.meant)
      (Here (ap not (test_weak strong))))

  pub look-full : is_weak o.value.kind ≡ true → IsFull view → RefusesIn view (commands.Look i) (Some refusals.StackFull)
  look-full weak full =
      Later (is_cell view i word h.cell)
      (Later (some_meant view i o h.meant)
      (Later (ap not (test_weak weak)) (Here full)))

  pub look-row : is_weak o.value.kind ≡ true → HasRoomOnStack view
      → IsViewRow view (commands.Look i) [] (view_look_effect view o.value.partner)
  look-row weak room =
      row-carried view (commands.Look i) [] (view_look_effect view o.value.partner)
      (Later (is_cell view i word h.cell)
      (Later (some_meant view i o h.meant)
      (Later (ap not (test_weak weak)) (Later room Allowed))))
      (record {
        no_lines = refl;
        effect_is = sym (ap (λ found. with_found found view (λ o. view_look_effect view o.value.partner)) h.meant);
      })

-- map and stat
pub map-no_cell : (view : View) (i : ℕ) → length view.stack ≤ i
    → RefusesIn view (commands.Map i) (Some refusals.NoCell)
map-no_cell view i past = Here (le-true (length view.stack) i past)

pub map-row : (view : View) (i word : ℕ) (found : Option (Based ObjectView)) → slice_get view.stack i ≡ Some word
    → view_meant view i ≡ found
    → IsViewRow view (commands.Map i) [] (record { view = view; reply = view_map_reply found })
map-row view i word found cell meant =
    row-carried view (commands.Map i) [] (record { view = view; reply = view_map_reply found })
    (Later (is_cell view i word cell) Allowed)
    (record {
      no_lines = refl;
      effect_is = sym (ap (λ found. record { view = view; reply = view_map_reply found }) meant);
    })

pub stat-row : (view : View)
    → IsViewRow view commands.Stat [] (record { view = view; reply = replies.Stat (view_stat view) })
stat-row view =
    row-carried view commands.Stat [] (record { view = view; reply = replies.Stat (view_stat view) }) Allowed
    (record { no_lines = refl; effect_is = refl })
