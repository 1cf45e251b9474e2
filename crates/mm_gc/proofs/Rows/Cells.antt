-- The rows of the commands on the stack alone, and the tests that other rows begin with.
use Rattle.std.proofs.Common.{◌≡◌, ℕ, ◌<◌, ◌≤◌, true, false, [], drop, length, Some, refl, sym, ap, arith}
use Rattle.std.proofs.lemmas.Bool.{eq-eqb}
use Rattle.std.proofs.lemmas.Bool.Decides.{nat_tests}
use Rattle.std.proofs.lemmas.Option.{slice_get_within}
use Rattle.std.specs.Prelude.{◌==◌, nat_lt, nat_le, slice_get}
use Rattle.mm_model.specs.declared.command.Command.TheVariants as commands
use Rattle.mm_model.specs.declared.refusal.Refusal.TheVariants as refusals
use Rattle.mm_model.specs.declared.reply.Reply.TheVariants as replies
use Rattle.mm_model.specs.Views.View.{View}
use Rattle.mm_model.specs.Views.ViewEffect.{with_found, view_pushed, view_done}
use Rattle.mm_model.specs.Views.ViewStep.{IsViewRow}
use Rattle.mm_gc.proofs.Refusals.{RefusesIn, row-carried}
use Rattle.mm_gc.proofs.Refusals.Refuses.{Here, Later, Allowed}

pub le-true : (a b : ℕ) → a ≤ b → nat_le a b ≡ true
le-true a b h = grind (arith, nat_tests)

pub le-false : (a b : ℕ) → b < a → nat_le a b ≡ false
le-false a b h = grind (arith, nat_tests)

pub lt-true : (a b : ℕ) → a < b → nat_lt a b ≡ true
lt-true a b h = grind (arith, nat_tests)

pub lt-false : (a b : ℕ) → b ≤ a → nat_lt a b ≡ false
lt-false a b h = grind (arith, nat_tests)

-- the stack has room for one more cell
abbrev pub HasRoomOnStack : View → Type 0
HasRoomOnStack view = (length view.stack == view.settings.stack) ≡ false

abbrev pub IsFull : View → Type 0
IsFull view = (length view.stack == view.settings.stack) ≡ true

pub is_full : (view : View) → length view.stack ≡ view.settings.stack → IsFull view
is_full view e = eq-eqb (length view.stack) view.settings.stack e

pub has_room : (view : View) → length view.stack < view.settings.stack → HasRoomOnStack view
has_room view h = grind (arith, nat_tests)

-- a stack cell that there is
pub is_cell : (view : View) (i word : ℕ) → slice_get view.stack i ≡ Some word → nat_le (length view.stack) i ≡ false
is_cell view i word e =
    let within = slice_get_within view.stack i word e in
    le-false (length view.stack) i within

pub push-full : (view : View) (word : ℕ) → IsFull view → RefusesIn view (commands.Push word) (Some refusals.StackFull)
push-full view word full = Here full

pub push-row : (view : View) (word : ℕ) → HasRoomOnStack view
    → IsViewRow view (commands.Push word) [] (record { view = view_pushed word view; reply = replies.Done })
push-row view word room =
    row-carried view (commands.Push word) [] (record { view = view_pushed word view; reply = replies.Done })
    (Later room Allowed) (record { no_lines = refl; effect_is = refl })

pub dup-no_cell : (view : View) (i : ℕ) → length view.stack ≤ i
    → RefusesIn view (commands.Dup i) (Some refusals.NoCell)
dup-no_cell view i past = Here (le-true (length view.stack) i past)

pub dup-full : (view : View) (i word : ℕ) → slice_get view.stack i ≡ Some word → IsFull view
    → RefusesIn view (commands.Dup i) (Some refusals.StackFull)
dup-full view i word cell full =
    Later (is_cell view i word cell) (Here full)

pub dup-row : (view : View) (i word : ℕ) → slice_get view.stack i ≡ Some word → HasRoomOnStack view
    → IsViewRow view (commands.Dup i) [] (record { view = view_pushed word view; reply = replies.Done })
dup-row view i word cell room =
    row-carried view (commands.Dup i) [] (record { view = view_pushed word view; reply = replies.Done })
    (Later (is_cell view i word cell) (Later room Allowed))
    (record {
      no_lines = refl;
      effect_is = sym (ap (λ found. with_found found view (λ word. view_done (view_pushed word view))) cell);
    })

pub pop-no_cell : (view : View) (k : ℕ) → length view.stack < k
    → RefusesIn view (commands.Pop k) (Some refusals.NoCell)
pop-no_cell view k fewer = Here (lt-true (length view.stack) k fewer)

pub pop-row : (view : View) (k : ℕ) → k ≤ length view.stack
    → IsViewRow view (commands.Pop k) []
    (record { view = record view { stack = drop k view.stack }; reply = replies.Done })
pop-row view k within =
    row-carried view (commands.Pop k) []
    (record { view = record view { stack = drop k view.stack }; reply = replies.Done })
    (Later (lt-false (length view.stack) k within) Allowed)
    (record { no_lines = refl; effect_is = refl })
