-- What a push leaves, and what commands answer that end with one.
use Rattle.std.proofs.Common.{◌≡◌, ℕ, ◌<◌, ◌≤◌, [], drop, length, Some, Result, Ok, Err, refl, sym, subst}
use Rattle.std.specs.Prelude.{IfOk, OnErr}
use Rattle.mm_model.specs.declared.command.Command.{Command}
use Rattle.mm_model.specs.declared.command.Command.TheVariants as commands
use Rattle.mm_model.specs.declared.refusal.Refusal.{Refusal}
use Rattle.mm_model.specs.declared.refusal.Refusal.TheVariants as refusals
use Rattle.mm_model.specs.declared.reply.Reply.TheVariants as replies
use Rattle.mm_model.specs.Views.ViewEffect.{view_pushed, view_pushes}
use Rattle.mm_model.specs.Views.ViewStep.{IsViewRow}
use Rattle.mm_roots.specs.Stack.{Cells, pushed, popped}
use Rattle.mm_gc.specs.Gc.{Gc, view_of_gc}
use Rattle.mm_gc.specs.Kept.{KeepsGc}
use Rattle.mm_gc.specs.Rows.{Answers}
use Rattle.mm_gc.specs.Replies.{done_reply, word_reply}
use Rattle.mm_gc.specs.Refused.{CellAnswer, PushAnswer}
use Rattle.mm_gc.proofs.Keeping.Keeps.{keeps-stack}
use Rattle.mm_gc.proofs.Refusals.{RefusesIn, row-refused}
use Rattle.mm_gc.proofs.Rows.Cells.{HasRoomOnStack, IsFull, has_room, is_full, push-row, pop-row}
use Rattle.mm_gc.proofs.Shown.{row-of, row-shows}

-- a heap with one more word on the stack
pub pushed-keeps : (gc : Gc) (word : ℕ) → KeepsGc gc → length gc.stack.words < gc.stack.limit
    → KeepsGc (record gc { stack = pushed gc.stack word })
pushed-keeps gc word keeps room =
    let view = view_of_gc gc in
    keeps-stack gc (pushed gc.stack word) keeps refl refl
    (row-shows view (view_pushed word view) (commands.Push word) [] replies.Done keeps.shown
    (push-row view word (has_room view (subst (λ limit. length gc.stack.words < limit) keeps.rooms.stack room))))

-- after a push that may be refused
pub push-keeps : {X E : Type 0} (gc : Gc) (word : ℕ) (after : Cells) (result : Result X E) → KeepsGc gc
    → IfOk result (λ _. length gc.stack.words < gc.stack.limit) → IfOk result (λ _. after ≡ pushed gc.stack word)
    → OnErr result (after ≡ gc.stack) → KeepsGc (record gc { stack = after })
push-keeps gc word after (Ok x) keeps room is same =
    subst (λ stack. KeepsGc (record gc { stack = stack })) (sym is) (pushed-keeps gc word keeps room)
push-keeps gc word after (Err e) keeps room is same =
    subst (λ stack. KeepsGc (record gc { stack = stack })) (sym same) keeps

-- a heap with fewer
pub pop-keeps : (gc : Gc) (k : ℕ) (after : Cells) → KeepsGc gc → k ≤ length gc.stack.words
    → after ≡ popped gc.stack k → KeepsGc (record gc { stack = after })
pop-keeps gc k after keeps within is =
    let view = view_of_gc gc in
    subst (λ stack. KeepsGc (record gc { stack = stack })) (sym is)
    (keeps-stack gc (popped gc.stack k) keeps refl refl
    (row-shows view (record view { stack = drop k view.stack }) (commands.Pop k) [] replies.Done keeps.shown
    (pop-row view k within)))

pub pop-answers : (gc : Gc) (k : ℕ) (after : Cells) → k ≤ length gc.stack.words → after ≡ popped gc.stack k
    → Answers gc (record gc { stack = after }) (commands.Pop k) replies.Done
pop-answers gc k after within is =
    let view = view_of_gc gc in
    subst (λ stack. Answers gc (record gc { stack = stack }) (commands.Pop k) replies.Done) (sym is)
    (row-of view (record view { stack = drop k view.stack }) (commands.Pop k) [] replies.Done (pop-row view k within))

-- a command that is refused
pub refused-answers : (gc : Gc) (command : Command) (because : Refusal)
    → RefusesIn (view_of_gc gc) command (Some because) → Answers gc gc command (replies.Refused because)
refused-answers gc command because refuses =
    let view = view_of_gc gc in
    row-of view view command [] (replies.Refused because) (row-refused view command because refuses)

-- and where there is no such cell
pub no_cell-answers : (gc : Gc) (i : ℕ) (command : Command) (because : Refusal)
    → CellAnswer gc.stack.words i (Err because)
    → (length gc.stack.words ≤ i → RefusesIn (view_of_gc gc) command (Some refusals.NoCell))
    → Answers gc gc command (replies.Refused because)
no_cell-answers gc i command because a refuses =
    subst (λ why. Answers gc gc command (replies.Refused why)) (sym a.0)
    (refused-answers gc command refusals.NoCell (refuses a.1))

-- one that ends with a push, and answers the word or that it is done
module _ (old new : Gc) (word : ℕ) (command : Command)
    (full : IsFull (view_of_gc old) → RefusesIn (view_of_gc old) command (Some refusals.StackFull)) where
  pub full-answers : (because : Refusal) → PushAnswer old new word (Err because)
      → Answers old new command (replies.Refused because)
  full-answers because a =
      subst (λ gc. Answers old gc command (replies.Refused because)) (sym a.same)
      (subst (λ why. Answers old old command (replies.Refused why)) (sym a.because_is)
      (refused-answers old command refusals.StackFull (full (is_full (view_of_gc old) a.full))))

  pub word-answers : (result : Result ℕ Refusal) → PushAnswer old new word result
      → (HasRoomOnStack (view_of_gc old) → IsViewRow (view_of_gc old) command [] (view_pushes word (view_of_gc old)))
      → Answers old new command (word_reply result)
  word-answers (Err because) a row = full-answers because a
  word-answers (Ok answer) a row =
      let view = view_of_gc old in
      subst (λ gc. Answers old gc command (replies.Word answer)) (sym a.same)
      (subst (λ w. Answers old (record old { stack = pushed old.stack word }) command (replies.Word w))
      (sym a.answer_is)
      (row-of view (view_pushed word view) command [] (replies.Word word) (row (has_room view a.room))))

  pub done-answers : (result : Result ℕ Refusal) → PushAnswer old new word result
      → (HasRoomOnStack (view_of_gc old) → IsViewRow (view_of_gc old) command []
      (record { view = view_pushed word (view_of_gc old); reply = replies.Done }))
      → Answers old new command (done_reply result)
  done-answers (Err because) a row = full-answers because a
  done-answers (Ok answer) a row =
      let view = view_of_gc old in
      subst (λ gc. Answers old gc command replies.Done) (sym a.same)
      (row-of view (view_pushed word view) command [] replies.Done (row (has_room view a.room)))
