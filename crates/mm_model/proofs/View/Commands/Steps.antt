-- Each step of a view is a step of every good state that it shows, and leads to the view of a good state.
use Rattle.std.proofs.Common.{◌≡◌, List, [], ◌∷◌, ◌++◌, Option, Some, None, refl, sym, ap, ◌∙◌, subst}
use Rattle.mm_model.specs.declared.command.Command.{Command}
use Rattle.mm_model.specs.declared.line.Line.{Line}
use Rattle.mm_model.specs.declared.line.Line.TheVariants as lines
use Rattle.mm_model.specs.declared.refusal.Refusal.{Refusal}
use Rattle.mm_model.specs.State.{State, one_more_command}
use Rattle.mm_model.specs.Refusing.{refusal}
use Rattle.mm_model.specs.Step.{IsStepUnless, IsStep, is_full}
use Rattle.mm_model.specs.After.{after}
use Rattle.mm_model.specs.Good.{IsGood}
use Rattle.mm_model.specs.Views.View.{View, Shows, view_of}
use Rattle.mm_model.specs.Views.ViewStep.{ViewEnds, ViewIsCarriedOut, IsViewStepUnless, IsViewStep, one_more_counted}
use Rattle.mm_model.proofs.Good.Steps.{carries_stays, step_is_good}
use Rattle.mm_model.proofs.Steps.Determining.{lines_determine_the_state}
use Rattle.mm_model.proofs.View.Commands.Ends.{end-shown}
use Rattle.mm_model.proofs.View.Commands.Rows.{carries-shown}
use Rattle.mm_model.proofs.View.Shown.{shown-is, view_of-shows}
use Rattle.mm_model.proofs.View.Commands.Tests.{view_refusal-seen}

-- a step of a state, with the view that is left
record UnlessShown (because : Option Refusal) (a : State) (command : Command) (group : List Line)
    (left : View) : Type 0 where
  state : State
  step : IsStepUnless because a command group state
  left_is : left ≡ view_of state

module _ (a : State) (good : IsGood a) where
  carried_out-shown : (command : Command) (group : List Line) (left : View) → refusal a command ≡ None
      → ViewIsCarriedOut (view_of a) command group left → UnlessShown None a command group left
  carried_out-shown command group left allowed m =
      let row = carries-shown a good command m.log m.effect allowed m.carries in
      let after = carries_stays a good command m.log row.effect allowed row.row in
      let one = end-shown row.effect.state after (is_full row.effect.reply) m.end_log m.end
      (subst (λ view. ViewEnds view (is_full row.effect.reply) m.end_log m.end) row.same.view
      (subst (λ reply. ViewEnds m.effect.view (is_full reply) m.end_log m.end) row.same.reply m.ends)) in
      record {
        state = one_more_command one.state;
        step = record {
          log = m.log;
          effect = row.effect;
          carries = row.row;
          end_log = m.end_log;
          end = one.state;
          ends = one.ends;
          group_is = m.group_is ∙ ap (λ reply. m.log ++ m.end_log ++ lines.Reply reply ∷ []) row.same.reply;
          state_is = refl;
        };
        left_is = m.left_is ∙ ap one_more_counted one.left_is;
      }

  unless-shown : (because : Option Refusal) (command : Command) (group : List Line) (left : View)
      → refusal a command ≡ because → IsViewStepUnless because (view_of a) command group left
      → UnlessShown because a command group left
  unless-shown None command group left e m = carried_out-shown command group left e m
  unless-shown (Some because) command group left e m =
      record {
        state = one_more_command a;
        step = record { group_is = m.group_is; state_is = refl };
        left_is = m.left_is;
      }

-- What a step of its view tells of a good state: the lines say what state is left, and the view left is the view of it.
pub record StepShown (a : State) (command : Command) (group : List Line) (left : View) : Type 0 where
  pub step : IsStep a command group (after a command group)
  pub good : IsGood (after a command group)
  pub shows : Shows left (after a command group)

pub step-shown : (view : View) (a : State) → IsGood a → Shows view a
    → (command : Command) (group : List Line) (left : View) → IsViewStep view command group left
    → StepShown a command group left
step-shown view a good shows command group left step =
    let of_state = subst (λ v. IsViewStep v command group left) (shown-is view a shows) step in
    let one = unless-shown a good (refusal a command) command group left refl
    (subst (λ because. IsViewStepUnless because (view_of a) command group left)
    (view_refusal-seen a good command) of_state) in
    to_after a command group left (lines_determine_the_state a command group one.state good one.step) one.step
    (step_is_good a command group one.state good one.step)
    (subst (λ v. Shows v one.state) (sym one.left_is) (view_of-shows one.state))
  where
    to_after : (a : State) (command : Command) (group : List Line) (left : View) {b : State}
        → b ≡ after a command group → IsStep a command group b → IsGood b → Shows left b
        → StepShown a command group left
    to_after a command group left is step good shows =
        record {
          step = subst (IsStep a command group) is step;
          good = subst IsGood is good;
          shows = subst (Shows left) is shows;
        }
