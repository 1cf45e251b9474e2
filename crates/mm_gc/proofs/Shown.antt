-- A row of the view of a good state is a row of the state, and so is a step. What is left shows a good state again.
use Rattle.std.proofs.Common.{◌≡◌, List, Option, Some, None, refl, sym, subst}
use Rattle.mm_model.specs.declared.command.Command.{Command}
use Rattle.mm_model.specs.declared.reply.Reply.{Reply}
use Rattle.mm_model.specs.declared.line.Line.{Line}
use Rattle.mm_model.specs.State.{State}
use Rattle.mm_model.specs.Good.{IsGood}
use Rattle.mm_model.specs.Effect.{Effect}
use Rattle.mm_model.specs.Step.{IsRow, RowUnless}
use Rattle.mm_model.specs.Refusing.{refusal}
use Rattle.mm_model.specs.After.{after}
use Rattle.mm_model.specs.declared.refusal.Refusal.{Refusal}
use Rattle.mm_model.specs.Views.View.{View, Shows}
use Rattle.mm_model.specs.Views.ViewStep.{IsViewRow, IsViewStep}
use Rattle.mm_model.specs.Views.GoodView.{IsGoodView}
use Rattle.mm_model.proofs.Good.Steps.{carries_stays}
use Rattle.mm_model.proofs.View.Shown.{shown-is, view_of-shows}
use Rattle.mm_model.proofs.View.Commands.Rows.{row-shown}
use Rattle.mm_model.proofs.View.Commands.Steps.{step-shown}
use Rattle.mm_model.proofs.View.GoodViews.{shown_is_good}
use Rattle.mm_laws.proofs.Turning.Lawful.{lawful-step}
use Rattle.mm_gc.specs.Rows.{IsAnswered, IsRowOf, IsStepOf}
use Rattle.mm_gc.specs.Showing.{IsShowing}

-- a row of a good state leads to a good one
row_is_good : (a : State) (command : Command) (log : List Line) (effect : Effect) → IsGood a
    → IsRow a command log effect → IsGood effect.state
row_is_good a command log effect good row = split (refusal a command) refl row
  where
    split : (because : Option Refusal) → refusal a command ≡ because → RowUnless because a command log effect
        → IsGood effect.state
    split None allowed m = carries_stays a good command log effect allowed m
    split (Some because) refused m = subst (λ (e : Effect). IsGood e.state) (sym m.effect_is) good

row-answered : (a : State) → IsGood a → (old new : View) → Shows old a → (command : Command) (log : List Line)
    (reply : Reply) → IsViewRow old command log (record { view = new; reply = reply })
    → IsAnswered new command log reply a
row-answered a good old new shows command log reply row =
    let shown = row-shown a good command log (record { view = new; reply = reply })
    (subst (λ view. IsViewRow view command log (record { view = new; reply = reply })) (shown-is old a shows) row) in
    record {
      effect = shown.effect;
      row = shown.row;
      reply_is = sym shown.same.reply;
      good = row_is_good a command log shown.effect good shown.row;
      shows = subst (λ view. Shows view shown.effect.state) (sym shown.same.view) (view_of-shows shown.effect.state);
    }

-- in words alone, and so of every good state that is shown
pub row-of : (old new : View) (command : Command) (log : List Line) (reply : Reply)
    → IsViewRow old command log (record { view = new; reply = reply }) → IsRowOf old new command log reply
row-of old new command log reply row =
    record {
      row = row;
      states = λ a good shows. row-answered a good old new shows command log reply row;
    }

pub row-shows : (old new : View) (command : Command) (log : List Line) (reply : Reply) → IsShowing old
    → IsViewRow old command log (record { view = new; reply = reply }) → IsShowing new
row-shows old new command log reply showing row =
    let answered = row-answered showing.state showing.good old new showing.shows command log reply row in
    record { state = answered.effect.state; good = answered.good; shows = answered.shows }

pub step-of : (old new : View) (command : Command) (group : List Line) → IsViewStep old command group new
    → (a : State) → IsGood a → Shows old a → IsStepOf new command group a
step-of old new command group step a good shows =
    let shown = step-shown old a good shows command group new step in
    record {
      step = shown.step;
      lawful = lawful-step a command group (after a command group) good shown.step;
      good = shown.good;
      shows = shown.shows;
    }

pub showing-good : (view : View) → IsShowing view → IsGoodView view
showing-good view showing = shown_is_good view showing.state showing.good showing.shows
