-- What the calls of a heap promise: each is a row of the model, and `execute` is a step of it.
use Rattle.std.specs.Prelude.{◌≡◌, List, [], ◌∷◌, ◌++◌}
use Rattle.mm_model.specs.declared.command.Command.{Command}
use Rattle.mm_model.specs.declared.reply.Reply.{Reply}
use Rattle.mm_model.specs.declared.line.Line.{Line}
use Rattle.mm_model.specs.declared.line.Line.TheVariants as lines
use Rattle.mm_model.specs.State.{State}
use Rattle.mm_model.specs.Good.{IsGood}
use Rattle.mm_model.specs.Effect.{Effect}
use Rattle.mm_model.specs.Step.{IsRow, IsStep}
use Rattle.mm_model.specs.After.{after}
use Rattle.mm_model.specs.Logs.Faithful.{IsLawful}
use Rattle.mm_model.specs.Views.View.{View, Shows}
use Rattle.mm_model.specs.Views.ViewStep.{IsViewRow, IsViewStep}
use Rattle.mm_sweep.specs.Told.{Told, IsToldOf}
use Rattle.mm_gc.specs.Gc.{Gc, view_of_gc}

-- The command's row holds of a state, refusals included: the answer is its reply, the state that it leaves is good, and
-- the heap shows it. The number of commands stays.
pub record IsAnswered (new : View) (command : Command) (log : List Line) (reply : Reply) (a : State) : Type 0 where
  pub effect : Effect
  pub row : IsRow a command log effect
  pub reply_is : effect.reply ≡ reply
  pub good : IsGood effect.state
  pub shows : Shows new effect.state

-- The row, in words alone, and of every good state that the heap shows.
pub record IsRowOf (old new : View) (command : Command) (log : List Line) (reply : Reply) : Type 0 where
  pub row : IsViewRow old command log (record { view = new; reply = reply })
  pub states : (a : State) → IsGood a → Shows old a → IsAnswered new command log reply a

-- a call for a single command that writes no lines
abbrev pub Answers : Gc → Gc → Command → Reply → Type 0
Answers old new command reply = IsRowOf (view_of_gc old) (view_of_gc new) command [] reply

-- one that may write some, of which the journal heard
pub record Tells (old new : Gc) (command : Command) (reply : Reply) (heard : List Told → Type 0) : Type 0 where
  pub log : List Line
  pub answers : IsRowOf (view_of_gc old) (view_of_gc new) command log reply
  pub told : IsToldOf heard (view_of_gc old).objects log

-- The lines of a group are a step of a state, which stays good, and the heap shows the state after it. The step keeps
-- the laws for one step: no phase frees a protected object, a full collection leaves exactly what is reached, the end
-- of a cycle frees exactly what is neither marked nor reached, and a weak reference is empty exactly once its target is
-- gone.
pub record IsStepOf (new : View) (command : Command) (group : List Line) (a : State) : Type 0 where
  pub step : IsStep a command group (after a command group)
  pub lawful : IsLawful (record { before = a; command = command; group = group; after = after a command group })
  pub good : IsGood (after a command group)
  pub shows : Shows new (after a command group)

-- There is one list of lines, whose last is the reply, that is a step of every good state that the heap shows. Of the
-- lines before the reply the journal heard, and with the line of each finalizer it was given the words that the object
-- held when the command began.
pub record Executes (old new : Gc) (command : Command) (reply : Reply) (heard : List Told → Type 0) : Type 0 where
  pub before_reply : List Line
  pub row : IsViewStep (view_of_gc old) command (before_reply ++ lines.Reply reply ∷ []) (view_of_gc new)
  pub step : (a : State) → IsGood a → Shows (view_of_gc old) a
      → IsStepOf (view_of_gc new) command (before_reply ++ lines.Reply reply ∷ []) a
  pub told : IsToldOf heard (view_of_gc old).objects before_reply
