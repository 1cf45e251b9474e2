-- How commands are carried out on a heap, with their lines.
use Rattle.std.specs.Prelude.{◌≡◌, ℕ, ◌≤◌, List, ◌++◌, ◌∷◌, [], length}
use Rattle.mm_model.specs.declared.command.Command.{Command}
use Rattle.mm_model.specs.declared.line.Line.{Line}
use Rattle.mm_model.specs.declared.line.Line.TheVariants as lines
use Rattle.mm_model.specs.declared.reply.Reply.{Reply}
use Rattle.mm_model.specs.declared.settings.Settings.{Settings}
use Rattle.mm_model.specs.State.{State}
use Rattle.mm_model.specs.Good.{IsGood}
use Rattle.mm_model.specs.Logs.Journal.{Writes}
use Rattle.mm_model.specs.Logs.Log.{IsLegal}
use Rattle.mm_model.specs.Logs.Spelling.{spelling_of}
use Rattle.mm_model.specs.Step.{IsStep}
use Rattle.mm_model.specs.Views.View.{Shows}
use Rattle.mm_gc.specs.Gc.{Gc, view_of_gc}
use Rattle.mm_gc.specs.Rows.{IsStepOf}
use Rattle.mmgc.specs.Writing.{Kept}

-- from one moment to the next a journal was given these bytes to write
abbrev pub Grew : Kept → Kept → List ℕ → Type 0
Grew before after bytes = Writes before.bytes before.broken after.bytes after.broken bytes

-- The commands were carried out with this log, which is legal, and the heap shows the state after it.
pub record CarriedOut (settings : Settings) (commands : List Command) (log : List Line) (heap : Gc) : Type 0 where
  pub state : State
  pub legal : IsLegal IsStep settings commands log state
  pub good : IsGood state
  pub shows : Shows (view_of_gc heap) state
  pub settings_stay : state.settings ≡ settings
  pub counted : state.commands ≡ length commands
  pub births : length state.objects ≤ length commands

-- a command was carried out, and its lines were written, of which the reply is the last
pub record CarriesOut (old new : Gc) (command : Command) (before after : Kept) : Type 0 where
  pub front : List Line
  pub reply : Reply
  pub step : (a : State) → IsGood a → Shows (view_of_gc old) a
      → IsStepOf (view_of_gc new) command (front ++ lines.Reply reply ∷ []) a
  pub written : Grew before after (spelling_of (front ++ lines.Reply reply ∷ []))

-- the lines that it wrote
abbrev pub group_of : {old new : Gc} {command : Command} {before after : Kept}
    → CarriesOut old new command before after → List Line
group_of done = done.front ++ lines.Reply done.reply ∷ []
