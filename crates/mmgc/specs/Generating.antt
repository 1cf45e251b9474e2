-- How a generated trace is carried out, and what is promised of its end.
use Rattle.std.specs.Prelude.{◌≡◌, ℕ, ◌⊎◌, List}
use Rattle.mm_model.specs.declared.command.Command.{Command}
use Rattle.mm_model.specs.declared.line.Line.{Line}
use Rattle.mm_model.specs.declared.line.Line.TheVariants as lines
use Rattle.mm_model.specs.declared.settings.Settings.{Settings}
use Rattle.mm_model.specs.State.{State, totals_of}
use Rattle.mm_model.specs.Step.{IsStep}
use Rattle.mm_model.specs.Good.{IsGood}
use Rattle.mm_model.specs.Logs.Log.{IsWhole}
use Rattle.mm_model.specs.Views.View.{Shows}
use Rattle.mm_model.specs.Logs.Spelling.{spelling}
use Rattle.mm_gc.specs.Gc.{Gc, view_of_gc, totals_in}
use Rattle.mm_gc.specs.Rows.{IsStepOf}
use Rattle.mmgc.specs.declared.generator.GeneratedTrace.{GeneratedTrace}
use Rattle.mmgc.specs.declared.replay.End.{End}
use Rattle.mmgc.specs.declared.replay.End.TheVariants.{Whole, WriteFailed}
use Rattle.mmgc.specs.Generator.{commands_of}
use Rattle.mmgc.specs.Carrying.{CarriedOut}
use Rattle.mmgc.specs.Run.{Output, IsWritten}

-- a command was carried out, and its lines are nowhere kept
pub record CarriesOutQuietly (old new : Gc) (command : Command) : Type 0 where
  pub group : List Line
  pub step : (a : State) → IsGood a → Shows (view_of_gc old) a → IsStepOf (view_of_gc new) command group a

-- the commands were carried out with some legal log
pub record HasCarriedOut (settings : Settings) (commands : List Command) (heap : Gc) : Type 0 where
  pub log : List Line
  pub carried : CarriedOut settings commands log heap

-- A text was written alone and passed on, or a front of it and a fault was counted.
pub record EndsWritten (end : End) (output : Output) (text : List ℕ) : Type 0 where
  pub end_is : (end ≡ Whole) ⊎ (end ≡ WriteFailed)
  pub written : IsWritten end output text

-- A generated trace was carried out. Of its whole log the total line alone was meant to be written.
pub record Generated (end : End) (settings : Settings) (trace : GeneratedTrace) (output : Output) (heap : Gc) :
    Type 0 where
  pub log : List Line
  pub state : State
  pub whole : IsWhole IsStep settings (commands_of trace) log state
  pub good : IsGood state
  pub shows : Shows (view_of_gc heap) state
  pub totals : totals_in heap ≡ totals_of state
  pub ends : EndsWritten end output (spelling (lines.Total (totals_of state)))
