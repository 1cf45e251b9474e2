-- A legal log that is cut behind some of its commands.
use Rattle.std.specs.Prelude.{◌≡◌, List, ◌++◌}
use Rattle.mm_model.specs.declared.command.Command.{Command}
use Rattle.mm_model.specs.declared.line.Line.{Line}
use Rattle.mm_model.specs.State.{State}
use Rattle.mm_model.specs.Step.{IsStep}
use Rattle.mm_model.specs.Logs.Log.{IsRun}

-- The lines of the first commands, the state that they leave, and the lines of the others from there on.
pub record IsCutBehind (a : State) (first others : List Command) (log : List Line) (b : State) : Type 0 where
  pub front : List Line
  pub rest : List Line
  pub mid : State
  pub log_is : log ≡ front ++ rest
  pub before : IsRun IsStep a first front mid
  pub behind : IsRun IsStep mid others rest b
