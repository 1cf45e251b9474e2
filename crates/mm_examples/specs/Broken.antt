-- The promises of a log, and logs that keep all of them but one.
use Rattle.std.specs.Prelude.{◌≡◌, List}
use Rattle.mm_model.specs.declared.command.Command.{Command}
use Rattle.mm_model.specs.declared.line.Line.{Line}
use Rattle.mm_model.specs.declared.settings.Settings.{Settings}
use Rattle.mm_model.specs.Logs.Turns.{Turn, AreTurns, EachTurn}
use Rattle.mm_model.specs.Logs.Faithful.{ReadsThroughReferences, SparesProtected, FollowsTargets, LeavesReached}
use Rattle.mm_model.specs.Logs.Faithful.{EndsCycles}
use Rattle.mm_model.specs.Logs.Faithful.{KeepsApart}

pub data Promise : Type 0 where
  References : Promise
  Protected : Promise
  WeakReferences : Promise
  Collections : Promise
  Cycles : Promise
  Apart : Promise

-- what a promise says of a turn and those before it
abbrev pub KeepsAt : Promise → Settings → List Turn → Turn → Type 0
KeepsAt References settings earlier turn = ReadsThroughReferences earlier turn
KeepsAt Protected settings earlier turn = SparesProtected turn
KeepsAt WeakReferences settings earlier turn = FollowsTargets earlier turn
KeepsAt Collections settings earlier turn = LeavesReached turn
KeepsAt Cycles settings earlier turn = EndsCycles earlier turn
KeepsAt Apart settings earlier turn = KeepsApart settings turn

-- The log breaks the promise, and keeps every other one.
pub record BreaksOnly (promise : Promise) (settings : Settings) (commands : List Command)
    (log : List Line) : Type 0 where
  pub turns : List Turn
  pub are : AreTurns settings commands log turns
  pub broken : EachTurn turns (KeepsAt promise settings) → ⊥
  pub others : (other : Promise) → (other ≡ promise → ⊥) → EachTurn turns (KeepsAt other settings)
