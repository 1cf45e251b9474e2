-- The paced list of a trace: its commands, with those among them that the rules add.
use Rattle.std.specs.Prelude.{◌≡◌, ℕ, ◌*◌, ◌<◌, IsTrue, List, [], ◌∷◌, ◌++◌, map, Option, Some, None, ⊤}
use Rattle.std.specs.List.{flat_map}
use Rattle.mm_model.specs.declared.command.Command.{Command}
use Rattle.mm_model.specs.declared.line.Line.{Line}
use Rattle.mm_model.specs.declared.settings.Settings.{Settings}
use Rattle.mm_model.specs.State.{State, empty_state}
use Rattle.mm_model.specs.Logs.Turns.{Turn, AreTurns, AreSteps}
use Rattle.mm_pace.specs.Work.{is_running}
use Rattle.mm_pace.specs.Recent.{since, work_begun}
use Rattle.mm_pace.specs.Rules.{Rule, rules_at}

-- A command of the trace as it is carried out: its own turn, and those of the commands that are added after it.
pub record Stretch : Type 0 where
  pub own : Turn
  pub added : List Turn

abbrev pub turns_in : Stretch → List Turn
turns_in stretch = stretch.own ∷ stretch.added

abbrev pub commands_in : List Turn → List Command
commands_in turns = map (λ turn. turn.command) turns

abbrev pub list_of : Option Command → List Command
list_of None = []
list_of (Some command) = command ∷ []

-- The turns that rules add after earlier ones. Each rule is applied once, in order, to the turns so far, those of the
-- rules before it among them.
abbrev pub AreAdded : List Rule → List Turn → List Turn → Type 0
AreAdded [] earlier added = added ≡ []
AreAdded (rule ∷ rules) earlier added =
    (turns : List Turn) × (rest : List Turn) × (added ≡ turns ++ rest) ×
    (commands_in turns ≡ list_of (rule earlier)) × AreAdded rules (earlier ++ turns) rest

-- After each command of the trace the rules are applied, whether it was refused or not.
abbrev pub AreRuled : ℕ → List Turn → List Stretch → Type 0
AreRuled rate earlier [] = ⊤
AreRuled rate earlier (stretch ∷ stretches) =
    AreAdded (rules_at rate) (earlier ++ stretch.own ∷ []) stretch.added
    × AreRuled rate (earlier ++ turns_in stretch) stretches

-- The turns are, for each command of the trace in order, a turn of that command and those that the rules add after it.
pub record IsPaced (rate : ℕ) (trace : List Command) (turns own : List Turn) : Type 0 where
  pub stretches : List Stretch
  pub each_command : commands_in own ≡ trace
  -- the turns of the trace's own commands
  pub own_are : map (λ stretch. stretch.own) stretches ≡ own
  pub turns_are : flat_map turns_in stretches ≡ turns
  pub ruled : AreRuled rate [] stretches

-- The commands whose turns, as a log tells them, are paced from the trace.
pub record IsPacedList (rate : ℕ) (settings : Settings) (trace : List Command) (log : List Line)
    (commands : List Command) : Type 0 where
  pub turns : List Turn
  pub own : List Turn
  pub are : AreTurns settings commands log turns
  pub paced : IsPaced rate trace turns own

-- The commands that are carried out for a trace: its own, or at a rate the paced list.
abbrev pub AreCommandsOf : Option ℕ → Settings → List Command → List Line → List Command → Type 0
AreCommandsOf None settings trace log commands = commands ≡ trace
AreCommandsOf (Some rate) settings trace log commands = IsPacedList rate settings trace log commands

-- The turns of the trace's own commands among those that were carried out: all, or at a rate those that no rule added.
abbrev pub AreOwn : (rate : Option ℕ) (settings : Settings) (trace : List Command) (log : List Line)
    (commands : List Command) → AreCommandsOf rate settings trace log commands → List Turn → Type 0
AreOwn None settings trace log commands are own = AreTurns settings commands log own
AreOwn (Some rate) settings trace log commands list own = own ≡ list.own

-- what holds of each turn of the trace's own commands and of all turns before it
abbrev pub EachOwn : List Stretch → (List Turn → Turn → Type 0) → Type 0
EachOwn stretches P =
    (front : List Stretch) (stretch : Stretch) (later : List Stretch) → front ++ stretch ∷ later ≡ stretches
    → P (flat_map turns_in front) stretch.own

-- Whenever a command of the trace begins while a cycle runs, the bytes since the cycle began, times the rate, are below
-- 16 times the work that it had as it began. Without a rate nothing is said.
abbrev pub AreInTime : (rate : Option ℕ) (settings : Settings) (trace : List Command) (log : List Line)
    (commands : List Command) → AreCommandsOf rate settings trace log commands → Type 0
AreInTime None settings trace log commands are = ⊤
AreInTime (Some rate) settings trace log commands list =
    EachOwn list.paced.stretches
    (λ earlier turn. IsTrue (is_running turn.before) → rate * since earlier < 16 * work_begun earlier)

-- Turns behind these ones, with which they are paced from a trace, and are steps from the empty state on.
pub record GoesOn (rate : ℕ) (settings : Settings) (trace : List Command) (turns : List Turn) : Type 0 where
  pub later : List Turn
  pub own : List Turn
  pub state : State
  pub paced : IsPaced rate trace (turns ++ later) own
  pub steps : AreSteps (empty_state settings) (turns ++ later) state
