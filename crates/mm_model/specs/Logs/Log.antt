-- Which logs are legal for a list of commands.
use Rattle.std.specs.Prelude.{◌≡◌, List, [], ◌∷◌, ◌++◌}
use Rattle.mm_model.specs.declared.command.Command.{Command}
use Rattle.mm_model.specs.declared.line.Line.{Line}
use Rattle.mm_model.specs.declared.line.Line.TheVariants as lines
use Rattle.mm_model.specs.declared.settings.Settings.{Settings}
use Rattle.mm_model.specs.State.{State, empty_state, totals_of}

-- one step: a command takes a state to another, with a group of lines whose last is the reply
abbrev pub Steps : Type 1
Steps = State → Command → List Line → State → Type 0

-- the log is one group after another, each a step of its command
abbrev pub IsRun : Steps → State → List Command → List Line → State → Type 0
IsRun Step a [] log b = (log ≡ []) × (b ≡ a)
IsRun Step a (command ∷ commands) log b =
    (group : List Line) × (rest : List Line) × (mid : State) ×
    (log ≡ group ++ rest) × Step a command group mid × IsRun Step mid commands rest b

-- the log is legal from the empty state on, and leaves this state
abbrev pub IsLegal : Steps → Settings → List Command → List Line → State → Type 0
IsLegal Step settings commands log b = IsRun Step (empty_state settings) commands log b

-- a legal log followed by its totals
pub record IsWhole (Step : Steps) (settings : Settings) (commands : List Command) (log : List Line)
    (b : State) : Type 0 where
  pub groups : List Line
  pub legal : IsLegal Step settings commands groups b
  pub total : log ≡ groups ++ lines.Total (totals_of b) ∷ []
