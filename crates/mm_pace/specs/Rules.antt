-- The rules by which commands are added to a trace. Each looks at the turns so far, and adds a command or none.
use Rattle.std.specs.Prelude.{ℕ, ◌*◌, ◌/◌, Bool, false, not, if◌then◌else◌, ◌&&◌, nat_le, nat_lt, List, [], ◌∷◌, Option}
use Rattle.std.specs.Prelude.{Some, None}
use Rattle.std.specs.Option.{option_map_or, option_and_then}
use Rattle.mm_model.specs.declared.command.Command.{Command}
use Rattle.mm_model.specs.declared.command.Command.TheVariants as commands
use Rattle.mm_model.specs.Logs.Turns.{Turn, Born, births_of}
use Rattle.mm_pace.specs.Work.{work_of, is_running}
use Rattle.mm_pace.specs.Recent.{extent_born, since, work_begun}

abbrev pub last_turn : List Turn → Option Turn
last_turn [] = None
last_turn (turn ∷ []) = Some turn
last_turn (turn ∷ next ∷ turns) = last_turn (next ∷ turns)

-- whether a cycle runs after the turns, and the work of the state that they leave: before the first, none and 0
abbrev pub runs_after : List Turn → Bool
runs_after turns = option_map_or (λ turn. is_running turn.after) (last_turn turns) false

abbrev pub work_after : List Turn → ℕ
work_after turns = option_map_or (λ turn. work_of turn.after) (last_turn turns) 0

abbrev pub command_if : Bool → Command → Option Command
command_if due command = if due then Some command else None

-- for an object that was born: a step for its bytes, times the rate, over 16
abbrev pub step_for : ℕ → List Born → Option Command
step_for rate [] = None
step_for rate (born ∷ births) = Some (commands.Step (rate * extent_born born / 16))

-- Where a cycle runs and an object was born in the last turn, a step is due.
abbrev pub due_step : ℕ → List Turn → Option Command
due_step rate turns =
    if runs_after turns then option_and_then (λ turn. step_for rate (births_of turn)) (last_turn turns) else None

-- Where a cycle runs and the bytes since it began, times the rate, are at least 16 times the work that it had as it
-- began, its end is due.
abbrev pub due_finish : ℕ → List Turn → Option Command
due_finish rate turns =
    command_if (runs_after turns && nat_le (16 * work_begun turns) (rate * since turns)) commands.Finish

-- Where no cycle runs, 65,536 bytes or more were born since, and there is work, a cycle is due.
abbrev pub due_begin : List Turn → Option Command
due_begin turns =
    command_if (not (runs_after turns) && nat_le 65536 (since turns) && nat_lt 0 (work_after turns)) commands.Begin

abbrev pub Rule : Type 0
Rule = List Turn → Option Command

-- in the order in which they are applied
abbrev pub rules_at : ℕ → List Rule
rules_at rate = due_step rate ∷ due_finish rate ∷ due_begin ∷ []
