-- The turns of a log, as they are computed, and what the rules of pacing add to them.
use Rattle.std.proofs.Common.{◌≡◌, ℕ, List, [], ◌∷◌, ◌++◌, map, take, drop, get_or, Some, None, refl, sym, ap}
use Rattle.std.specs.Prelude.{IsTrue}
use Rattle.std.specs.List.{AllByRecursion, flat_map}
use Rattle.mm_model.specs.declared.command.Command.{Command}
use Rattle.mm_model.specs.declared.command.Command.TheVariants as commands
use Rattle.mm_model.specs.declared.line.Line.{Line}
use Rattle.mm_model.specs.declared.settings.Settings.{Settings}
use Rattle.mm_model.specs.State.{State, empty_state}
use Rattle.mm_model.specs.After.{after}
use Rattle.mm_model.specs.Logs.Turns.{Turn, is_group, AreJoined, AreTurns}
use Rattle.mm_pace.specs.Rules.{due_step, due_finish, due_begin, rules_at}
use Rattle.mm_pace.specs.Paced.{Stretch, list_of, AreAdded}
use Rattle.mm_examples.proofs.Running.{first_group, later_groups}

-- the turns of commands from a state on, where the log is cut into groups
abbrev pub turns_from : State → List Command → List (List Line) → List Turn
turns_from a [] groups = []
turns_from a (command ∷ commands) groups =
    let group = first_group groups in
    let b = after a command group in
    record { before = a; command = command; group = group; after = b }
    ∷ turns_from b commands (later_groups groups)

commands-from : (a : State) (commands : List Command) (groups : List (List Line))
    → map (λ (t : Turn). t.command) (turns_from a commands groups) ≡ commands
commands-from a [] groups = refl
commands-from a (command ∷ commands) groups =
    ap (λ (cs : List Command). command ∷ cs)
    (commands-from (after a command (first_group groups)) commands (later_groups groups))

joined-from : (a : State) (commands : List Command) (groups : List (List Line))
    → AreJoined a (turns_from a commands groups)
joined-from a [] groups = tt
joined-from a (command ∷ commands) groups =
    (refl, refl, joined-from (after a command (first_group groups)) commands (later_groups groups))

pub are_turns : (settings : Settings) (commands : List Command) (log : List Line) (groups : List (List Line))
    → flat_map (λ (t : Turn). t.group) (turns_from (empty_state settings) commands groups) ≡ log
    → AllByRecursion (λ (t : Turn). IsTrue (is_group t.group)) (turns_from (empty_state settings) commands groups)
    → AreTurns settings commands log (turns_from (empty_state settings) commands groups)
are_turns settings commands log groups cut are =
    record {
      each_command = commands-from (empty_state settings) commands groups;
      cut = cut;
      groups = are;
      joined = joined-from (empty_state settings) commands groups;
    }

-- the turn of the command with this number, counted from 0
abbrev pub turn_at : Settings → List Turn → ℕ → Turn
turn_at settings turns k =
    let a = empty_state settings in
    get_or turns k (record { before = a; command = commands.Stat; group = []; after = a })

-- turns cut into stretches, each with so many that were added
abbrev pub stretches_of : List ℕ → List Turn → List Stretch
stretches_of [] turns = []
stretches_of (count ∷ counts) [] = []
stretches_of (count ∷ counts) (turn ∷ turns) =
    record { own = turn; added = take count turns } ∷ stretches_of counts (drop count turns)

-- no rule adds a command
pub none_added : (rate : ℕ) (earlier : List Turn) → due_step rate earlier ≡ None
    → due_finish rate (earlier ++ []) ≡ None → due_begin (earlier ++ [] ++ []) ≡ None
    → AreAdded (rules_at rate) earlier []
none_added rate earlier step finish begin = (
  [],
  [],
  refl,
  sym (ap list_of step),
  (
    [],
    [],
    refl,
    sym (ap list_of finish),
    ([], [], refl, sym (ap list_of begin), refl),
  ),
)

-- the first rule adds a step and the second one the end of the cycle
pub step_and_finish : (rate : ℕ) (earlier : List Turn) (stepped finished : Turn)
    → due_step rate earlier ≡ Some stepped.command → due_finish rate (earlier ++ stepped ∷ []) ≡ Some finished.command
    → due_begin (earlier ++ stepped ∷ [] ++ finished ∷ []) ≡ None
    → AreAdded (rules_at rate) earlier (stepped ∷ finished ∷ [])
step_and_finish rate earlier stepped finished step finish begin = (
  stepped ∷ [],
  finished ∷ [],
  refl,
  sym (ap list_of step),
  (
    finished ∷ [],
    [],
    refl,
    sym (ap list_of finish),
    ([], [], refl, sym (ap list_of begin), refl),
  ),
)

-- the last rule alone adds a command
pub begin_alone : (rate : ℕ) (earlier : List Turn) (begun : Turn) → due_step rate earlier ≡ None
    → due_finish rate (earlier ++ []) ≡ None → due_begin (earlier ++ [] ++ []) ≡ Some begun.command
    → AreAdded (rules_at rate) earlier (begun ∷ [])
begin_alone rate earlier begun step finish begin = (
  [],
  begun ∷ [],
  refl,
  sym (ap list_of step),
  (
    [],
    begun ∷ [],
    refl,
    sym (ap list_of finish),
    (begun ∷ [], [], refl, sym (ap list_of begin), refl),
  ),
)
