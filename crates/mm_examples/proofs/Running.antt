-- The log of a trace, as it is computed from what a given log frees and scans, and that it is legal.
use Rattle.std.proofs.Common.{◌≡◌, Bool, true, ◌&&◌, List, [], ◌∷◌, ◌++◌, refl, sym, ap, ◌∙◌, append_assoc}
use Rattle.std.proofs.lemmas.Bool.{and_parts}
use Rattle.mm_model.specs.declared.command.Command.{Command}
use Rattle.mm_model.specs.declared.line.Line.{Line}
use Rattle.mm_model.specs.declared.line.Line.TheVariants as lines
use Rattle.mm_model.specs.declared.settings.Settings.{Settings}
use Rattle.mm_model.specs.State.{State, empty_state, totals_of}
use Rattle.mm_model.specs.After.{after}
use Rattle.mm_model.specs.Step.{IsStep}
use Rattle.mm_model.specs.Logs.Log.{IsRun}
use Rattle.mm_examples.specs.Examples.{IsLogOf}
use Rattle.mm_examples.proofs.Stepping.{step_log, step_checks, step_if}

abbrev pub onto_group : Line → List (List Line) → List (List Line)
onto_group line [] = (line ∷ []) ∷ []
onto_group line (group ∷ groups) = (line ∷ group) ∷ groups

-- the groups of a log, each of which ends with a reply
abbrev pub groups_in : List Line → List (List Line)
groups_in [] = []
groups_in (lines.Reply reply ∷ log) = (lines.Reply reply ∷ []) ∷ groups_in log
groups_in (line ∷ log) = onto_group line (groups_in log)

abbrev pub first_group : List (List Line) → List Line
first_group [] = []
first_group (group ∷ groups) = group

abbrev pub later_groups : List (List Line) → List (List Line)
later_groups [] = []
later_groups (group ∷ groups) = groups

-- the log of the commands from a state on, with its total line
abbrev run_log : State → List Command → List (List Line) → List Line
run_log a [] groups = lines.Total (totals_of a) ∷ []
run_log a (command ∷ commands) groups =
    step_log a command (first_group groups)
    ++ run_log (after a command (first_group groups)) commands (later_groups groups)

abbrev pub run_checks : State → List Command → List (List Line) → Bool
run_checks a [] groups = true
run_checks a (command ∷ commands) groups =
    step_checks a command (first_group groups)
    && run_checks (after a command (first_group groups)) commands (later_groups groups)

-- a log that is legal from a state on, with its total line
record IsWholeFrom (a : State) (commands : List Command) (log : List Line) : Type 0 where
  end : State
  groups : List Line
  legal : IsRun IsStep a commands groups end
  total : log ≡ groups ++ lines.Total (totals_of end) ∷ []

run_if : (a : State) (commands : List Command) (groups : List (List Line)) → run_checks a commands groups ≡ true
    → IsWholeFrom a commands (run_log a commands groups)
run_if a [] groups e = record { end = a; groups = []; legal = (refl, refl); total = refl }
run_if a (command ∷ commands) groups e =
    let group = first_group groups in
    let b : State = after a command group in
    let parts = and_parts (step_checks a command group) (run_checks b commands (later_groups groups)) e in
    let rest = run_if b commands (later_groups groups) parts.1 in
    record {
      end = rest.end;
      groups = step_log a command group ++ rest.groups;
      legal = (step_log a command group, rest.groups, b, refl, step_if a command group parts.0, rest.legal);
      total = ap (λ log. step_log a command group ++ log) rest.total
          ∙ sym (append_assoc (step_log a command group) rest.groups (lines.Total (totals_of rest.end) ∷ []));
    }

-- A log is legal where it is the one that is computed from what it frees and scans, and the tests pass.
pub log_if : (settings : Settings) (commands : List Command) (log : List Line)
    → run_log (empty_state settings) commands (groups_in log) ≡ log
    → run_checks (empty_state settings) commands (groups_in log) ≡ true
    → IsLogOf settings commands log
log_if settings commands log is e =
    let whole = run_if (empty_state settings) commands (groups_in log) e in
    (whole.end, record { groups = whole.groups; legal = whole.legal; total = sym is ∙ whole.total })
