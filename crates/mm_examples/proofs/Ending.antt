-- The log of a trace with the state that it leaves, as both are computed.
use Rattle.std.proofs.Common.{◌≡◌, true, List, [], ◌∷◌, ◌++◌, refl, subst}
use Rattle.std.proofs.lemmas.Bool.{and_parts}
use Rattle.mm_model.specs.declared.command.Command.{Command}
use Rattle.mm_model.specs.declared.line.Line.{Line}
use Rattle.mm_model.specs.State.{State}
use Rattle.mm_model.specs.After.{after}
use Rattle.mm_model.specs.Step.{IsStep}
use Rattle.mm_model.specs.Logs.Log.{IsRun}
use Rattle.mm_examples.proofs.Stepping.{step_log, step_checks, step_if}
use Rattle.mm_examples.proofs.Running.{first_group, later_groups, run_checks}

abbrev pub run_lines : State → List Command → List (List Line) → List Line
run_lines a [] groups = []
run_lines a (command ∷ commands) groups =
    step_log a command (first_group groups)
    ++ run_lines (after a command (first_group groups)) commands (later_groups groups)

abbrev pub end_of : State → List Command → List (List Line) → State
end_of a [] groups = a
end_of a (command ∷ commands) groups =
    end_of (after a command (first_group groups)) commands (later_groups groups)

run_from : (a : State) (commands : List Command) (groups : List (List Line)) → run_checks a commands groups ≡ true
    → IsRun IsStep a commands (run_lines a commands groups) (end_of a commands groups)
run_from a [] groups e = (refl, refl)
run_from a (command ∷ commands) groups e =
    let group = first_group groups in
    let b : State = after a command group in
    let parts = and_parts (step_checks a command group) (run_checks b commands (later_groups groups)) e in (
      step_log a command group,
      run_lines b commands (later_groups groups),
      b,
      refl,
      step_if a command group parts.0,
      run_from b commands (later_groups groups) parts.1,
    )

-- A log is legal where it is the one that is computed from what it frees and scans, and the tests pass.
pub run_to : (a : State) (commands : List Command) (log : List Line) (groups : List (List Line))
    → run_lines a commands groups ≡ log → run_checks a commands groups ≡ true
    → IsRun IsStep a commands log (end_of a commands groups)
run_to a commands log groups is e =
    subst (λ lines. IsRun IsStep a commands lines (end_of a commands groups)) is (run_from a commands groups e)
