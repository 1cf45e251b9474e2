-- How many lines of a log fit.
use Rattle.std.proofs.Common.{ℕ, ◌≤◌, List, [], ◌∷◌, ◌++◌, map, length, take, drop, refl, sym, ap}
use Rattle.std.proofs.Common.{◌∙◌, subst, append_assoc, length-take-le, take-append-drop, arith}
use Rattle.std.proofs.lemmas.List.{append-nil, map-append, length-map}
use Rattle.mm_model.specs.declared.command.Command.{Command}
use Rattle.mm_model.specs.declared.line.Line.{Line}
use Rattle.mm_model.specs.declared.line.Line.TheVariants as lines
use Rattle.mm_model.specs.declared.settings.Settings.{Settings}
use Rattle.mm_model.specs.State.{State, empty_state, totals_of}
use Rattle.mm_model.specs.Step.{IsStep}
use Rattle.mm_model.specs.Good.{IsGood}
use Rattle.mm_model.specs.Logs.Log.{IsRun, IsWhole}
use Rattle.mm_model.specs.Logs.Spelling.{spelling}
use Rattle.mm_model.specs.Logs.Trace.{pieces_of, ended_lines}
use Rattle.mm_model.proofs.Good.Starting.{empty_is_good}
use Rattle.mm_model.proofs.Good.Steps.{step_is_good}
use Rattle.mm_model.proofs.Steps.Exist.{steps_exist}
use Rattle.mm_audit.specs.Audit.{log_lines, IsWholeLog, Fits}
use Rattle.mm_audit.proofs.Lines.{log_lines-spelled, fronts_have_ended}

-- from a good state on every list of commands has a legal log
runs_exist : (a : State) (commands : List Command) → IsGood a
    → (log : List Line) × (b : State) × IsRun IsStep a commands log b
runs_exist a [] good = ([], a, (refl, refl))
runs_exist a (command ∷ commands) good =
    let step = steps_exist a command good in
    let rest = runs_exist step.1 commands (step_is_good a command step.0 step.1 good step.2) in
    (step.0 ++ rest.0, rest.1, (step.0, rest.0, step.1, refl, step.2, rest.2))

module _ (settings : Settings) (commands : List Command) where
  abbrev pub Whole : List Line → State → Type 0
  Whole log end = IsWhole IsStep settings commands log end

  whole_log_exists : settings.pages ≤ settings.max → (log : List Line) × (end : State) × Whole log end
  whole_log_exists growing =
      let run = runs_exist (empty_state settings) commands (empty_is_good settings growing) in (
        run.0 ++ lines.Total (totals_of run.1) ∷ [],
        run.1,
        record { groups = run.0; legal = run.2; total = refl },
      )

  module _ (bytes : List ℕ) where
    abbrev FitsFor : ℕ → Type 0
    FitsFor count = Fits settings commands bytes count

    -- none do, at least
    pub none_fit : settings.pages ≤ settings.max → FitsFor 0
    none_fit growing =
        let whole = whole_log_exists growing in
        record {
          front = [];
          later = whole.0;
          end = whole.1;
          whole = whole.2;
          count_is = refl;
          rest = log_lines bytes;
          spelled = refl;
        }

    -- and where some do, so do fewer
    pub fewer_fit : (count fewer : ℕ) → FitsFor count → fewer ≤ count → FitsFor fewer
    fewer_fit count fewer fits few =
        let front = take fewer fits.front in
        let later = drop fewer fits.front in
        let joined = take-append-drop fewer fits.front in
        let within : fewer ≤ length fits.front = omega (arith, fits.count_is) in
        record {
          front = front;
          later = later ++ fits.later;
          end = fits.end;
          whole = subst (λ (log : List Line). Whole log fits.end)
              (sym (ap (λ (log : List Line). log ++ fits.later) joined) ∙ append_assoc front later fits.later)
              fits.whole;
          count_is = length-take-le fewer fits.front within;
          rest = map spelling later ++ fits.rest;
          spelled = fits.spelled
              ∙ ap (λ (log : List Line). map spelling log ++ fits.rest) (sym joined)
              ∙ ap (λ (xs : List (List ℕ)). xs ++ fits.rest) (map-append spelling front later)
              ∙ append_assoc (map spelling front) (map spelling later) fits.rest;
        }

    -- only lines that have ended do
    pub few_fit : (count : ℕ) → FitsFor count → count ≤ length (ended_lines (pieces_of bytes))
    few_fit count fits =
        subst (λ n. n ≤ length (ended_lines (pieces_of bytes))) fits.count_is
        (fronts_have_ended bytes fits.front fits.rest fits.spelled)

    -- all lines of a whole log do
    pub whole_logs_fit : IsWholeLog settings commands bytes → FitsFor (length (log_lines bytes))
    whole_logs_fit log =
        let spelled = ap log_lines log.spelled ∙ log_lines-spelled log.log in
        record {
          front = log.log;
          later = [];
          end = log.end;
          whole = subst (λ (xs : List Line). Whole xs log.end) (sym (append-nil log.log)) log.whole;
          count_is = sym (ap length spelled ∙ length-map log.log spelling);
          rest = [];
          spelled = spelled ∙ sym (append-nil (map spelling log.log));
        }
