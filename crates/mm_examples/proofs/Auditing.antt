-- What an audit answers of a log of commands other than `step`, which have one whole log.
use Rattle.std.proofs.Common.{◌≡◌, ◌≢◌, ℕ, suc, ◌+◌, ◌≤◌, Bool, true, false, not, ◌&&◌, if◌then◌else◌, List, [], ◌∷◌}
use Rattle.std.proofs.Common.{◌++◌, map, length, refl, sym, ap, ◌∙◌, subst, bytes_eq, eq-eqb, arith}
use Rattle.std.specs.List.{list_all}
use Rattle.std.proofs.lemmas.Bool.{and_parts}
use Rattle.std.proofs.lemmas.List.{map-append, length-map}
use Rattle.mm_model.specs.declared.command.Command.{Command}
use Rattle.mm_model.specs.declared.command.Command.TheVariants as commands
use Rattle.mm_model.specs.declared.line.Line.{Line}
use Rattle.mm_model.specs.declared.line.Line.TheVariants as lines
use Rattle.mm_model.specs.declared.settings.Settings.{Settings}
use Rattle.mm_model.specs.State.{State, empty_state, totals_of}
use Rattle.mm_model.specs.After.{after}
use Rattle.mm_model.specs.Step.{IsStep}
use Rattle.mm_model.specs.Good.{IsGood}
use Rattle.mm_model.specs.Logs.Log.{IsRun, IsWhole}
use Rattle.mm_model.specs.Logs.Spelling.{spelling, spelling_of}
use Rattle.mm_model.proofs.Good.Starting.{empty_is_good}
use Rattle.mm_model.proofs.Good.Steps.{step_is_good}
use Rattle.mm_model.proofs.Steps.Determining.{lines_determine_the_state}
use Rattle.mm_laws.proofs.Stepping.Unchosen.{only_step_chooses}
use Rattle.mm_audit.specs.declared.answer.Answer.TheVariants as answers
use Rattle.mm_audit.specs.Audit.{log_lines, IsWholeLog, Fits, IsAudited}
use Rattle.mm_examples.specs.Examples.{IsLogOf}

abbrev pub is_step : Command → Bool
is_step (commands.Step k) = true
is_step command = false

abbrev pub no_step : List Command → Bool
no_step commands = list_all (λ command. not (is_step command)) commands

no_step_is : (command : Command) → not (is_step command) ≡ true → (k : ℕ) → command ≢ commands.Step k
no_step_is command e k same =
    let wrong : not (is_step (commands.Step k)) ≡ true = subst (λ c. not (is_step c) ≡ true) same e in
    cc

run-same : (a : State) (commands : List Command) (log other : List Line) (b c : State) → IsGood a
    → no_step commands ≡ true → IsRun IsStep a commands log b → IsRun IsStep a commands other c
    → (log ≡ other) × (b ≡ c)
run-same a [] log other b c good none run run' = (run.0 ∙ sym run'.0, run.1 ∙ sym run'.1)
run-same a (command ∷ commands) log other b c good none run run' =
    let tests = and_parts (not (is_step command)) (no_step commands) none in
    let group =
    only_step_chooses a command run.0 run'.0 run.2 run'.2 good (no_step_is command tests.0) run.4 run'.4 in
    let mid : run.2 ≡ run'.2 =
    lines_determine_the_state a command run.0 run.2 good run.4 ∙ ap (after a command) group
    ∙ sym (lines_determine_the_state a command run'.0 run'.2 good run'.4) in
    let rest =
    run-same run.2 commands run.1 run'.1 b c (step_is_good a command run.0 run.2 good run.4) tests.1 run.5
    (subst (λ (s : State). IsRun IsStep s commands run'.1 c) (sym mid) run'.5) in (
      run.3 ∙ ap (λ (xs : List Line). xs ++ run.1) group ∙ ap (λ (xs : List Line). run'.0 ++ xs) rest.0 ∙ sym run'.3,
      rest.1,
    )

module _ (settings : Settings) (growing : settings.pages ≤ settings.max) (commands : List Command)
    (none : no_step commands ≡ true) where
  whole-same : (log other : List Line) (b c : State) → IsWhole IsStep settings commands log b
      → IsWhole IsStep settings commands other c → log ≡ other
  whole-same log other b c whole whole' =
      let same =
      run-same (empty_state settings) commands whole.groups whole'.groups b c (empty_is_good settings growing) none
      whole.legal whole'.legal in
      whole.total ∙ ap (λ (xs : List Line). xs ++ lines.Total (totals_of b) ∷ []) same.0
      ∙ ap (λ (s : State). whole'.groups ++ lines.Total (totals_of s) ∷ []) same.1 ∙ sym whole'.total

-- how many lines of two lists are the same, from the first on
abbrev pub alike : List (List ℕ) → List (List ℕ) → ℕ
alike [] ys = 0
alike (x ∷ xs) [] = 0
alike (x ∷ xs) (y ∷ ys) = if bytes_eq x y then suc (alike xs ys) else 0

bytes_eq-self : (xs : List ℕ) → bytes_eq xs xs ≡ true
bytes_eq-self [] = refl
bytes_eq-self (x ∷ xs) = ap (λ b. b && bytes_eq xs xs) (eq-eqb x x refl) ∙ bytes_eq-self xs

alike-front : (front xs ys : List (List ℕ)) → length front ≤ alike (front ++ xs) (front ++ ys)
alike-front [] xs ys = omega arith
alike-front (line ∷ front) xs ys =
    let more = alike-front front xs ys in
    let e : suc (length front) ≤ suc (alike (front ++ xs) (front ++ ys)) = omega arith in
    subst (λ b. suc (length front) ≤ (if b then suc (alike (front ++ xs) (front ++ ys)) else 0))
    (sym (bytes_eq-self line)) e

-- Bytes that aren't the spelling of the one whole log: the answer names the line behind those that are alike.
pub no_if : (settings : Settings) → settings.pages ≤ settings.max → (commands : List Command)
    → no_step commands ≡ true → (front later : List Line) → IsLogOf settings commands (front ++ later)
    → (bytes : List ℕ) (rest : List (List ℕ)) → log_lines bytes ≡ map spelling front ++ rest
    → bytes_eq bytes (spelling_of (front ++ later)) ≡ false
    → alike (map spelling front ++ rest) (map spelling (front ++ later)) ≡ length front
    → IsAudited settings commands bytes (answers.No (length front + 1))
no_if settings growing commands none front later log bytes rest cut other most = (
  not_whole,
  length front,
  refl,
  record {
    fits = record {
      front = front;
      later = later;
      end = log.0;
      whole = log.1;
      count_is = refl;
      rest = rest;
      spelled = cut;
    };
    greatest = greatest;
  },
)
  where
    one_log : (lines : List Line) (end : State) → IsWhole IsStep settings commands lines end → lines ≡ front ++ later
    one_log lines end whole = whole-same settings growing commands none lines (front ++ later) end log.0 whole log.1

    not_whole : IsWholeLog settings commands bytes → ⊥
    not_whole w =
        let same : bytes ≡ spelling_of (front ++ later) = w.spelled ∙ ap spelling_of (one_log w.log w.end w.whole) in
        let e : bytes_eq bytes (spelling_of (front ++ later)) ≡ true =
        subst (λ (xs : List ℕ). bytes_eq bytes xs ≡ true) same (bytes_eq-self bytes) in
        cc

    greatest : (more : ℕ) → Fits settings commands bytes more → more ≤ length front
    greatest more fits =
        let spelled = map spelling fits.front in
        let e : length spelled ≤ alike (spelled ++ fits.rest) (spelled ++ map spelling fits.later) =
        alike-front spelled fits.rest (map spelling fits.later) in
        let bytes_are : spelled ++ fits.rest ≡ map spelling front ++ rest = sym fits.spelled ∙ cut in
        let log_is : spelled ++ map spelling fits.later ≡ map spelling (front ++ later) =
        sym (map-append spelling fits.front fits.later)
        ∙ ap (map spelling) (one_log (fits.front ++ fits.later) fits.end fits.whole) in
        let f : length spelled ≤ alike (map spelling front ++ rest) (map spelling (front ++ later)) =
        subst (λ (ys : List (List ℕ)). length spelled ≤ alike (map spelling front ++ rest) ys) log_is
        (subst (λ (xs : List (List ℕ)). length spelled ≤ alike xs (spelled ++ map spelling fits.later)) bytes_are e) in
        omega (arith, length-map fits.front spelling, fits.count_is, most)
