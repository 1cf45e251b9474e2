-- A legal log is faithful.
use Rattle.std.proofs.Common.{◌≡◌, ◌≤◌, List, [], ◌∷◌, ◌++◌, map, refl, sym, ap, ◌∙◌, subst, append_assoc}
use Rattle.std.proofs.lemmas.List.{append-nil}
use Rattle.std.specs.Prelude.{IsTrue}
use Rattle.std.specs.List.{AllByRecursion, flat_map}
use Rattle.mm_model.specs.declared.command.Command.{Command}
use Rattle.mm_model.specs.declared.line.Line.{Line}
use Rattle.mm_model.specs.declared.settings.Settings.{Settings}
use Rattle.mm_model.specs.State.{State, empty_state}
use Rattle.mm_model.specs.Step.{IsStep}
use Rattle.mm_model.specs.Logs.Log.{IsRun, IsLegal}
use Rattle.mm_model.specs.Logs.Turns.{Turn, AreJoined, ComesAfter, is_group, AreSteps}
use Rattle.mm_model.specs.Logs.Faithful.{IsFaithfulTurn, IsFaithful}
use Rattle.mm_model.specs.Good.{IsGood}
use Rattle.mm_model.proofs.Good.Steps.{step_is_good}
use Rattle.mm_model.proofs.Steps.Determining.{lines_determine_the_state}
use Rattle.mm_laws.proofs.Turning.Knowing.{turn_of}
use Rattle.mm_laws.proofs.Turning.Lawful.{lawful-step}
use Rattle.mm_laws.proofs.Turning.Looks.{weak-step}
use Rattle.mm_laws.proofs.Turning.Promises.{cycles-step}
use Rattle.mm_laws.proofs.Turning.Reading.{references-step}
use Rattle.mm_laws.proofs.Turning.Remembering.{Knows, knows-empty, knows-step, knows-steps}
use Rattle.mm_laws.proofs.Turning.Replies.{group-step}
use Rattle.mm_laws.proofs.Turning.Standing.{apart-step}

faithful-known : (settings : Settings) (turns : List Turn) (a : State) (command : Command) (group : List Line)
    (b : State) → Knows settings turns a → IsStep a command group b
    → IsFaithfulTurn settings turns (turn_of a command group b)
faithful-known settings turns a command group b known step =
    record {
      lawful = lawful-step a command group b known.good step;
      references = references-step settings turns a command group b known step;
      weak = weak-step settings turns a command group b known step;
      cycles = cycles-step settings turns a command group b known step;
      apart = apart-step settings turns a command group b known step;
    }

-- a step after turns that are steps
pub faithful-step : (settings : Settings) (turns : List Turn) (a : State) (command : Command) (group : List Line)
    (b : State) → settings.pages ≤ settings.max → AreSteps (empty_state settings) turns a → IsStep a command group b
    → IsFaithfulTurn settings turns (turn_of a command group b)
faithful-step settings turns a command group b growing steps step =
    faithful-known settings turns a command group b
    (knows-steps settings [] turns (empty_state settings) a (knows-empty settings growing) steps) step

-- turns that are steps, and the next one
pub steps-more : (start : State) (turns : List Turn) (a : State) (command : Command) (group : List Line) (b : State)
    → AreSteps start turns a → IsStep a command group b → AreSteps start (turns ++ turn_of a command group b ∷ []) b
steps-more start [] a command group b steps step = (steps, step, refl)
steps-more start (turn ∷ turns) a command group b steps step =
    (steps.0, steps.1, steps-more turn.after turns a command group b steps.2 step)

-- what each step keeps after turns that are steps, each of some turns keeps that are steps, after earlier ones
kept-steps : (P : List Turn → Turn → Type 0) (settings : Settings)
    (own : (earlier : List Turn) (turn : Turn) → Knows settings earlier turn.before
    → IsStep turn.before turn.command turn.group turn.after → P earlier turn)
    (earlier : List Turn) (a : State) (turns : List Turn) (b : State)
    → Knows settings earlier a → AreSteps a turns b → (front : List Turn) (turn : Turn) (later : List Turn)
    → front ++ turn ∷ later ≡ turns → P (earlier ++ front) turn
kept-steps P settings own earlier a [] b known steps [] turn later e = cc
kept-steps P settings own earlier a [] b known steps (x ∷ front) turn later e = cc
kept-steps P settings own earlier a (first ∷ turns) b known steps [] turn later e =
    let same : turn ≡ first = cc in
    let here = own earlier first (subst (Knows settings earlier) (sym steps.0) known) steps.1 in
    subst (λ ts. P ts turn) (sym (append-nil earlier)) (subst (P earlier) (sym same) here)
kept-steps P settings own earlier a (first ∷ turns) b known steps (x ∷ front) turn later e =
    let same : x ≡ first = cc in
    let is : front ++ turn ∷ later ≡ turns = cc in
    let next = knows-step settings earlier first.before first.command first.group first.after
    (subst (Knows settings earlier) (sym steps.0) known) steps.1 in
    subst (λ (t : Turn). P (earlier ++ t ∷ front) turn) (sym same)
    (subst (λ ts. P ts turn) (append_assoc earlier (first ∷ []) front)
    (kept-steps P settings own (earlier ++ first ∷ []) first.after turns b next steps.2 front turn later is))

pub faithful-steps : (settings : Settings) (earlier : List Turn) (a : State) (turns : List Turn) (b : State)
    → Knows settings earlier a → AreSteps a turns b → (front : List Turn) (turn : Turn) (later : List Turn)
    → front ++ turn ∷ later ≡ turns → IsFaithfulTurn settings (earlier ++ front) turn
faithful-steps settings =
    kept-steps (IsFaithfulTurn settings) settings
    (λ earlier turn known step.
    faithful-known settings earlier turn.before turn.command turn.group turn.after known step)

-- the turns of a run
pub record AreTold (a : State) (commands : List Command) (log : List Line) (b : State) : Type 0 where
  pub turns : List Turn
  pub each_command : map (λ turn. turn.command) turns ≡ commands
  pub cut : flat_map (λ turn. turn.group) turns ≡ log
  pub groups : AllByRecursion (λ turn. IsTrue (is_group turn.group)) turns
  pub joined : AreJoined a turns
  pub steps : AreSteps a turns b

pub told-run : (a : State) (commands : List Command) (log : List Line) (b : State) → IsGood a
    → IsRun IsStep a commands log b → AreTold a commands log b
told-run a [] log b good run =
    record { turns = []; each_command = refl; cut = sym run.0; groups = tt; joined = tt; steps = run.1 }
told-run a (command ∷ commands) log b good run =
    let group = run.0 in
    let mid = run.2 in
    let step = run.4 in
    let first = turn_of a command group mid in
    let rest = told-run mid commands run.1 b (step_is_good a command group mid good step) run.5 in
    record {
      turns = first ∷ rest.turns;
      each_command = ap (λ (cs : List Command). command ∷ cs) rest.each_command;
      cut = ap (λ (lines : List Line). group ++ lines) rest.cut ∙ sym run.3;
      groups = (group-step a command group mid step, rest.groups);
      joined = (refl, lines_determine_the_state a command group mid good step, rest.joined);
      steps = (refl, step, rest.steps);
    }

pub legal_log_is_faithful : (settings : Settings) (commands : List Command) (log : List Line) (b : State)
    → settings.pages ≤ settings.max → IsLegal IsStep settings commands log b → IsFaithful settings commands log
legal_log_is_faithful settings commands log b growing legal =
    let known = knows-empty settings growing in
    let told = told-run (empty_state settings) commands log b known.good legal in
    let each : (earlier : List Turn) (turn : Turn) → ComesAfter told.turns earlier turn
    → IsFaithfulTurn settings earlier turn =
    λ earlier turn after.
    faithful-steps settings [] (empty_state settings) told.turns b known told.steps earlier turn after.later after.is in
    record {
      turns = told.turns;
      are = record {
        each_command = told.each_command;
        cut = told.cut;
        groups = told.groups;
        joined = told.joined;
      };
      references = λ earlier turn after. (each earlier turn after).references;
      protected = λ earlier turn after. (each earlier turn after).lawful.protected;
      weak = λ earlier turn after. (each earlier turn after).weak;
      collections = λ earlier turn after. (each earlier turn after).lawful.collections;
      cycles = λ earlier turn after. (each earlier turn after).cycles;
      apart = λ earlier turn after. (each earlier turn after).apart;
      lawful = λ earlier turn after. (each earlier turn after).lawful;
    }
