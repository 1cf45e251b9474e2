-- A paced list with one more command of the trace, and with as many more as there are.
use Rattle.std.proofs.Common.{◌≡◌, ℕ, ◌≤◌, List, [], ◌∷◌, ◌++◌, Option, Some, None, refl, sym, ap, ◌∙◌, subst}
use Rattle.std.proofs.Common.{append_assoc}
use Rattle.std.proofs.lemmas.List.{append-nil, map-append}
use Rattle.std.proofs.lemmas.Grind.{flat_map-append}
use Rattle.std.specs.List.{flat_map}
use Rattle.mm_model.specs.declared.command.Command.{Command}
use Rattle.mm_model.specs.declared.settings.Settings.{Settings}
use Rattle.mm_model.specs.State.{State, empty_state}
use Rattle.mm_model.specs.Logs.Turns.{Turn, AreSteps}
use Rattle.mm_model.specs.Good.{IsGood}
use Rattle.mm_model.proofs.Good.Starting.{empty_is_good}
use Rattle.mm_model.proofs.Good.Steps.{step_is_good}
use Rattle.mm_model.proofs.Steps.Exist.{steps_exist}
use Rattle.mm_pace.specs.Rules.{Rule, rules_at}
use Rattle.mm_pace.specs.Paced.{Stretch, turns_in, commands_in, list_of, AreAdded, AreRuled, IsPaced, GoesOn}
use Rattle.mm_pace.proofs.Joined.{steps-join}

-- one more stretch behind the others
ruled-more : (rate : ℕ) (earlier : List Turn) (stretches : List Stretch) (stretch : Stretch)
    → AreRuled rate earlier stretches
    → AreAdded (rules_at rate) (earlier ++ flat_map turns_in stretches ++ stretch.own ∷ []) stretch.added
    → AreRuled rate earlier (stretches ++ stretch ∷ [])
ruled-more rate earlier [] stretch ruled added = (
  subst (λ ts. AreAdded (rules_at rate) (ts ++ stretch.own ∷ []) stretch.added) (append-nil earlier) added,
  tt,
)
ruled-more rate earlier (first ∷ stretches) stretch ruled added = (
  ruled.0,
  ruled-more rate (earlier ++ turns_in first) stretches stretch ruled.1
      (subst (λ ts. AreAdded (rules_at rate) (ts ++ stretch.own ∷ []) stretch.added)
      (sym (append_assoc earlier (turns_in first) (flat_map turns_in stretches))) added),
)

pub paced-more : (rate : ℕ) (trace : List Command) (turns own : List Turn) (turn : Turn) (added : List Turn)
    → IsPaced rate trace turns own → AreAdded (rules_at rate) (turns ++ turn ∷ []) added
    → IsPaced rate (trace ++ turn.command ∷ []) (turns ++ turn ∷ added) (own ++ turn ∷ [])
paced-more rate trace turns own turn added paced rules =
    let stretch : Stretch = record { own = turn; added = added } in
    record {
      stretches = paced.stretches ++ stretch ∷ [];
      each_command = map-append (λ (t : Turn). t.command) own (turn ∷ [])
          ∙ ap (λ (cs : List Command). cs ++ turn.command ∷ []) paced.each_command;
      own_are = map-append (λ (s : Stretch). s.own) paced.stretches (stretch ∷ [])
          ∙ ap (λ (ts : List Turn). ts ++ turn ∷ []) paced.own_are;
      turns_are = flat_map-append turns_in paced.stretches (stretch ∷ [])
          ∙ ap (λ ts. flat_map turns_in paced.stretches ++ (turn ∷ ts)) (append-nil added)
          ∙ ap (λ ts. ts ++ turn ∷ added) paced.turns_are;
      ruled = ruled-more rate [] paced.stretches stretch paced.ruled
          (subst (λ ts. AreAdded (rules_at rate) (ts ++ turn ∷ []) added) (sym paced.turns_are) rules);
    }

-- turns from a good state on
record Found (Are : List Turn → Type 0) (a : State) : Type 0 where
  turns : List Turn
  state : State
  are : Are turns
  steps : AreSteps a turns state
  good : IsGood state

found-turn : (a : State) (command : Command) → IsGood a → Found (λ turns. commands_in turns ≡ command ∷ []) a
found-turn a command good =
    let step = steps_exist a command good in
    record {
      turns = record { before = a; command = command; group = step.0; after = step.1 } ∷ [];
      state = step.1;
      are = refl;
      steps = (refl, step.2, refl);
      good = step_is_good a command step.0 step.1 good step.2;
    }

found-due : (a : State) (due : Option Command) → IsGood a → Found (λ turns. commands_in turns ≡ list_of due) a
found-due a None good = record { turns = []; state = a; are = refl; steps = refl; good = good }
found-due a (Some command) good = found-turn a command good

-- what the rules add can be carried out
found-added : (rules : List Rule) (earlier : List Turn) (a : State) → IsGood a → Found (AreAdded rules earlier) a
found-added [] earlier a good = record { turns = []; state = a; are = refl; steps = refl; good = good }
found-added (rule ∷ rules) earlier a good =
    let first = found-due a (rule earlier) good in
    let rest = found-added rules (earlier ++ first.turns) first.state first.good in
    record {
      turns = first.turns ++ rest.turns;
      state = rest.state;
      are = (first.turns, rest.turns, refl, first.are, rest.are);
      steps = steps-join a first.turns rest.turns first.state rest.state first.steps rest.steps;
      good = rest.good;
    }

-- some of the turns are told apart from those behind them
goes_on-behind : (rate : ℕ) (settings : Settings) (trace more : List Command) (command : Command)
    (turns next : List Turn) → GoesOn rate settings (trace ++ command ∷ [] ++ more) (turns ++ next)
    → GoesOn rate settings (trace ++ command ∷ more) turns
goes_on-behind rate settings trace more command turns next rest =
    let behind = append_assoc turns next rest.later in
    record {
      later = next ++ rest.later;
      own = rest.own;
      state = rest.state;
      paced = subst (λ cs. IsPaced rate cs (turns ++ (next ++ rest.later)) rest.own)
          (append_assoc trace (command ∷ []) more)
          (subst (λ ts. IsPaced rate (trace ++ command ∷ [] ++ more) ts rest.own) behind rest.paced);
      steps = subst (λ (ts : List Turn). AreSteps (empty_state settings) ts rest.state) behind rest.steps;
    }

goes_on : (rate : ℕ) (settings : Settings) (trace more : List Command) (turns own : List Turn) (a : State)
    → IsPaced rate trace turns own → AreSteps (empty_state settings) turns a → IsGood a
    → GoesOn rate settings (trace ++ more) turns
goes_on rate settings trace [] turns own a paced steps good =
    let whole = append-nil turns in
    record {
      later = [];
      own = own;
      state = a;
      paced = subst (λ cs. IsPaced rate cs (turns ++ []) own) (sym (append-nil trace))
          (subst (λ ts. IsPaced rate trace ts own) (sym whole) paced);
      steps = subst (λ (ts : List Turn). AreSteps (empty_state settings) ts a) (sym whole) steps;
    }
goes_on rate settings trace (command ∷ more) turns own a paced steps good =
    let step = steps_exist a command good in
    let turn : Turn = record { before = a; command = command; group = step.0; after = step.1 } in
    let next_good = step_is_good a command step.0 step.1 good step.2 in
    let rules = found-added (rules_at rate) (turns ++ turn ∷ []) step.1 next_good in
    let all : List Turn = turn ∷ rules.turns in
    let longer : AreSteps (empty_state settings) (turns ++ all) rules.state =
    steps-join (empty_state settings) turns all a rules.state steps (refl, step.2, rules.steps) in
    goes_on-behind rate settings trace more command turns all
    (goes_on rate settings (trace ++ command ∷ []) more (turns ++ all) (own ++ turn ∷ []) rules.state
    (paced-more rate trace turns own turn rules.turns paced rules.are) longer rules.good)

steps-good : (a : State) (turns : List Turn) (b : State) → IsGood a → AreSteps a turns b → IsGood b
steps-good a [] b good steps = subst IsGood (sym steps) good
steps-good a (turn ∷ turns) b good steps =
    steps-good turn.after turns b
    (step_is_good turn.before turn.command turn.group turn.after (subst IsGood (sym steps.0) good) steps.1) steps.2

pub paced-goes_on : (rate : ℕ) (settings : Settings) (trace more : List Command) (turns own : List Turn) (a : State)
    → settings.pages ≤ settings.max → IsPaced rate trace turns own → AreSteps (empty_state settings) turns a
    → GoesOn rate settings (trace ++ more) turns
paced-goes_on rate settings trace more turns own a growing paced steps =
    goes_on rate settings trace more turns own a paced steps
    (steps-good (empty_state settings) turns a (empty_is_good settings growing) steps)
