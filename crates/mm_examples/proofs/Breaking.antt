-- Logs that are legal up to their last turn, and what they keep and break.
use Rattle.std.proofs.Common.{◌≡◌, ◌≤◌, ℕ, true, false, List, [], ◌∷◌, ◌++◌, map, refl, sym, ap, ◌∙◌, subst, ◌⊎◌}
use Rattle.std.proofs.Common.{⊎_elim, inl}
use Rattle.std.proofs.Common.{inr}
use Rattle.std.proofs.lemmas.List.{append-nil, map-append}
use Rattle.std.proofs.lemmas.Grind.{flat_map-append}
use Rattle.std.specs.Prelude.{IsTrue, ⊤}
use Rattle.std.specs.List.{AllByRecursion, flat_map}
use Rattle.mm_model.specs.declared.command.Command.{Command}
use Rattle.mm_model.specs.declared.line.Line.{Line}
use Rattle.mm_model.specs.declared.settings.Settings.{Settings}
use Rattle.mm_model.specs.Object.{Object}
use Rattle.mm_model.specs.State.{State, empty_state}
use Rattle.mm_model.specs.After.{after}
use Rattle.mm_model.specs.Logs.Course.{IsGone}
use Rattle.mm_model.specs.Step.{IsStep}
use Rattle.mm_model.specs.Logs.Turns.{Turn, is_group, AreJoined, AreTurns, ComesAfter, EachTurn, AreSteps}
use Rattle.mm_model.specs.Logs.Faithful.{IsFaithfulTurn, IsFaithful}
use Rattle.mm_model.proofs.Faithful.Turns.{turns-same}
use Rattle.mm_model.proofs.Good.Living.{each_get, each_append}
use Rattle.mm_model.proofs.Lists.Truth.{no_other}
use Rattle.mm_laws.proofs.Turning.Faithful.{faithful-steps}
use Rattle.mm_laws.proofs.Turning.Knowing.{turn_of}
use Rattle.mm_laws.proofs.Turning.Remembering.{Knows, knows-empty, knows-steps}
use Rattle.mm_examples.specs.Broken.{Promise, References, Protected, WeakReferences, Collections, Cycles, Apart}
use Rattle.mm_examples.specs.Broken.{KeepsAt, BreaksOnly}
use Rattle.mm_examples.proofs.Stepping.{step_log, step_checks, step_if}

-- the turns of commands with these groups, and the state that they lead to
abbrev pub turns_from : State → List Command → List (List Line) → List Turn
turns_from a [] groups = []
turns_from a (command ∷ commands) [] = []
turns_from a (command ∷ commands) (group ∷ groups) =
    turn_of a command group (after a command group) ∷ turns_from (after a command group) commands groups

abbrev pub end_from : State → List Command → List (List Line) → State
end_from a [] groups = a
end_from a (command ∷ commands) [] = a
end_from a (command ∷ commands) (group ∷ groups) = end_from (after a command group) commands groups

-- each group is a step
abbrev pub AreChecked : State → List Command → List (List Line) → Type 0
AreChecked a [] groups = ⊤
AreChecked a (command ∷ commands) [] = ⊤
AreChecked a (command ∷ commands) (group ∷ groups) =
    (step_log a command group ≡ group) × (step_checks a command group ≡ true)
    × AreChecked (after a command group) commands groups

steps-checked : (a : State) (commands : List Command) (groups : List (List Line)) → AreChecked a commands groups
    → AreSteps a (turns_from a commands groups) (end_from a commands groups)
steps-checked a [] groups h = refl
steps-checked a (command ∷ commands) [] h = refl
steps-checked a (command ∷ commands) (group ∷ groups) h = (
  refl,
  subst (λ g. IsStep a command g (after a command group)) h.0 (step_if a command group h.1),
  steps-checked (after a command group) commands groups h.2,
)

-- there is one group for each command
abbrev pub AreGroups : List Command → List (List Line) → Type 0
AreGroups [] [] = ⊤
AreGroups [] (group ∷ groups) = ⊥
AreGroups (command ∷ commands) [] = ⊥
AreGroups (command ∷ commands) (group ∷ groups) = (is_group group ≡ true) × AreGroups commands groups

abbrev pub lines_of : List (List Line) → List Line
lines_of groups = flat_map (λ group. group) groups

record AreTurnsFrom (a : State) (commands : List Command) (groups : List (List Line)) : Type 0 where
  each_command : map (λ turn. turn.command) (turns_from a commands groups) ≡ commands
  cut : flat_map (λ turn. turn.group) (turns_from a commands groups) ≡ lines_of groups
  each_group : AllByRecursion (λ turn. IsTrue (is_group turn.group)) (turns_from a commands groups)
  joined : AreJoined a (turns_from a commands groups)

turns_from-are : (a : State) (commands : List Command) (groups : List (List Line)) → AreGroups commands groups
    → AreTurnsFrom a commands groups
turns_from-are a [] [] h = record { each_command = refl; cut = refl; each_group = tt; joined = tt }
turns_from-are a [] (group ∷ groups) h = absurd h
turns_from-are a (command ∷ commands) [] h = absurd h
turns_from-are a (command ∷ commands) (group ∷ groups) h =
    let rest = turns_from-are (after a command group) commands groups h.1 in
    record {
      each_command = ap (λ (cs : List Command). command ∷ cs) rest.each_command;
      cut = ap (λ (lines : List Line). group ++ lines) rest.cut;
      each_group = (h.0, rest.each_group);
      joined = (refl, refl, rest.joined);
    }

joined-last : (a : State) (commands : List Command) (groups : List (List Line)) (last : Turn)
    → end_from a commands groups ≡ last.before → last.after ≡ after last.before last.command last.group
    → AreJoined a (turns_from a commands groups ++ last ∷ [])
joined-last a [] groups last is next = (sym is, next, tt)
joined-last a (command ∷ commands) [] last is next = (sym is, next, tt)
joined-last a (command ∷ commands) (group ∷ groups) last is next =
    (refl, refl, joined-last (after a command group) commands groups last is next)

-- with one more turn
pub are_turns : (settings : Settings) (commands : List Command) (groups : List (List Line)) (last : Turn)
    → AreGroups commands groups → is_group last.group ≡ true
    → end_from (empty_state settings) commands groups ≡ last.before
    → last.after ≡ after last.before last.command last.group
    → AreTurns settings (commands ++ last.command ∷ []) (lines_of groups ++ last.group)
    (turns_from (empty_state settings) commands groups ++ last ∷ [])
are_turns settings commands groups last h group is next =
    let own = turns_from-are (empty_state settings) commands groups h in
    let turns = turns_from (empty_state settings) commands groups in
    record {
      each_command = map-append (λ (t : Turn). t.command) turns (last ∷ [])
          ∙ ap (λ (cs : List Command). cs ++ last.command ∷ []) own.each_command;
      cut = flat_map-append (λ (t : Turn). t.group) turns (last ∷ [])
          ∙ ap (λ (lines : List Line). flat_map (λ (t : Turn). t.group) turns ++ lines) (append-nil last.group)
          ∙ ap (λ (lines : List Line). lines ++ last.group) own.cut;
      groups = each_append (λ (turn : Turn). IsTrue (is_group turn.group)) turns (last ∷ []) own.each_group (group, tt);
      joined = joined-last (empty_state settings) commands groups last is next;
    }

-- a turn behind others is the last one, or comes among them
last-cases : (turns earlier : List Turn) (turn last : Turn) (later : List Turn)
    → earlier ++ turn ∷ later ≡ turns ++ last ∷ []
    → ((earlier ≡ turns) × (turn ≡ last)) ⊎ ComesAfter turns earlier turn
last-cases [] [] turn last later e = inl (refl, cc)
last-cases [] (x ∷ earlier) turn last later e =
    let rest : earlier ++ turn ∷ later ≡ [] = cc in absurd (none earlier rest)
  where
    none : (xs : List Turn) → xs ++ turn ∷ later ≡ [] → ⊥
    none [] p = cc
    none (y ∷ ys) p = cc
last-cases (t ∷ turns) [] turn last later e =
    let same : turn ≡ t = cc in inr (record { later = turns; is = ap (λ (x : Turn). x ∷ turns) same })
last-cases (t ∷ turns) (x ∷ earlier) turn last later e =
    let same : x ≡ t = cc in
    let rest : earlier ++ turn ∷ later ≡ turns ++ last ∷ [] = cc in
    ⊎_elim
    (λ (l : (earlier ≡ turns) × (turn ≡ last)).
    inl (ap (λ (y : Turn). y ∷ earlier) same ∙ ap (λ (ts : List Turn). t ∷ ts) l.0, l.1))
    (λ (r : ComesAfter turns earlier turn).
    inr (record {
      later = r.later;
      is = ap (λ (y : Turn). y ∷ earlier ++ turn ∷ r.later) same ∙ ap (λ (ts : List Turn). t ∷ ts) r.is;
    }))
    (last-cases turns earlier turn last later rest)

each-last : (P : List Turn → Turn → Type 0) (turns : List Turn) (last : Turn) → EachTurn turns P → P turns last
    → EachTurn (turns ++ last ∷ []) P
each-last P turns last each own earlier turn after =
    ⊎_elim
    (λ (l : (earlier ≡ turns) × (turn ≡ last)). subst (λ t. P earlier t) (sym l.1)
    (subst (λ ts. P ts last) (sym l.0) own))
    (λ (r : ComesAfter turns earlier turn). each earlier turn r)
    (last-cases turns earlier turn last after.later after.is)

-- nothing is gone where each object lives
pub none-gone : (b : State) → AllByRecursion (λ (object : Object). object.gone ≡ false) b.objects → (birth : ℕ)
    → IsGone b birth → ⊥
none-gone b all birth h =
    no_other (each_get (λ (object : Object). object.gone ≡ false) b.objects birth h.object all h.is) h.gone

-- a faithful turn keeps each promise
promise-kept : (promise : Promise) (settings : Settings) (earlier : List Turn) (turn : Turn)
    → IsFaithfulTurn settings earlier turn → KeepsAt promise settings earlier turn
promise-kept References settings earlier turn h = h.references
promise-kept Protected settings earlier turn h = h.lawful.protected
promise-kept WeakReferences settings earlier turn h = h.weak
promise-kept Collections settings earlier turn h = h.lawful.collections
promise-kept Cycles settings earlier turn h = h.cycles
promise-kept Apart settings earlier turn h = h.apart

-- and a faithful log keeps each
log-kept : (promise : Promise) (settings : Settings) (commands : List Command) (log : List Line)
    → (h : IsFaithful settings commands log) → EachTurn h.turns (KeepsAt promise settings)
log-kept References settings commands log h = h.references
log-kept Protected settings commands log h = h.protected
log-kept WeakReferences settings commands log h = h.weak
log-kept Collections settings commands log h = h.collections
log-kept Cycles settings commands log h = h.cycles
log-kept Apart settings commands log h = h.apart

-- a log that breaks one promise isn't faithful
pub broken-unfaithful : (promise : Promise) (settings : Settings) (commands : List Command) (log : List Line)
    → BreaksOnly promise settings commands log → IsFaithful settings commands log → ⊥
broken-unfaithful promise settings commands log h faithful =
    h.broken
    (subst (λ turns. EachTurn turns (KeepsAt promise settings))
    (turns-same settings commands log faithful.turns h.turns faithful.are h.are)
    (log-kept promise settings commands log faithful))

-- the turns before the last one, and the state that they lead to
abbrev pub front : Settings → List Command → List (List Line) → List Turn
front settings commands groups = turns_from (empty_state settings) commands groups

abbrev pub before : Settings → List Command → List (List Line) → State
before settings commands groups = end_from (empty_state settings) commands groups

module _ (settings : Settings) (commands : List Command) (groups : List (List Line))
    (growing : settings.pages ≤ settings.max) (checked : AreChecked (empty_state settings) commands groups) where
  front-steps : AreSteps (empty_state settings) (front settings commands groups) (before settings commands groups)
  front-steps = steps-checked (empty_state settings) commands groups checked

  -- what the legal turns tell of the state that they lead to
  pub front-known : (a : State) → before settings commands groups ≡ a
      → Knows settings (front settings commands groups) a
  front-known a is =
      subst (Knows settings (front settings commands groups)) is
      (knows-steps settings [] (front settings commands groups) (empty_state settings)
      (before settings commands groups) (knows-empty settings growing) front-steps)

  front-kept : (promise : Promise) → EachTurn (front settings commands groups) (KeepsAt promise settings)
  front-kept promise earlier turn after =
      promise-kept promise settings earlier turn
      (faithful-steps settings [] (empty_state settings) (front settings commands groups)
      (before settings commands groups) (knows-empty settings growing) front-steps earlier turn after.later after.is)

  module _ (last : Turn) where
    pub breaks-last : (promise : Promise) (all : List Command) (log : List Line)
        → AreTurns settings all log (front settings commands groups ++ last ∷ [])
        → (KeepsAt promise settings (front settings commands groups) last → ⊥)
        → ((other : Promise) → (other ≡ promise → ⊥) → KeepsAt other settings (front settings commands groups) last)
        → BreaksOnly promise settings all log
    breaks-last promise all log are broken others =
        record {
          turns = front settings commands groups ++ last ∷ [];
          are = are;
          broken = λ kept.
              broken (kept (front settings commands groups) last (record { later = []; is = refl }));
          others = λ other differs.
              each-last (KeepsAt other settings) (front settings commands groups) last (front-kept other)
              (others other differs);
        }
