-- What turns tell of weak references, of cycles, and so of the state that they lead to.
use Rattle.std.proofs.Common.{◌≡◌, ℕ, ◌≤◌, Bool, true, false, List, [], ◌∷◌, ◌++◌, length, Option, Some, None, refl}
use Rattle.std.proofs.Common.{sym, ap, ◌∙◌, subst, ◌⊎◌, ⊎_elim, inl, inr, append_assoc}
use Rattle.std.proofs.lemmas.List.{append-nil, length-map}
use Rattle.std.proofs.lemmas.List.Sums.{fold-append}
use Rattle.std.specs.Prelude.{is_some, slice_get, ◌||◌, if◌then◌else◌}
use Rattle.std.specs.Option.{option_map, option_map_or}
use Rattle.mm_model.specs.declared.command.Command.{Command}
use Rattle.mm_model.specs.declared.command.Command.TheVariants as commands
use Rattle.mm_model.specs.declared.object.Shape.{Shape}
use Rattle.mm_model.specs.declared.refusal.Refusal.{Refusal}
use Rattle.mm_model.specs.declared.refusal.Refusal.TheVariants as refusals
use Rattle.mm_model.specs.declared.reply.Reply.{Reply}
use Rattle.mm_model.specs.declared.reply.Reply.TheVariants as replies
use Rattle.mm_model.specs.declared.line.Line.{Line}
use Rattle.mm_model.specs.declared.line.Line.TheVariants as lines
use Rattle.mm_model.specs.declared.settings.Settings.{Settings}
use Rattle.mm_model.specs.Object.{is_weak}
use Rattle.mm_model.specs.State.{State, Cycle, empty_state}
use Rattle.mm_model.specs.Meaning.{meant_at}
use Rattle.mm_model.specs.Good.{IsGood}
use Rattle.mm_model.specs.Effect.{Effect}
use Rattle.mm_model.specs.Logs.Course.{IsCourse, latest}
use Rattle.mm_model.specs.Refusing.{refusal, is_bad_shape}
use Rattle.mm_model.specs.Step.{IsCarriedOut, IsStepUnless, IsStep}
use Rattle.mm_model.specs.Logs.Turns.{Turn, Born, born_at, births_if, births_in, reply_in, was_refused, is_refusal}
use Rattle.mm_model.specs.Logs.Turns.{CycleStates, is_begin, begins, and_then, cycle_after, latest_cycle, AreSteps}
use Rattle.mm_model.proofs.Good.Allowed.{first_refusal-None}
use Rattle.mm_model.proofs.Good.Starting.{empty_is_good}
use Rattle.mm_model.proofs.Good.Steps.{shape_allowed, step_is_good}
use Rattle.mm_model.proofs.Lists.Growing.{get-push}
use Rattle.mm_model.proofs.Lists.Truth.{no_other}
use Rattle.mm_model.specs.WeakReferences.{IsMadeFor}
use Rattle.mm_laws.proofs.Keeping.FollowingSteps.{made_for-step}
use Rattle.mm_laws.proofs.Targets.WeakReferences.{made_for-weak}
use Rattle.mm_laws.proofs.Turning.Cycles.{follows-step, refused-runs}
use Rattle.mm_laws.proofs.Turning.Knowing.{turn_of, AreAsBorn, AreWritten, outline, outline_of, births_in-more}
use Rattle.mm_laws.proofs.Turning.Knowing.{as_born-step, written-step}
use Rattle.mm_laws.proofs.Turning.Replies.{reply-carried}

-- What a birth adds to those before: at the next birth number, an object of `new` or a weak reference of `weak`.
record IsNewborn (a : State) (command : Command) (reply : Option Reply) (born : Born) : Type 0 where
  base : ℕ
  replied : reply ≡ Some (replies.New base)
  made : ((shape : Shape) × (command ≡ commands.New shape) × (born.shape ≡ shape))
      ⊎ ((i : ℕ) × (command ≡ commands.Weak i) × (born.target ≡ meant_at a i))

-- what stands among the births stood there before, or is the newborn, behind them
abbrev IsBornEarlier : State → Command → Option Reply → List Born → ℕ → Born → Type 0
IsBornEarlier a command reply before k born =
    (slice_get before k ≡ Some born) ⊎ ((k ≡ length before) × IsNewborn a command reply born)

module _ (a : State) (before : List Born) (k : ℕ) (born : Born) where
  born_by : (command : Command) (base : ℕ) → slice_get (before ++ born_at a command base) k ≡ Some born
      → IsBornEarlier a command (Some (replies.New base)) before k born
  born_by (commands.New shape) base e =
      ⊎_elim (λ (l : slice_get before k ≡ Some born). inl l)
      (λ (r : (k ≡ length before) × (_ ≡ born)).
      inr (r.0, record { base = base; replied = refl; made = inl (shape, refl, ap (λ (x : Born). x.shape) (sym r.1)) }))
      (get-push before _ k born e)
  born_by (commands.Weak i) base e =
      ⊎_elim (λ (l : slice_get before k ≡ Some born). inl l)
      (λ (r : (k ≡ length before) × (_ ≡ born)).
      inr (r.0, record { base = base; replied = refl; made = inr (i, refl, ap (λ (x : Born). x.target) (sym r.1)) }))
      (get-push before _ k born e)
  born_by command base e = inl (ap (λ bs. slice_get bs k) (sym (append-nil before)) ∙ e)

  none_born : slice_get (before ++ []) k ≡ Some born → slice_get before k ≡ Some born
  none_born e = ap (λ bs. slice_get bs k) (sym (append-nil before)) ∙ e

  born_earlier : (command : Command) (reply : Option Reply)
      → slice_get (before ++ births_if a command reply) k ≡ Some born → IsBornEarlier a command reply before k born
  born_earlier command (Some (replies.New base)) e = born_by command base e
  born_earlier command reply e = inl (none_born e)

-- the weak reference with a birth number was made for an object
pub record HasTarget (a : State) (weak : ℕ) (born : Born) : Type 0 where
  pub target : ℕ
  pub is : born.target ≡ Some target
  pub made : IsMadeFor a weak target

-- so was each that was born
abbrev pub HaveTargets : List Turn → State → Type 0
HaveTargets turns a =
    (weak : ℕ) (born : Born) → slice_get (births_in turns) weak ≡ Some born → is_weak born.shape.kind ≡ true
    → HasTarget a weak born

-- as many were born as there are objects
pub as_born-length : (turns : List Turn) (a : State) → AreAsBorn turns a → length (births_in turns) ≡ length a.objects
as_born-length turns a known =
    sym (length-map (births_in turns) outline_of) ∙ sym (ap length known) ∙ length-map a.objects outline

-- a newborn weak reference
module _ (a : State) (command : Command) (group : List Line) (b : State) (born : Born) (step : IsStep a command group b)
    (newborn : IsNewborn a command (reply_in group) born) where
  -- what was born wasn't refused
  carried-newborn : (refusal a command ≡ None) × IsCarriedOut a command group b
  carried-newborn = split (refusal a command) refl step
    where
      split : (because : Option Refusal) → refusal a command ≡ because → IsStepUnless because a command group b
          → (refusal a command ≡ None) × IsCarriedOut a command group b
      split None e m = (e, m)
      split (Some because) e m =
          let reply = sym (ap reply_in m.group_is) ∙ newborn.replied in cc

  target-newborn : is_weak born.shape.kind ≡ true → HasTarget b (length a.objects) born
  target-newborn weak =
      ⊎_elim
      (λ (l : (shape : Shape) × (command ≡ commands.New shape) × (born.shape ≡ shape)). absurd (by_new l))
      (λ (r : (i : ℕ) × (command ≡ commands.Weak i) × (born.target ≡ meant_at a i)). by_weak r)
      newborn.made
    where
      by_new : (shape : Shape) × (command ≡ commands.New shape) × (born.shape ≡ shape) → ⊥
      by_new (shape, is, same) =
          let allowed = subst (λ c. refusal a c ≡ None) is carried-newborn.0 in
          let strong : is_weak shape.kind ≡ false = strong_shape shape (shape_allowed a shape allowed) in
          no_other (ap (λ (s : Shape). is_weak s.kind) same ∙ strong) weak
        where
          last_false : (p q : Bool) → (p || q) ≡ false → q ≡ false
          last_false true q e = cc
          last_false false q e = e

          strong_shape : (shape : Shape) → is_bad_shape shape ≡ false → is_weak shape.kind ≡ false
          strong_shape shape e = last_false _ (is_weak shape.kind) e

      by_weak : (i : ℕ) × (command ≡ commands.Weak i) × (born.target ≡ meant_at a i)
          → HasTarget b (length a.objects) born
      by_weak (i, is, target_is) =
          weak_made (subst (λ c. IsCarriedOut a c group b) is carried-newborn.1)
          (subst (λ c. IsStep a c group b) is step)
        where
          weak_made : IsCarriedOut a (commands.Weak i) group b → IsStep a (commands.Weak i) group b
              → HasTarget b (length a.objects) born
          weak_made m own =
              let first = sym (reply-carried a (commands.Weak i) group b m) ∙ newborn.replied in
              let reply : m.effect.reply ≡ replies.New newborn.base = cc in
              record {
                target = m.carries.target;
                is = target_is ∙ m.carries.target_is;
                made = made_for-weak a i m.carries.target group (m.log ++ m.end_log) newborn.base b own
                    (m.group_is ∙ ap (λ r. m.log ++ m.end_log ++ lines.Reply r ∷ []) reply) m.carries.target_is;
              }

targets-step : (turns : List Turn) (a : State) (command : Command) (group : List Line) (b : State) → AreAsBorn turns a
    → HaveTargets turns a → IsStep a command group b → HaveTargets (turns ++ turn_of a command group b ∷ []) b
targets-step turns a command group b known targets step weak born e kind =
    ⊎_elim
    (λ (l : slice_get (births_in turns) weak ≡ Some born).
    let before = targets weak born l kind in
    record {
      target = before.target;
      is = before.is;
      made = made_for-step a command group b weak before.target step before.made;
    })
    (λ (r : (weak ≡ length (births_in turns)) × IsNewborn a command (reply_in group) born).
    subst (λ n. HasTarget b n born) (sym (r.0 ∙ as_born-length turns a known))
    (target-newborn a command group b born step r.1 kind))
    (born_earlier a (births_in turns) weak born command (reply_in group)
    (sym (ap (λ births. slice_get births weak) (births_in-more turns (turn_of a command group b))) ∙ e))

-- the course of the cycle that runs in a state, as the turns tell it
pub record HasCourse (turns : List Turn) (a : State) : Type 0 where
  pub cycle : CycleStates
  pub is : latest_cycle turns ≡ Some cycle
  pub course : IsCourse cycle.begun cycle.since
  pub here : latest cycle.begun cycle.since ≡ a

latest_cycle-more : (turns : List Turn) (turn : Turn)
    → latest_cycle (turns ++ turn ∷ []) ≡ cycle_after (latest_cycle turns) turn
latest_cycle-more turns turn = fold-append cycle_after None turns (turn ∷ [])

module _ (turns : List Turn) (a : State) (command : Command) (group : List Line) (b : State)
    (step : IsStep a command group b) where
  abbrev this : Turn
  this = turn_of a command group b

  -- a cycle goes on where the turn begins none
  course-on : HasCourse turns a → begins this ≡ false → is_some b.cycle ≡ true → HasCourse (turns ++ this ∷ []) b
  course-on before none runs =
      record {
        cycle = and_then b before.cycle;
        is = latest_cycle-more turns this
            ∙ ap (λ c. cycle_after c this) before.is
            ∙ ap (λ c. if c then Some (record { begun = b; since = [] }) else Some (and_then b before.cycle)) none;
        course = (
          before.course,
          record {
            command = command;
            group = group;
            step = subst (λ x. IsStep x command group b) (sym before.here) step;
            runs = runs;
          },
        );
        here = refl;
      }

  pub begins-refused : (because : Refusal) → reply_in group ≡ Some (replies.Refused because) → begins this ≡ false
  begins-refused because reply =
      ap (λ found. if option_map_or is_refusal found false then false else is_begin command) reply

  pub begins-other : is_begin command ≡ false → begins this ≡ false
  begins-other e = split (was_refused this)
    where
      split : (c : Bool) → (if c then false else is_begin command) ≡ false
      split true = refl
      split false = e

-- `begin` is refused in a cycle alone
pub idle-begin : (a : State) → refusal a commands.Begin ≡ None → a.cycle ≡ None
idle-begin a allowed = none_runs a.cycle (first_refusal-None (is_some a.cycle) refusals.Busy [] allowed).0
  where
    none_runs : (cycle : Option Cycle) → is_some cycle ≡ false → cycle ≡ None
    none_runs None e = refl
    none_runs (Some cycle) e = cc

-- a `begin` that isn't refused begins a cycle
course-begun : (turns : List Turn) (a : State) (group : List Line) (b : State) → IsGood a
    → refusal a commands.Begin ≡ None → IsStep a commands.Begin group b → IsCarriedOut a commands.Begin group b
    → HasCourse (turns ++ turn_of a commands.Begin group b ∷ []) b
course-begun turns a group b good allowed step m =
    let this = turn_of a commands.Begin group b in
    let reply : reply_in group ≡ Some replies.Done =
    reply-carried a commands.Begin group b m ∙ ap (λ (e : Effect). Some e.reply) m.carries.effect_is in
    let yes : begins this ≡ true = ap (λ found. if option_map_or is_refusal found false then false else true) reply in
    record {
      cycle = record { begun = b; since = [] };
      is = latest_cycle-more turns this
          ∙ ap
          (λ c.
          if c then Some (record { begun = b; since = [] }) else option_map (and_then b) (latest_cycle turns)) yes;
      course = record {
        before = a;
        good = good;
        idle = idle-begin a allowed;
        group = group;
        step = step;
      };
      here = refl;
    }

course-step : (turns : List Turn) (a : State) (command : Command) (group : List Line) (b : State) → IsGood a
    → (is_some a.cycle ≡ true → HasCourse turns a) → IsStep a command group b → is_some b.cycle ≡ true
    → HasCourse (turns ++ turn_of a command group b ∷ []) b
course-step turns a commands.Begin group b good before step runs = split (refusal a commands.Begin) refl step
  where
    split : (because : Option Refusal) → refusal a commands.Begin ≡ because
        → IsStepUnless because a commands.Begin group b
        → HasCourse (turns ++ turn_of a commands.Begin group b ∷ []) b
    split None e m = course-begun turns a group b good e step m
    split (Some because) e m =
        course-on turns a commands.Begin group b step
        (before (refused-runs a commands.Begin group b because e step runs))
        (begins-refused turns a commands.Begin group b step because (ap reply_in m.group_is)) runs
course-step turns a command group b good before step runs =
    course-on turns a command group b step (before ((follows-step a command group b step).runs refl runs))
    (begins-other turns a command group b step refl) runs

-- what turns tell of the state that they lead to
pub record Knows (settings : Settings) (turns : List Turn) (a : State) : Type 0 where
  pub good : IsGood a
  pub settings_are : a.settings ≡ settings
  pub as_born : AreAsBorn turns a
  pub written : AreWritten turns a
  pub targets : HaveTargets turns a
  pub course : is_some a.cycle ≡ true → HasCourse turns a

pub knows-empty : (settings : Settings) → settings.pages ≤ settings.max → Knows settings [] (empty_state settings)
knows-empty settings growing =
    record {
      good = empty_is_good settings growing;
      settings_are = refl;
      as_born = refl;
      written = record { last = λ birth s word e. cc; later = λ birth s behind. refl };
      targets = λ weak born e kind. cc;
      course = λ runs. cc;
    }

pub knows-step : (settings : Settings) (turns : List Turn) (a : State) (command : Command) (group : List Line)
    (b : State) → Knows settings turns a → IsStep a command group b
    → Knows settings (turns ++ turn_of a command group b ∷ []) b
knows-step settings turns a command group b known step =
    record {
      good = step_is_good a command group b known.good step;
      settings_are = (follows-step a command group b step).settings ∙ known.settings_are;
      as_born = as_born-step turns a command group b known.as_born step;
      written = written-step turns a command group b known.written step;
      targets = targets-step turns a command group b known.as_born known.targets step;
      course = course-step turns a command group b known.good known.course step;
    }

-- what the turns of a legal run tell
pub knows-steps : (settings : Settings) (earlier turns : List Turn) (a b : State) → Knows settings earlier a
    → AreSteps a turns b → Knows settings (earlier ++ turns) b
knows-steps settings earlier [] a b known steps =
    subst (λ x. Knows settings (earlier ++ []) x) (sym steps)
    (subst (λ ts. Knows settings ts a) (sym (append-nil earlier)) known)
knows-steps settings earlier (turn ∷ turns) a b known steps =
    let first = knows-step settings earlier turn.before turn.command turn.group turn.after
    (subst (Knows settings earlier) (sym steps.0) known) steps.1 in
    subst (λ ts. Knows settings ts b) (append_assoc earlier (turn ∷ []) turns)
    (knows-steps settings (earlier ++ turn ∷ []) turns turn.after b first steps.2)
