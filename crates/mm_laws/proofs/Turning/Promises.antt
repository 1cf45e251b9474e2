-- A step keeps what is promised of phases: protected objects, full collections, cycles.
use Rattle.std.proofs.Common.{◌≡◌, ℕ, List, [], ◌∷◌, refl, sym, ap, ◌∙◌, subst}
use Rattle.std.specs.Prelude.{IsTrue, is_some, ◌↔◌}
use Rattle.mm_model.specs.declared.command.Command.{Command}
use Rattle.mm_model.specs.declared.line.Line.{Line}
use Rattle.mm_model.specs.declared.settings.Settings.{Settings}
use Rattle.mm_model.specs.Object.{Object}
use Rattle.mm_model.specs.State.{State, Lives}
use Rattle.mm_model.specs.Sets.Protected.{IsProtected}
use Rattle.mm_model.specs.Sets.Reached.{IsReached, By_root, By_slot}
use Rattle.mm_model.specs.Sets.Marking.{IsMarked}
use Rattle.mm_model.specs.Phase.{AreBasesOf}
use Rattle.mm_model.specs.Logs.Throughout.{IsUnreachable, IsThroughout}
use Rattle.mm_model.specs.Logs.Course.{latest}
use Rattle.mm_model.specs.Good.{IsGood}
use Rattle.mm_model.specs.Step.{IsStep}
use Rattle.mm_model.specs.Logs.Turns.{Turn, Way, Reaping, Collecting, Finishing, PhaseOf, phases_of, EachPhase, Frees}
use Rattle.mm_model.specs.Logs.Faithful.{TellsLiveObjects, SparesProtected, IsLeft, LeavesReached, FreesUnmarked}
use Rattle.mm_model.specs.Logs.Faithful.{EndsCycle}
use Rattle.mm_model.specs.Logs.Faithful.{EndsCycles}
use Rattle.mm_model.proofs.Cycle.Courses.{course_is_good, throughout_is_unmarked}
use Rattle.mm_model.proofs.Cycle.Marked.{unmarked_iff_neither, unmarked_is_not_reached}
use Rattle.mm_model.proofs.Decided.Sets.{reached_unless_unreached}
use Rattle.mm_model.proofs.Good.Closing.{dead_listed}
use Rattle.mm_model.proofs.Good.Steps.{step_is_good}
use Rattle.mm_model.proofs.Places.Placing.{each_weaker}
use Rattle.mm_laws.proofs.Phases.Leaving.{left-collected, lived-collected}
use Rattle.mm_laws.proofs.Phases.Reaching.{reapable_is_not_protected, protected_is_reached}
use Rattle.mm_laws.proofs.Turning.Knowing.{turn_of}
use Rattle.mm_laws.proofs.Turning.Phases.{Dead, IsRight, AreRight, right-step}
use Rattle.mm_laws.proofs.Turning.Remembering.{Knows}

lives-reached : (a : State) (birth : ℕ) → IsReached a birth → (object : Object) × Lives a birth object
lives-reached a birth (By_root _ object lives named) = (object, lives)
lives-reached a birth (By_slot _ object by holder lives held named own) = (object, lives)

module _ (start : State) (phase : PhaseOf) (right : IsRight start phase) where
  -- what a phase frees it should free, and what it should free it frees
  dead-frees : (birth : ℕ) → Frees phase birth → Dead phase.way phase.before birth
  dead-frees birth h =
      dead_listed phase.before (Dead phase.way phase.before) phase.bases right.good.placed right.are birth h.object
      h.lives h.listed

  frees-dead : (birth : ℕ) (object : Object) → Lives phase.before birth object → Dead phase.way phase.before birth
      → Frees phase birth
  frees-dead birth object lives dead =
      record { object = object; lives = lives; listed = right.are.all birth object lives dead }

  -- where a cycle ends, it ran
  finishing_runs : phase.way ≡ Finishing → IsTrue (is_some phase.before.cycle)
  finishing_runs e = ap (λ (s : State). is_some s.cycle) (right.finishing e).0 ∙ (right.finishing e).1

  pub spares-phase : (birth : ℕ) → IsProtected phase.before birth → Frees phase birth → ⊥
  spares-phase birth own h = split phase.way refl (dead-frees birth h)
    where
      split : (way : Way) → phase.way ≡ way → Dead way phase.before birth → ⊥
      split Reaping e dead = reapable_is_not_protected phase.before birth dead own
      split Collecting e dead = dead (protected_is_reached phase.before birth right.good own)
      split Finishing e dead =
          unmarked_is_not_reached phase.before birth right.good (finishing_runs e) dead
          (protected_is_reached phase.before birth right.good own)

  -- a full collection leaves exactly the reached objects
  pub left_is_reached : phase.way ≡ Collecting → (birth : ℕ) → IsLeft phase birth ↔ IsReached phase.before birth
  left_is_reached e birth = (reached, left)
    where
      are : AreBasesOf phase.before (Dead Collecting phase.before) phase.bases
      are = subst (λ way. AreBasesOf phase.before (Dead way phase.before) phase.bases) e right.are

      reached : IsLeft phase birth → IsReached phase.before birth
      reached h =
          let lived = lived-collected phase.before phase.bases birth h.object h.lives in
          reached_unless_unreached phase.before birth
          ((left-collected phase.before phase.bases birth lived.0 right.good are lived.1).0 (h.object, h.lives))

      left : IsReached phase.before birth → IsLeft phase birth
      left own =
          let lived = lives-reached phase.before birth own in
          let there = (left-collected phase.before phase.bases birth lived.0 right.good are lived.1).1
          (λ unreached. unreached own) in
          record { object = there.0; lives = there.1 }

  -- the end of a cycle
  frees_neither : phase.way ≡ Finishing → (birth : ℕ) (object : Object) → Lives phase.before birth object
      → Frees phase birth ↔ ((IsMarked phase.before birth → ⊥) × (IsReached phase.before birth → ⊥))
  frees_neither e birth object lives =
      let neither = unmarked_iff_neither phase.before birth object right.good (finishing_runs e) lives in (
        λ h. neither.0 (subst (λ way. Dead way phase.before birth) e (dead-frees birth h)),
        λ h.
            frees-dead birth object lives
            (subst (λ way. Dead way phase.before birth) (sym e) (neither.1 h)),
      )

  -- its bases are those of live objects
  tells_live : TellsLiveObjects phase
  tells_live =
      record {
        ascending = right.are.ascending;
        live = each_weaker
            (λ base. (birth : ℕ) × (object : Object) × Lives phase.before birth object × (object.base ≡ base)
            × Dead phase.way phase.before birth)
            (λ base. (birth : ℕ) × (object : Object) × Lives phase.before birth object × (object.base ≡ base))
            (λ base h. (h.0, h.1, h.2, h.3)) phase.bases right.are.only;
      }

module _ (a : State) (command : Command) (group : List Line) (b : State) (good : IsGood a)
    (step : IsStep a command group b) where
  abbrev this : Turn
  this = turn_of a command group b

  right : AreRight a a (phases_of this) group b
  right = right-step a command group b good step

  pub protected-step : SparesProtected this
  protected-step =
      record {
        told = right.told;
        live = each_weaker (IsRight a) TellsLiveObjects (tells_live a) (phases_of this) right.each;
        gone = right.gone;
        spared = each_weaker (IsRight a) (λ phase. (birth : ℕ) → IsProtected phase.before birth → Frees phase birth → ⊥)
            (spares-phase a) (phases_of this) right.each;
      }

  pub collections-step : LeavesReached this
  collections-step =
      each_weaker (IsRight a)
      (λ phase. phase.way ≡ Collecting → (birth : ℕ) → IsLeft phase birth ↔ IsReached phase.before birth)
      (left_is_reached a) (phases_of this) right.each

  pub finishes-step : EachPhase Finishing this FreesUnmarked
  finishes-step =
      each_weaker (IsRight a) (λ phase. phase.way ≡ Finishing → FreesUnmarked phase)
      (λ phase own e. frees_neither a phase own e) (phases_of this) right.each

latest_unreachable : (begun : State) (states : List State) (birth : ℕ) → IsThroughout begun states birth
    → IsUnreachable (latest begun states) birth
latest_unreachable begun [] birth h = h
latest_unreachable begun (a ∷ earlier) birth h = h.1

module _ (settings : Settings) (turns : List Turn) (a : State) (command : Command) (group : List Line) (b : State)
    (known : Knows settings turns a) (step : IsStep a command group b) where
  ends-cycle : (phase : PhaseOf) → IsRight a phase → phase.way ≡ Finishing → EndsCycle turns phase
  ends-cycle phase right e =
      let own = right.finishing e in
      let course = known.course own.1 in
      let begun = course.cycle.begun in
      let since = course.cycle.since in
      let here : latest begun since ≡ phase.before = course.here ∙ sym own.0 in
      record {
        exactly = frees_neither a phase right e;
        cycle = course.cycle;
        began = course.is;
        throughout = λ birth throughout.
            let last = latest_unreachable begun since birth throughout in
            let good = course_is_good step_is_good begun since course.course in
            let unmarked = throughout_is_unmarked begun since course.course good birth throughout in
            let lives = subst (λ s. Lives s birth last.object) here last.lives in
            (frees_neither a phase right e birth last.object lives).1
            (subst (λ s. (IsMarked s birth → ⊥) × (IsReached s birth → ⊥)) here (unmarked, last.unreached));
      }

  pub cycles-step : EndsCycles turns (turn_of a command group b)
  cycles-step =
      each_weaker (IsRight a) (λ phase. phase.way ≡ Finishing → EndsCycle turns phase) ends-cycle
      (phases_of (turn_of a command group b)) (right-step a command group b known.good step).each
