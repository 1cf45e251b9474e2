-- What holds of the whole course of a cycle: `finish` frees what was unreachable throughout.
use Rattle.std.proofs.Common.{◌≡◌, ℕ, ◌<◌, Bool, true, false, not, List, [], ◌∷◌, length, get_or, Option, Some, None}
use Rattle.std.proofs.Common.{refl, sym, ap, ◌∙◌, subst, ⊎_elim, arith}
use Rattle.std.proofs.lemmas.Option.{slice_get-map, slice_get_within, slice_get-get_or}
use Rattle.std.specs.Prelude.{IsTrue, is_some, slice_get, ◌&&◌, if◌then◌else◌}
use Rattle.std.specs.Option.{option_map}
use Rattle.mm_model.specs.declared.command.Command.{Command}
use Rattle.mm_model.specs.declared.command.Command.TheVariants as commands
use Rattle.mm_model.specs.declared.line.Line.{Line}
use Rattle.mm_model.specs.declared.refusal.Refusal.{Refusal}
use Rattle.mm_model.specs.declared.refusal.Refusal.TheVariants as refusals
use Rattle.mm_model.specs.Object.{Object}
use Rattle.mm_model.specs.State.{State, Lives, one_more_command}
use Rattle.mm_model.specs.Words.{root_words, names}
use Rattle.mm_model.specs.Sets.Reached.{IsReached}
use Rattle.mm_model.specs.Logs.Throughout.{IsUnreachable, IsThroughout}
use Rattle.mm_model.specs.Sets.Marking.{is_white, begun as begun_state, IsMarked, IsFreedAtFinish}
use Rattle.mm_model.specs.Phase.{lists, is_freed, unless_freed, after_release, collected}
use Rattle.mm_model.specs.Refusing.{first_refusal, refusal}
use Rattle.mm_model.specs.Step.{is_full, IsCarriedOut, IsStepUnless, IsStep}
use Rattle.mm_model.specs.Logs.Course.{latest, IsCourse, AreGood, IsGone}
use Rattle.mm_model.specs.Good.{IsGood}
use Rattle.mm_model.proofs.Cycle.Continuing.{names-alike, Thins}
use Rattle.mm_model.proofs.Cycle.ContinuedSteps.{IsEnd, ends_is_end, step_continues}
use Rattle.mm_model.proofs.Cycle.Marked.{not_white-begun, unmarked_iff_neither}

-- a command that isn't refused is carried out
carried_out : (a : State) (command : Command) (group : List Line) (b : State) → refusal a command ≡ None
    → IsStep a command group b → IsCarriedOut a command group b
carried_out a command group b e step = subst (λ (found : Option Refusal). IsStepUnless found a command group b) e step

-- `begin`, where no cycle runs
begin_is_end : (a : State) (group : List Line) (b : State) → a.cycle ≡ None → IsStep a commands.Begin group b
    → IsEnd (begun_state a) b
begin_is_end a group b idle step =
    let allowed : refusal a commands.Begin ≡ None =
    ap (λ (c : Option _). first_refusal ((is_some c, refusals.Busy) ∷ [])) idle in
    let h = carried_out a commands.Begin group b allowed step in
    subst (IsEnd (begun_state a)) (sym h.state_is)
    (subst (λ (x : State). IsEnd x (one_more_command h.end)) (ap (λ x. x.state) h.carries.effect_is)
    (ends_is_end h.effect.state (is_full h.effect.reply) h.end_log h.end h.ends))

marked_is_reached : (a b : State) → IsEnd (begun_state a) b → (j : ℕ) → IsMarked b j → IsReached b j
marked_is_reached a b end j (IsMarked.Already _ object lives colour) =
    let was = end.thins.was j object lives in
    let named = not_white-begun a j was.before was.lived
    (ap (λ c. not (is_white c)) (sym (end.thins.colour j)) ∙ colour) in
    IsReached.By_root j object lives
    (ap (λ ws. names ws object) end.roots ∙ names-alike (root_words a) was.before object was.alike ∙ named)
marked_is_reached a b end j (IsMarked.By_slot _ object by holder lives held named own) =
    IsReached.By_slot j object by holder lives held named (marked_is_reached a b end by own)

-- After a `begin` that isn't refused, marking reaches no more than is reached.
pub begin_marks_reached : (a : State) (group : List Line) (b : State) → IsStep a commands.Begin group b
    → a.cycle ≡ None → (j : ℕ) → IsMarked b j → IsReached b j
begin_marks_reached a group b step idle = marked_is_reached a b (begin_is_end a group b idle step)

-- what `finish` frees, with the reap at its end
record IsFinished (a b : State) : Type 0 where
  lost : List ℕ
  all : (birth : ℕ) (object : Object) → Lives a birth object → IsFreedAtFinish a birth → IsTrue (lists lost object.base)
  thins : Thins (collected lost a) b

finish_is_finished : (a : State) (group : List Line) (b : State) → IsTrue (is_some a.cycle)
    → IsStep a commands.Finish group b → IsFinished a b
finish_is_finished a group b runs step =
    let allowed : refusal a commands.Finish ≡ None =
    ap (λ c. first_refusal ((not c, refusals.Idle) ∷ [])) runs in
    let h = carried_out a commands.Finish group b allowed step in
    let done = h.carries.0 in
    let end : IsEnd h.effect.state b =
    subst (IsEnd h.effect.state) (sym h.state_is)
    (ends_is_end h.effect.state (is_full h.effect.reply) h.end_log h.end h.ends) in
    record {
      lost = done.lost;
      all = done.unmarked.all;
      thins = subst (λ (x : State). Thins x b) done.state end.thins;
    }

-- what is listed is gone
listed_is_gone : (a : State) (bases : List ℕ) (birth : ℕ) (object : Object) → Lives a birth object
    → lists bases object.base ≡ true
    → slice_get (collected bases a).objects birth ≡ Some (record object { gone = true })
listed_is_gone a bases birth object lives listed =
    let freed : is_freed bases object ≡ true = ap (λ b. b && lists bases object.base) lives.live ∙ listed in
    slice_get-map (after_release a bases) a.objects birth
    ∙ ap (option_map (after_release a bases)) lives.is
    ∙ ap (λ b. Some (if b then record object { gone = true }
    else record object { partner = unless_freed a bases object.partner })) freed

-- what was gone stays so
gone-thins : (a b : State) → Thins a b → (birth : ℕ) (object : Object) → slice_get a.objects birth ≡ Some object
    → object.gone ≡ true → IsGone b birth
gone-thins a b thins birth object is gone =
    let within : birth < length b.objects =
    let known = slice_get_within a.objects birth object is in let same = thins.births in omega arith in
    let last = get_or b.objects birth object in
    let there = slice_get-get_or b.objects birth object within in
    record { object = last; is = there; gone = split last there last.gone refl }
  where
    split : (o : Object) → slice_get b.objects birth ≡ Some o → (g : Bool) → o.gone ≡ g → o.gone ≡ true
    split o there true e = e
    split o there false e =
        let was = thins.was birth o (record { is = there; live = ap not e }) in
        let f = was.lived.is in
        let same : was.before ≡ object = cc in
        let dead : not (was.before.gone) ≡ false = ap (λ (x : Object). not x.gone) same ∙ ap not gone in
        let live = was.lived.live in
        cc

-- `finish` frees each object that marking doesn't reach any more and that isn't reached.
pub finish_frees : (a : State) (group : List Line) (b : State) → IsGood a → IsTrue (is_some a.cycle)
    → IsStep a commands.Finish group b → (birth : ℕ) (object : Object) → Lives a birth object
    → (IsMarked a birth → ⊥) → (IsReached a birth → ⊥) → IsGone b birth
finish_frees a group b good runs step birth object lives unmarked unreached =
    let finished = finish_is_finished a group b runs step in
    let dead : IsFreedAtFinish a birth =
    (unmarked_iff_neither a birth object good runs lives).1 (unmarked, unreached) in
    let listed = finished.all birth object lives dead in
    gone-thins (collected finished.lost a) b finished.thins birth (record object { gone = true })
    (listed_is_gone a finished.lost birth object lives listed) refl

latest_is_good : (begun : State) (states : List State) → AreGood begun states → IsGood (latest begun states)
latest_is_good begun [] good = good
latest_is_good begun (a ∷ earlier) good = good.1

-- a cycle runs in the latest state of a course
pub course_runs : (begun : State) (states : List State) → IsCourse begun states
    → IsTrue (is_some (latest begun states).cycle)
course_runs begun [] h = (begin_is_end h.before h.group begun h.idle h.step).runs
course_runs begun (a ∷ earlier) h = h.1.runs

latest_unreachable : (begun : State) (states : List State) (birth : ℕ) → IsThroughout begun states birth
    → IsUnreachable (latest begun states) birth
latest_unreachable begun [] birth h = h
latest_unreachable begun (a ∷ earlier) birth h = h.1

-- marking never reaches what is unreachable throughout
pub throughout_is_unmarked : (begun : State) (states : List State) → IsCourse begun states → AreGood begun states
    → (birth : ℕ) → IsThroughout begun states birth → IsMarked (latest begun states) birth → ⊥
throughout_is_unmarked begun [] h good birth throughout marked =
    throughout.unreached (begin_marks_reached h.before h.group begun h.step h.idle birth marked)
throughout_is_unmarked begun (a ∷ earlier) h good birth throughout marked =
    let last = latest begun earlier in
    let before = latest_unreachable begun earlier birth throughout.0 in
    ⊎_elim
    (λ (l : IsMarked last birth). throughout_is_unmarked begun earlier h.0 good.0 birth throughout.0 l)
    (λ (r : IsReached a birth). throughout.1.unreached r)
    (step_continues last h.1.command h.1.group a (latest_is_good begun earlier good.0)
    h.1.step (course_runs begun earlier h.0) h.1.runs birth marked before.object
    before.lives)

-- `finish` frees every object that was unreachable throughout the cycle.
pub throughout_is_freed : (begun : State) (states : List State) → IsCourse begun states → AreGood begun states
    → (group : List Line) (b : State) → IsStep (latest begun states) commands.Finish group b → (birth : ℕ)
    → IsThroughout begun states birth → IsGone b birth
throughout_is_freed begun states h good group b step birth throughout =
    let last = latest_unreachable begun states birth throughout in
    finish_frees (latest begun states) group b (latest_is_good begun states good) (course_runs begun states h) step
    birth last.object last.lives (throughout_is_unmarked begun states h good birth throughout) last.unreached

-- what is gone is marked so, and doesn't live
pub gone-get : (a : State) (birth : ℕ) → IsGone a birth → (object : Object)
    → slice_get a.objects birth ≡ Some object → object.gone ≡ true
gone-get a birth gone object is =
    let own = gone.is in
    let same : gone.object ≡ object = cc in
    ap (λ (o : Object). o.gone) (sym same) ∙ gone.gone

pub gone_lives_not : (a : State) (birth : ℕ) → IsGone a birth → (object : Object) → Lives a birth object → ⊥
gone_lives_not a birth gone object lives =
    clash (sym (ap not (gone-get a birth gone object lives.is)) ∙ lives.live)
  where
    clash : false ≡ true → ⊥
    clash e = cc

-- where each step keeps a state good, each state of a course is good
pub course_is_good : ((a : State) (command : Command) (group : List Line) (b : State) → IsGood a
    → IsStep a command group b → IsGood b)
    → (begun : State) (states : List State) → IsCourse begun states → AreGood begun states
course_is_good keeps begun [] h = keeps h.before commands.Begin h.group begun h.good h.step
course_is_good keeps begun (a ∷ earlier) h =
    let good = course_is_good keeps begun earlier h.0 in
    let last = latest begun earlier in (
      good,
      keeps last h.1.command h.1.group a (latest_is_good begun earlier good) h.1.step,
    )
