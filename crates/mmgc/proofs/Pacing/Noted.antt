-- A pacer counts on over one more turn.
use Rattle.std.proofs.Common.{◌≡◌, ℕ, ◌+◌, ◌*◌, ◌≤◌, Bool, true, false, cond, List, [], ◌∷◌, ◌++◌}
use Rattle.std.proofs.Common.{Option, Some, None, IsTrue, refl, sym, ap, ◌∙◌, subst, arith, eqb-true}
use Rattle.std.specs.Prelude.{◌==◌}
use Rattle.std.specs.List.{sum_by}
use Rattle.std.specs.Option.{option_map_or}
use Rattle.mm_model.specs.declared.command.Command.{Command}
use Rattle.mm_model.specs.declared.command.Command.TheVariants as commands
use Rattle.mm_model.specs.declared.refusal.Refusal.TheVariants as refusals
use Rattle.mm_model.specs.declared.reply.Reply.{Reply}
use Rattle.mm_model.specs.declared.reply.Reply.TheVariants as replies
use Rattle.mm_model.specs.declared.line.Line.{Line}
use Rattle.mm_model.specs.State.{State}
use Rattle.mm_model.specs.Refusing.{refusal, first_refusal}
use Rattle.mm_model.specs.Step.{IsStep, IsStepUnless}
use Rattle.mm_model.specs.Logs.Turns.{Turn, births_of, births_if, born_at, begins, is_begin, is_refusal, reply_in}
use Rattle.mm_laws.proofs.Turning.Cycles.{follows-step}
use Rattle.mm_laws.proofs.Turning.Remembering.{begins-refused, begins-other}
use Rattle.mm_pace.specs.declared.pace.Pace.{Pace}
use Rattle.mm_pace.specs.Work.{work_of, is_running}
use Rattle.mm_pace.specs.Recent.{changes_cycle, extent_born, since, work_begun}
use Rattle.mmgc.specs.Counting.{Counts, IsNoted, bytes_of}

-- a command that bears nothing
pub births-none : (a : State) (command : Command) → ((base : ℕ) → born_at a command base ≡ [])
    → (reply : Option Reply) → births_if a command reply ≡ []
births-none a command none None = refl
births-none a command none (Some (replies.New base)) = none base
births-none a command none (Some reply) = refl

-- a command is `begin` where the test says so
is_begin-true : (command : Command) → is_begin command ≡ true → command ≡ commands.Begin
is_begin-true commands.Begin e = refl
is_begin-true command e = cc

-- what is known of `begin` where no cycle runs
pub record Begun : Type 0 where
  pub runs : (a : State) (group : List Line) (b : State) → is_running a ≡ false → IsStep a commands.Begin group b
      → is_running b ≡ true
  pub reply : (a : State) (group : List Line) (b : State) → is_running a ≡ false → IsStep a commands.Begin group b
      → reply_in group ≡ Some replies.Done

-- A cycle that runs after a turn and not before it begins in it.
module _ (begun : Begun) (turn : Turn) (step : IsStep turn.before turn.command turn.group turn.after) where
  begins-busy : is_running turn.before ≡ true → begins turn ≡ false
  begins-busy runs = split (is_begin turn.command) refl
    where
      split : (b : Bool) → is_begin turn.command ≡ b → begins turn ≡ false
      split false e = begins-other [] turn.before turn.command turn.group turn.after step e
      split true e =
          let is = is_begin-true turn.command e in
          let busy : refusal turn.before turn.command ≡ Some refusals.Busy =
          ap (refusal turn.before) is ∙ ap (λ b. first_refusal ((b, refusals.Busy) ∷ [])) runs in
          let refused = subst (λ r. IsStepUnless r turn.before turn.command turn.group turn.after) busy step in
          begins-refused [] turn.before turn.command turn.group turn.after step refusals.Busy
          (ap reply_in refused.group_is)

  -- nothing is born as a cycle begins
  pub begins-idle : is_running turn.before ≡ false → is_running turn.after ≡ true
      → (turn.command ≡ commands.Begin) × (begins turn ≡ true) × (births_of turn ≡ [])
  begins-idle idle runs = split (is_begin turn.command) refl
    where
      split : (b : Bool) → is_begin turn.command ≡ b
          → (turn.command ≡ commands.Begin) × (begins turn ≡ true) × (births_of turn ≡ [])
      split false e =
          let ran = (follows-step turn.before turn.command turn.group turn.after step).runs e runs in
          cc
      split true e =
          let is = is_begin-true turn.command e in
          let reply = begun.reply turn.before turn.group turn.after idle
          (subst (λ (c : Command). IsStep turn.before c turn.group turn.after) is step) in (
            is,
            ap (λ (found : Option Reply). cond (option_map_or is_refusal found false) false (is_begin turn.command))
                reply
                ∙ e,
            ap (births_if turn.before turn.command) reply,
          )

  begins-never : is_running turn.before ≡ false → is_running turn.after ≡ false → begins turn ≡ false
  begins-never idle ends = split (is_begin turn.command) refl
    where
      split : (b : Bool) → is_begin turn.command ≡ b → begins turn ≡ false
      split false e = begins-other [] turn.before turn.command turn.group turn.after step e
      split true e =
          let is = is_begin-true turn.command e in
          let runs = begun.runs turn.before turn.group turn.after idle
          (subst (λ (c : Command). IsStep turn.before c turn.group turn.after) is step) in
          cc

-- how the bytes since and the work are counted on
pub record CountedOn : Type 0 where
  pub since : (turns : List Turn) (turn : Turn) → since (turns ++ turn ∷ [])
      ≡ cond (changes_cycle turn) 0 (since turns) + sum_by extent_born (births_of turn)
  pub work : (turns : List Turn) (turn : Turn) → work_begun (turns ++ turn ∷ [])
      ≡ cond (begins turn) (work_of turn.before) (work_begun turns)

-- One more turn of a pacer that owes no step.
module _ (begun : Begun) (counted : CountedOn) (turns : List Turn) (turn : Turn)
    (step : IsStep turn.before turn.command turn.group turn.after) (old new : Pace) (work bytes : ℕ)
    (counts : Counts turns turn.before 0 old)
    (noted : IsNoted (is_running turn.before) (is_running turn.after) work bytes old new)
    (works : turn.command ≡ commands.Begin → is_running turn.before ≡ false → work ≡ work_of turn.before)
    (born : bytes ≡ bytes_of turn) where
  work-more : IsTrue (is_running turn.after) → new.work ≡ work_begun (turns ++ turn ∷ [])
  work-more runs = noted.work runs ∙ split (is_running turn.before) refl ∙ sym (counted.work turns turn)
    where
      split : (ran : Bool) → is_running turn.before ≡ ran
          → cond ran old.work work ≡ cond (begins turn) (work_of turn.before) (work_begun turns)
      split true e =
          counts.work e
          ∙ ap (λ b. cond b (work_of turn.before) (work_begun turns)) (sym (begins-busy begun turn step e))
      split false e =
          let one = begins-idle begun turn step e runs in
          works one.0 e ∙ ap (λ b. cond b (work_of turn.before) (work_begun turns)) (sym one.1)

  last-more : IsTrue (is_running turn.after) → new.last ≡ bytes_of turn
  last-more runs = noted.last runs ∙ split (bytes == 0) refl ∙ born
    where
      zero_of : bytes == 0 ≡ true → bytes ≡ 0
      zero_of e = eqb-true bytes 0 e

      before : (ran : Bool) → is_running turn.before ≡ ran → ◌≡◌ {A = ℕ} (cond ran old.last 0) 0
      before true e = counts.last e
      before false e = refl

      split : (b : Bool) → (bytes == 0) ≡ b
          → cond b (cond (is_running turn.before) old.last 0) bytes ≡ bytes
      split true e = before (is_running turn.before) refl ∙ sym (zero_of e)
      split false e = refl

  few-more : turn.after.commands ≡ turn.before.commands + 1 → bytes ≤ 4198400
      → new.since ≤ 4198400 * turn.after.commands
  few-more more most =
      let before = counts.few in
      let after = noted.since in
      let kept : cond (changes_cycle turn) 0 old.since ≤ old.since = least (changes_cycle turn) in
      omega arith
    where
      least : (b : Bool) → cond b 0 old.since ≤ old.since
      least true = omega arith
      least false = omega arith

  pub counts-more : turn.after.commands ≡ turn.before.commands + 1 → bytes ≤ 4198400
      → Counts (turns ++ turn ∷ []) turn.after (bytes_of turn) new
  counts-more more most =
      record {
        since = noted.since
            ∙ (λ i. cond (changes_cycle turn) 0 (counts.since i) + born i)
            ∙ sym (counted.since turns turn);
        work = work-more;
        last = last-more;
        few = few-more more most;
      }
