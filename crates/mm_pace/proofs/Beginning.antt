-- A cycle runs after a `begin` that no cycle forbids, and none after a `finish`.
use Rattle.std.proofs.Common.{◌≡◌, Bool, true, false, not, List, [], ◌∷◌, ◌++◌, Some, None, refl, ap, ◌∙◌}
use Rattle.std.proofs.Common.{subst}
use Rattle.mm_model.specs.declared.command.Command.TheVariants as commands
use Rattle.mm_model.specs.declared.refusal.Refusal.TheVariants as refusals
use Rattle.mm_model.specs.declared.reply.Reply.TheVariants as replies
use Rattle.mm_model.specs.declared.line.Line.{Line}
use Rattle.mm_model.specs.declared.line.Line.TheVariants as lines
use Rattle.mm_model.specs.declared.line.Phase.TheVariants.{Reap}
use Rattle.mm_model.specs.State.{State}
use Rattle.mm_model.specs.Effect.{Effect}
use Rattle.mm_model.specs.Refusing.{refusal, first_refusal}
use Rattle.mm_model.specs.Step.{Ends, Refused_as_full, Below_threshold, At_threshold, IsCarriedOut, IsStepUnless}
use Rattle.mm_model.specs.Step.{IsStep, is_full}
use Rattle.mm_model.specs.Logs.Turns.{reply_in}
use Rattle.mm_model.proofs.Steps.Groups.{over-phase}
use Rattle.mm_model.proofs.Cycle.ContinuedSteps.{ends_is_end}
use Rattle.mm_pace.specs.Work.{is_running}

-- the lines of a command's end have no reply
reply-ended : (a : State) (full : Bool) (log : List Line) (b : State) (rest : List Line) → Ends a full log b
    → reply_in (log ++ rest) ≡ reply_in rest
reply-ended a full log b rest (Refused_as_full is none same) = ap (λ lines. reply_in (lines ++ rest)) none
reply-ended a full log b rest (Below_threshold is below none same) = ap (λ lines. reply_in (lines ++ rest)) none
reply-ended a full log b rest (At_threshold is above reaps) =
    ap (λ lines. reply_in (lines ++ rest)) reaps.log_is
    ∙ over-phase reply_in (λ _ _ _ _. refl) (λ _ _. refl) (λ _ _ _. refl) Reap a reaps.dead rest

-- what `begin` leaves and answers where no cycle runs
pub record IsBegun (group : List Line) (b : State) : Type 0 where
  pub runs : is_running b ≡ true
  pub reply : reply_in group ≡ Some replies.Done

begun-carried : (a : State) (group : List Line) (b : State) → IsCarriedOut a commands.Begin group b → IsBegun group b
begun-carried a group b m =
    let end = ends_is_end m.effect.state (is_full m.effect.reply) m.end_log m.end m.ends in
    let reply : List Line = lines.Reply m.effect.reply ∷ [] in
    record {
      runs = ap is_running m.state_is ∙ end.runs ∙ ap (λ (e : Effect). is_running e.state) m.carries.effect_is;
      reply = ap reply_in m.group_is
          ∙ ap (λ log. reply_in (log ++ m.end_log ++ reply)) m.carries.no_lines
          ∙ reply-ended m.effect.state (is_full m.effect.reply) m.end_log m.end reply m.ends
          ∙ ap (λ (e : Effect). Some e.reply) m.carries.effect_is;
    }

pub begin-step : (a : State) (group : List Line) (b : State) → is_running a ≡ false → IsStep a commands.Begin group b
    → IsBegun group b
begin-step a group b idle step =
    let allowed : refusal a commands.Begin ≡ None = ap (λ c. first_refusal ((c, refusals.Busy) ∷ [])) idle in
    begun-carried a group b (subst (λ because. IsStepUnless because a commands.Begin group b) allowed step)

finish-carried : (a : State) (group : List Line) (b : State) → IsCarriedOut a commands.Finish group b
    → is_running b ≡ false
finish-carried a group b m =
    let end = ends_is_end m.effect.state (is_full m.effect.reply) m.end_log m.end m.ends in
    ap is_running m.state_is ∙ end.runs ∙ ap is_running m.carries.0.state

pub finish-step : (a : State) (group : List Line) (b : State) → is_running a ≡ true → IsStep a commands.Finish group b
    → is_running b ≡ false
finish-step a group b runs step =
    let allowed : refusal a commands.Finish ≡ None =
    ap (λ c. first_refusal ((not c, refusals.Idle) ∷ [])) runs in
    finish-carried a group b (subst (λ because. IsStepUnless because a commands.Finish group b) allowed step)
