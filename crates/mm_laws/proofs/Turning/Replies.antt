-- A group has one reply, in its last line, and the reply is that of the step.
use Rattle.std.proofs.Common.{◌≡◌, ℕ, Bool, true, List, [], ◌∷◌, ◌++◌, Option, Some, None, refl, sym, ap, ◌∙◌, subst}
use Rattle.std.proofs.Common.{append_assoc}
use Rattle.mm_model.specs.declared.command.Command.{Command}
use Rattle.mm_model.specs.declared.command.Command.TheVariants as commands
use Rattle.mm_model.specs.declared.refusal.Refusal.{Refusal}
use Rattle.mm_model.specs.declared.reply.Reply.{Reply}
use Rattle.mm_model.specs.declared.line.Line.{Line}
use Rattle.mm_model.specs.declared.line.Line.TheVariants as lines
use Rattle.mm_model.specs.declared.line.Phase.{Phase}
use Rattle.mm_model.specs.declared.line.Phase.TheVariants.{Reap, Collect}
use Rattle.mm_model.specs.Places.Place.{Family}
use Rattle.mm_model.specs.State.{State}
use Rattle.mm_model.specs.Sets.Marking.{part_done}
use Rattle.mm_model.specs.Phase.{phase_lines, reaped}
use Rattle.mm_model.specs.Places.Search.{Searches, At_once, After_reap, After_collection}
use Rattle.mm_model.specs.Sets.Scan.{AreScanned}
use Rattle.mm_model.specs.Effect.{Effect}
use Rattle.mm_model.specs.Refusing.{refusal}
use Rattle.mm_model.specs.Step.{MakesWeak, Carries, Ends, Refused_as_full, Below_threshold, At_threshold, IsCarriedOut}
use Rattle.mm_model.specs.Step.{IsStepUnless, IsStep}
use Rattle.mm_model.specs.Logs.Turns.{is_group, reply_in}
use Rattle.mm_model.proofs.Steps.Groups.{over-phase}

-- no line is a reply
record IsQuiet (log : List Line) : Type 0 where
  reply : (rest : List Line) → reply_in (log ++ rest) ≡ reply_in rest
  group : (rest : List Line) → is_group (log ++ rest) ≡ is_group rest

quiet-none : IsQuiet []
quiet-none = record { reply = λ rest. refl; group = λ rest. refl }

quiet-append : (log more : List Line) → IsQuiet log → IsQuiet more → IsQuiet (log ++ more)
quiet-append log more p q =
    record {
      reply = λ rest. ap reply_in (append_assoc log more rest) ∙ p.reply (more ++ rest) ∙ q.reply rest;
      group = λ rest. ap is_group (append_assoc log more rest) ∙ p.group (more ++ rest) ∙ q.group rest;
    }

quiet-phase : (what : Phase) (a : State) (bases : List ℕ) → IsQuiet (phase_lines what a bases)
quiet-phase what a bases =
    record {
      reply = over-phase reply_in (λ _ _ _ _. refl) (λ _ _. refl) (λ _ _ _. refl) what a bases;
      group = over-phase is_group (λ _ _ _ _. refl) (λ _ _. refl) (λ _ _ _. refl) what a bases;
    }

quiet-scanned : (a : State) (births : List ℕ) (log : List Line) (b : State) → AreScanned a births log b → IsQuiet log
quiet-scanned a [] log b scanned = subst IsQuiet (sym scanned.0) quiet-none
quiet-scanned a (birth ∷ births) log b scanned =
    let rest = quiet-scanned (part_done a birth scanned.0) births scanned.1 b scanned.4 in
    subst IsQuiet (sym scanned.3) (record { reply = rest.reply; group = rest.group })

quiet-searched : (a : State) (family : Family) (bytes : ℕ) (log : List Line) (b : State) (found : Option ℕ)
    → Searches a family bytes log b found → IsQuiet log
quiet-searched a family bytes log b found (At_once base here log_is b_is found_is) = subst IsQuiet (sym log_is)
    quiet-none
quiet-searched a family bytes log b found (After_reap base dead none are here log_is b_is found_is) =
    subst IsQuiet (sym log_is) (quiet-phase Reap a dead)
quiet-searched a family bytes log b found (After_collection dead lost none are still gone log_is b_is found_is) =
    subst IsQuiet (sym log_is)
    (quiet-append (phase_lines Reap a dead) (phase_lines Collect (reaped dead a) lost) (quiet-phase Reap a dead)
    (quiet-phase Collect (reaped dead a) lost))

quiet-weak : (a : State) (target : ℕ) (partner : Option ℕ) (log : List Line) (effect : Effect)
    → MakesWeak a target partner log effect → IsQuiet log
quiet-weak a target (Some weak) log effect m = subst IsQuiet (sym m.no_lines) quiet-none
quiet-weak a target None log effect m = quiet-searched a _ _ log m.state m.found m.search

quiet-carried : (a : State) (command : Command) (log : List Line) (effect : Effect) → Carries a command log effect
    → IsQuiet log
quiet-carried a (commands.New shape) log effect m = quiet-searched a _ _ log m.state m.found m.search
quiet-carried a (commands.Weak i) log effect m = quiet-weak a m.target m.object.partner log effect m.makes
quiet-carried a (commands.Root counted cells) log effect m = quiet-searched a _ _ log m.state m.found m.search
quiet-carried a (commands.Fixed cells) log effect m = quiet-searched a _ _ log m.state m.found m.search
quiet-carried a commands.Reap log effect m = subst IsQuiet (sym m.0.log_is) (quiet-phase Reap a m.0.dead)
quiet-carried a commands.Collect log effect m = subst IsQuiet (sym m.0.log_is) (quiet-phase Collect a m.0.lost)
quiet-carried a (commands.Step k) log effect m = quiet-scanned a m.0.births log effect.state m.0.scanned
quiet-carried a commands.Finish log effect m = subst IsQuiet (sym m.0.log_is) (quiet-phase Collect a m.0.lost)
quiet-carried a (commands.Push word) log effect m = subst IsQuiet (sym m.no_lines) quiet-none
quiet-carried a (commands.Dup i) log effect m = subst IsQuiet (sym m.no_lines) quiet-none
quiet-carried a (commands.Pop k) log effect m = subst IsQuiet (sym m.no_lines) quiet-none
quiet-carried a (commands.Inner i d) log effect m = subst IsQuiet (sym m.no_lines) quiet-none
quiet-carried a (commands.Get i s) log effect m = subst IsQuiet (sym m.no_lines) quiet-none
quiet-carried a (commands.Put i s j) log effect m = subst IsQuiet (sym m.no_lines) quiet-none
quiet-carried a (commands.Look i) log effect m = subst IsQuiet (sym m.no_lines) quiet-none
quiet-carried a (commands.DropArea n) log effect m = subst IsQuiet (sym m.no_lines) quiet-none
quiet-carried a (commands.AreaGet n s) log effect m = subst IsQuiet (sym m.no_lines) quiet-none
quiet-carried a (commands.AreaPut n s j) log effect m = subst IsQuiet (sym m.no_lines) quiet-none
quiet-carried a commands.Begin log effect m = subst IsQuiet (sym m.no_lines) quiet-none
quiet-carried a (commands.Map i) log effect m = subst IsQuiet (sym m.no_lines) quiet-none
quiet-carried a commands.Stat log effect m = subst IsQuiet (sym m.no_lines) quiet-none

quiet-ended : (a : State) (full : Bool) (log : List Line) (b : State) → Ends a full log b → IsQuiet log
quiet-ended a full log b (Refused_as_full is none same) = subst IsQuiet (sym none) quiet-none
quiet-ended a full log b (Below_threshold is below none same) = subst IsQuiet (sym none) quiet-none
quiet-ended a full log b (At_threshold is above reaps) = subst IsQuiet (sym reaps.log_is)
    (quiet-phase Reap a reaps.dead)

module _ (a : State) (command : Command) (group : List Line) (b : State) (m : IsCarriedOut a command group b) where
  quiet : IsQuiet (m.log ++ m.end_log)
  quiet =
      quiet-append m.log m.end_log (quiet-carried a command m.log m.effect m.carries)
      (quiet-ended m.effect.state _ m.end_log m.end m.ends)

  pub reply-carried : reply_in group ≡ Some m.effect.reply
  reply-carried = ap reply_in m.group_is ∙ quiet.reply (lines.Reply m.effect.reply ∷ [])

  group-carried : is_group group ≡ true
  group-carried = ap is_group m.group_is ∙ quiet.group (lines.Reply m.effect.reply ∷ [])

-- the group of each step ends with its one reply
pub group-step : (a : State) (command : Command) (group : List Line) (b : State) → IsStep a command group b
    → is_group group ≡ true
group-step a command group b step = split (refusal a command) step
  where
    split : (because : Option Refusal) → IsStepUnless because a command group b → is_group group ≡ true
    split (Some because) m = ap is_group m.group_is
    split None m = group-carried a command group b m

-- the one reply of a group is its last line
pub reply-last : (front : List Line) (reply : Reply) → is_group (front ++ lines.Reply reply ∷ []) ≡ true
    → reply_in (front ++ lines.Reply reply ∷ []) ≡ Some reply
reply-last [] reply group = refl
reply-last (lines.Reply other ∷ []) reply group = cc
reply-last (lines.Reply other ∷ line ∷ front) reply group = cc
reply-last (line ∷ front) reply group = reply-last front reply group
