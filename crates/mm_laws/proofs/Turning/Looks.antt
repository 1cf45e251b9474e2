-- A step keeps what is promised of weak references.
use Rattle.std.proofs.Common.{◌≡◌, ℕ, Bool, true, false, List, Some, sym, ap, ◌∙◌, subst}
use Rattle.std.specs.Prelude.{slice_get, ◌↔◌}
use Rattle.std.specs.Option.{option_and_then}
use Rattle.mm_model.specs.declared.command.Command.{Command}
use Rattle.mm_model.specs.declared.command.Command.TheVariants as commands
use Rattle.mm_model.specs.declared.refusal.Refusal.TheVariants as refusals
use Rattle.mm_model.specs.declared.reply.Reply.{Reply}
use Rattle.mm_model.specs.declared.reply.Reply.TheVariants as replies
use Rattle.mm_model.specs.declared.line.Line.{Line}
use Rattle.mm_model.specs.declared.settings.Settings.{Settings}
use Rattle.mm_model.specs.Object.{Object}
use Rattle.mm_model.specs.State.{State, Lives}
use Rattle.mm_model.specs.Meaning.{meant_at}
use Rattle.mm_model.specs.Logs.Course.{IsGone}
use Rattle.mm_model.specs.Effect.{Effect, look_effect}
use Rattle.mm_model.specs.Refusing.{is_stack_full}
use Rattle.mm_model.specs.Good.{IsGood}
use Rattle.mm_model.specs.Step.{IsStepUnless, IsStep}
use Rattle.mm_model.specs.Logs.Turns.{Turn, Born, reply_in}
use Rattle.mm_model.specs.Logs.Faithful.{LooksAt, AnswersLook, FollowsTargets}
use Rattle.mm_model.proofs.Good.Meanings.{is_meant}
use Rattle.mm_model.proofs.Lists.Truth.{no_other}
use Rattle.mm_model.specs.WeakReferences.{IsMadeFor}
use Rattle.mm_laws.proofs.Targets.Looking.{look_refused, look_allowed, effect-look}
use Rattle.mm_laws.proofs.Targets.WeakReferences.{look-gone, gone-look, look-lives}
use Rattle.mm_laws.proofs.Turning.Knowing.{turn_of}
use Rattle.mm_laws.proofs.Turning.Remembering.{Knows}
use Rattle.mm_laws.proofs.Turning.Replies.{reply-carried}

-- a cell that means an object means one that lives
pub meant-lives : (a : State) → IsGood a → (i birth : ℕ) (object : Object) → meant_at a i ≡ Some birth
    → slice_get a.objects birth ≡ Some object → Lives a birth object
meant-lives a good i birth object means is =
    let one = is_meant a good i object (ap (option_and_then (slice_get a.objects)) means ∙ is) in
    let first = one.1.meant_is in
    let same : one.0 ≡ birth = cc in
    subst (λ n. Lives a n object) same one.1.lives

module _ (a : State) (i weak target : ℕ) (group : List Line) (b : State) (good : IsGood a)
    (made : IsMadeFor a weak target) (means : meant_at a i ≡ Some weak) (step : IsStep a (commands.Look i) group b)
  where
    lives : Lives a weak made.object
    lives = meant-lives a good i weak made.object means made.is

    full-look : is_stack_full a ≡ true → reply_in group ≡ Some (replies.Refused refusals.StackFull)
    full-look full =
        let m = subst (λ r. IsStepUnless r a (commands.Look i) group b)
        (look_refused a i weak target made.object good made lives means full) step in
        ap reply_in m.group_is

    look-replied : is_stack_full a ≡ false → reply_in group ≡ Some (look_effect a made.object.partner).reply
    look-replied fits =
        let m = subst (λ r. IsStepUnless r a (commands.Look i) group b)
        (look_allowed a i weak target made.object good made lives means fits) step in
        reply-carried a (commands.Look i) group b m
        ∙ ap (λ (e : Effect). Some e.reply)
        (m.carries.effect_is ∙ effect-look a i weak target made.object good made lives means)

    empty-look : is_stack_full a ≡ false → (reply_in group ≡ Some (replies.Word 0)) ↔ IsGone a target
    empty-look fits = (
      λ e.
          let first = sym (look-replied fits) ∙ e in
          let same : (look_effect a made.object.partner).reply ≡ replies.Word 0 = cc in
          gone-look a weak target made.object good made lives same,
      λ gone.
          look-replied fits ∙ ap (λ (r : Reply). Some r) (look-gone a weak target made.object good made lives gone),
    )

    based-look : is_stack_full a ≡ false → (t : Object) → Lives a target t
        → reply_in group ≡ Some (replies.Word t.base)
    based-look fits t there =
        look-replied fits
        ∙ ap (λ (r : Reply). Some r) (look-lives a weak target made.object good made lives t there).0

-- what `look` tells of the target that a weak reference was made for
pub look-step : (a : State) (command : Command) (group : List Line) (b : State) → IsGood a → IsStep a command group b
    → (weak target : ℕ) → IsMadeFor a weak target → AnswersLook (turn_of a command group b) weak target
look-step a command group b good step weak target made =
    let looks : (h : LooksAt (turn_of a command group b) weak) → IsStep a (commands.Look h.i) group b =
    λ h. subst (λ c. IsStep a c group b) h.looks step in
    record {
      full = λ h. full-look a h.i weak target group b good made h.means (looks h);
      empty = λ h. empty-look a h.i weak target group b good made h.means (looks h);
      based = λ h. based-look a h.i weak target group b good made h.means (looks h);
    }

pub weak-step : (settings : Settings) (turns : List Turn) (a : State) (command : Command) (group : List Line)
    (b : State)
    → Knows settings turns a → IsStep a command group b → FollowsTargets turns (turn_of a command group b)
weak-step settings turns a command group b known step weak born is kind =
    let target = known.targets weak born is kind in
    record {
      target = target.target;
      made = ap (option_and_then (λ (x : Born). x.target)) is ∙ target.is;
      looks = look-step a command group b known.good step weak target.target target.made;
    }

abbrev pub is_look : Command → Bool
is_look (commands.Look i) = true
is_look command = false

-- any other command than `look` tells nothing of a weak reference, whatever it writes
pub weak-idle : (settings : Settings) (turns : List Turn) (a : State) (command : Command) (group : List Line)
    (b : State)
    → Knows settings turns a → is_look command ≡ false → FollowsTargets turns (turn_of a command group b)
weak-idle settings turns a command group b known idle weak born is kind =
    let target = known.targets weak born is kind in
    record {
      target = target.target;
      made = ap (option_and_then (λ (x : Born). x.target)) is ∙ target.is;
      looks = record {
        full = λ h. absurd (no_other idle (ap is_look h.looks));
        empty = λ h. absurd (no_other idle (ap is_look h.looks));
        based = λ h. absurd (no_other idle (ap is_look h.looks));
      };
    }
