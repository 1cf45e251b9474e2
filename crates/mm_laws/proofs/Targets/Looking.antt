-- What the lines of `look` tell of a weak reference's target.
use Rattle.std.proofs.Common.{◌≡◌, ℕ, Bool, true, false, not, List, [], ◌∷◌, ◌++◌, Option, Some, None, refl, ap, ◌∙◌}
use Rattle.std.proofs.Common.{subst, ◌⊎◌, inl, inr}
use Rattle.std.specs.Prelude.{◌↔◌, is_some, slice_get}
use Rattle.std.specs.Option.{option_and_then, option_map_or}
use Rattle.mm_model.specs.declared.command.Command.TheVariants as commands
use Rattle.mm_model.specs.declared.refusal.Refusal.TheVariants as refusals
use Rattle.mm_model.specs.declared.reply.Reply.TheVariants as replies
use Rattle.mm_model.specs.declared.line.Line.{Line}
use Rattle.mm_model.specs.declared.line.Line.TheVariants as lines
use Rattle.mm_model.specs.Value.{Value}
use Rattle.mm_model.specs.Object.{Object, is_weak}
use Rattle.mm_model.specs.State.{State, Lives}
use Rattle.mm_model.specs.Meaning.{meant, meant_at, object_meant}
use Rattle.mm_model.specs.Effect.{Effect, with_some, look_effect, plain_effect}
use Rattle.mm_model.specs.Refusing.{first_refusal, refusal, no_cell, means_nothing, means_weak, is_stack_full}
use Rattle.mm_model.specs.Logs.Course.{IsGone}
use Rattle.mm_model.specs.Good.{IsGood}
use Rattle.mm_model.specs.Step.{IsStepUnless, IsCarriedOut, IsStep}
use Rattle.mm_model.proofs.Cycle.Courses.{gone_lives_not}
use Rattle.mm_model.specs.WeakReferences.{IsMadeFor}
use Rattle.mm_laws.proofs.Meaning.Referring.{within-get}
use Rattle.mm_laws.proofs.Targets.WeakReferences.{look-gone, look-lives, gone_or_lives}

-- the lines end with a word that is 0 exactly where the target is gone
abbrev Tells : State → ℕ → List Line → Type 0
Tells a target group =
    (front : List Line) × (word : ℕ) × (group ≡ front ++ lines.Reply (replies.Word word) ∷ [])
    × ((word ≡ 0) ↔ IsGone a target)

module _ (a : State) (i weak target : ℕ) (object : Object) (good : IsGood a) (made : IsMadeFor a weak target)
    (lives : Lives a weak object) (means : meant_at a i ≡ Some weak) where
  meant_object : object_meant a i ≡ Some object
  meant_object = ap (λ m. option_and_then (slice_get a.objects) m) means ∙ lives.is

  cell : no_cell a i ≡ false
  cell = split (slice_get a.stack i) refl
    where
      split : (found : Option Value) → slice_get a.stack i ≡ found → no_cell a i ≡ false
      split (Some value) e = within-get a.stack i value e
      split None e = let none = ap (λ c. option_and_then (meant a) c) e in cc

  weak_is_meant : means_weak a i ≡ true
  weak_is_meant =
      let first = made.is in
      let second = lives.is in
      let same : made.object ≡ object = cc in
      ap (λ o. option_map_or (λ (x : Object). is_weak x.kind) o false) meant_object
      ∙ subst (λ (o : Object). is_weak o.kind ≡ true) same made.is_weak

  -- a full stack is all that may refuse it
  look_row : (full : Bool) → is_stack_full a ≡ full
      → refusal a (commands.Look i) ≡ first_refusal ((full, refusals.StackFull) ∷ [])
  look_row full room =
      let row = λ (none nothing other full : Bool).
      first_refusal ((none, refusals.NoCell) ∷ (nothing, refusals.Nothing) ∷ (other, refusals.NoWeak)
      ∷ (full, refusals.StackFull) ∷ []) in
      let something : means_nothing a i ≡ false = ap (λ o. not (is_some o)) meant_object in
      let fits : not (means_weak a i) ≡ false = ap not weak_is_meant in
      λ t. row (cell t) (something t) (fits t) (room t)

  pub look_refused : is_stack_full a ≡ true → refusal a (commands.Look i) ≡ Some refusals.StackFull
  look_refused = look_row true

  pub look_allowed : is_stack_full a ≡ false → refusal a (commands.Look i) ≡ None
  look_allowed = look_row false

  pub effect-look : plain_effect a (commands.Look i) ≡ look_effect a object.partner
  effect-look = ap (λ o. with_some o a (λ (x : Object). look_effect a x.partner)) meant_object

  pub look-tells : is_stack_full a ≡ false → (group : List Line) (b : State) → IsStep a (commands.Look i) group b
      → Tells a target group
  look-tells room group b step =
      carried (subst (λ r. IsStepUnless r a (commands.Look i) group b) (look_allowed room) step)
    where
      carried : IsCarriedOut a (commands.Look i) group b → Tells a target group
      carried c = split (gone_or_lives a weak target object good made lives)
        where
          ends : (word : ℕ) → (look_effect a object.partner).reply ≡ replies.Word word
              → group ≡ (c.log ++ c.end_log) ++ lines.Reply (replies.Word word) ∷ []
          ends word is =
              let reply : c.effect.reply ≡ replies.Word word =
              ap (λ (e : Effect). e.reply) (c.carries.effect_is ∙ effect-look) ∙ is in
              c.group_is ∙ ap (λ r. c.log ++ c.end_log ++ lines.Reply r ∷ []) reply

          split : IsGone a target ⊎ ((t : Object) × Lives a target t) → Tells a target group
          split (inl gone) = (
            c.log ++ c.end_log,
            0,
            ends 0 (look-gone a weak target object good made lives gone),
            (λ e. gone, λ g. refl),
          )
          split (inr (t, there)) =
              let told = look-lives a weak target object good made lives t there in (
                c.log ++ c.end_log,
                t.base,
                ends t.base told.0,
                (λ e. absurd (told.1 e), λ gone. absurd (gone_lives_not a target gone t there)),
              )
