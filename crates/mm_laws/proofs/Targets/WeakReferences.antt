-- What `weak` makes, and what `look` tells of it.
use Rattle.std.proofs.Common.{◌≡◌, ℕ, Bool, List, [], ◌∷◌, ◌++◌, length, Option, Some, None, refl, sym, ap, ◌∙◌, subst}
use Rattle.std.proofs.Common.{arith, ◌⊎◌, inl, inr}
use Rattle.std.proofs.lemmas.List.{length-set}
use Rattle.std.specs.Prelude.{◌≢◌, IfSome, slice_get, slice_set}
use Rattle.mm_model.specs.declared.command.Command.TheVariants as commands
use Rattle.mm_model.specs.declared.refusal.Refusal.{Refusal}
use Rattle.mm_model.specs.declared.line.Line.{Line}
use Rattle.mm_model.specs.declared.line.Line.TheVariants as lines
use Rattle.mm_model.specs.declared.reply.Reply.{Reply}
use Rattle.mm_model.specs.declared.reply.Reply.TheVariants as replies
use Rattle.mm_model.specs.Value.{reference}
use Rattle.mm_model.specs.Object.{Object, newborn}
use Rattle.mm_model.specs.State.{State, Lives}
use Rattle.mm_model.specs.Meaning.{meant_at}
use Rattle.mm_model.specs.Effect.{Effect, weak_shape, weak_made, with_some, weak_effect, look_effect, pushes}
use Rattle.mm_model.specs.Refusing.{refusal}
use Rattle.mm_model.specs.Good.{IsPaired, IsGood}
use Rattle.mm_model.specs.Step.{MakesWeak, Ends, Refused_as_full, Below_threshold, At_threshold, IsStepUnless, IsStep}
use Rattle.mm_model.proofs.Lists.Growing.{get-last}
use Rattle.mm_model.proofs.Good.Living.{lives_from_page_1}
use Rattle.mm_model.proofs.Good.Steps.{step_is_good}
use Rattle.mm_model.specs.Logs.Course.{IsGone}
use Rattle.mm_model.proofs.Cycle.Courses.{gone_lives_not}
use Rattle.mm_model.specs.WeakReferences.{IsTarget, Partner, Freed, IsMadeFor}
use Rattle.mm_laws.proofs.Keeping.Following.{Keeps, made_for-kept, keeps-then}
use Rattle.mm_laws.proofs.Keeping.FollowingSteps.{length-searched, keeps-ended, keeps-one_more}
use Rattle.mm_laws.proofs.Meaning.Referring.{lives-reference}

-- what a list ends with is one alone
last_alike : {X : Type 0} (xs ys : List X) (x y : X) → xs ++ x ∷ [] ≡ ys ++ y ∷ [] → x ≡ y
last_alike [] [] x y e = cc
last_alike {X} [] (z ∷ ys) x y e = let rest : [] ≡ ys ++ y ∷ [] = cc in absurd (nothing ys rest)
  where
    nothing : (zs : List X) → [] ≡ zs ++ y ∷ [] → ⊥
    nothing [] p = cc
    nothing (w ∷ zs) p = cc
last_alike {X} (z ∷ xs) [] x y e = let rest : xs ++ x ∷ [] ≡ [] = cc in absurd (nothing xs rest)
  where
    nothing : (zs : List X) → zs ++ x ∷ [] ≡ [] → ⊥
    nothing [] p = cc
    nothing (w ∷ zs) p = cc
last_alike (z ∷ xs) (w ∷ ys) x y e = let rest : xs ++ x ∷ [] ≡ ys ++ y ∷ [] = cc in last_alike xs ys x y rest

-- A weak reference that was just made for a target: it stands at the base, and is on top of the stack.
pub record IsMadeAt (a : State) (weak base target : ℕ) : Type 0 where
  pub made : IsMadeFor a weak target
  pub place : (object : Object) → slice_get a.objects weak ≡ Some object → object.base ≡ base
  pub top : slice_get a.stack 0 ≡ Some (reference base weak)

made_at-kept : (a b : State) (weak base target : ℕ) → Keeps a b → b.stack ≡ a.stack → IsMadeAt a weak base target
    → IsMadeAt b weak base target
made_at-kept a b weak base target keeps stack h =
    record {
      made = made_for-kept a b weak target keeps h.made;
      place = λ object e.
          let one = keeps weak h.made.object h.made.is in
          let is = one.is in
          let same : one.after ≡ object = cc in
          ap (λ (o : Object). o.base) (sym same) ∙ one.base ∙ h.place h.made.object h.made.is;
      top = ap (λ s. slice_get s 0) stack ∙ h.top;
    }

made_at-weak_made : (a : State) (target : ℕ) (object : Object) (base : ℕ)
    → IsMadeAt (weak_made a target object base) (length a.objects) base target
made_at-weak_made a target object base =
    let rest = slice_set a.objects target (record object { partner = Some (length a.objects) }) in
    let weak : Object = record (newborn weak_shape base) { partner = Some target } in
    let is : slice_get (rest ++ weak ∷ []) (length a.objects) ≡ Some weak =
    subst (λ n. slice_get (rest ++ weak ∷ []) n ≡ Some weak)
    (length-set a.objects target (record object { partner = Some (length a.objects) })) (get-last rest weak) in
    record {
      made = record { object = weak; is = is; is_weak = refl; of_target = Partner refl };
      place = λ o e. let same : weak ≡ o = cc in ap (λ (x : Object). x.base) (sym same);
      top = refl;
    }

made_at-weak_effect : (a : State) (target : ℕ) (found : Option ℕ) (base : ℕ)
    → (weak_effect a target found).reply ≡ replies.New base
    → IsMadeAt (weak_effect a target found).state (length a.objects) base target
made_at-weak_effect a target None base e = cc
made_at-weak_effect a target (Some place) base e = split (slice_get a.objects target) e
  where
    effect : Option Object → Effect
    effect found =
        with_some found a (λ object. record { state = weak_made a target object place; reply = replies.New place })

    split : (found : Option Object) → (effect found).reply ≡ replies.New base
        → IsMadeAt (effect found).state (length a.objects) base target
    split None r = cc
    split (Some object) r =
        let same : place ≡ base = cc in
        subst (λ n. IsMadeAt (weak_made a target object place) (length a.objects) n target) same
        (made_at-weak_made a target object place)

made_at-makes : (a : State) (target : ℕ) (partner : Option ℕ) (log : List Line) (effect : Effect) (base : ℕ)
    → MakesWeak a target partner log effect → effect.reply ≡ replies.New base
    → IsMadeAt effect.state (length a.objects) base target
made_at-makes a target (Some weak) log effect base m e =
    absurd (none (slice_get a.objects weak) (sym (ap (λ (f : Effect). f.reply) m.effect_is) ∙ e))
  where
    none : (found : Option Object)
        → (with_some found a (λ object. pushes (reference object.base weak) a)).reply ≡ replies.New base → ⊥
    none None r = cc
    none (Some object) r = cc
made_at-makes a target None log effect base m e =
    subst (λ n. IsMadeAt effect.state n base target)
    (length-searched a _ _ log m.state m.found m.search)
    (subst (λ (f : Effect). IsMadeAt f.state (length m.state.objects) base target) (sym m.effect_is)
    (made_at-weak_effect m.state target m.found base (sym (ap (λ (f : Effect). f.reply) m.effect_is) ∙ e)))

pub stack-ended : (a : State) (full : Bool) (log : List Line) (b : State) → Ends a full log b → b.stack ≡ a.stack
stack-ended a full log b (Refused_as_full is none same) = ap (λ (s : State). s.stack) same
stack-ended a full log b (Below_threshold is below none same) = ap (λ (s : State). s.stack) same
stack-ended a full log b (At_threshold is above reaps) = ap (λ (s : State). s.stack) reaps.state

pub made_at-step : (a : State) (i target : ℕ) (group before : List Line) (base : ℕ) (b : State)
    → IsStep a (commands.Weak i) group b → group ≡ before ++ lines.Reply (replies.New base) ∷ []
    → meant_at a i ≡ Some target → IsMadeAt b (length a.objects) base target
made_at-step a i target group before base b step written means = split (refusal a (commands.Weak i)) step
  where
    split : (because : Option Refusal) → IsStepUnless because a (commands.Weak i) group b
        → IsMadeAt b (length a.objects) base target
    split (Some because) m =
        let last = last_alike [] before _ _ (sym m.group_is ∙ written) in cc
    split None m =
        let reply = lines.Reply m.effect.reply in
        let last : reply ≡ lines.Reply (replies.New base) =
        last_alike (m.log ++ m.end_log) before _ _ (sym m.group_is ∙ written) in
        let new : m.effect.reply ≡ replies.New base = cc in
        let is = m.carries.target_is in
        let same : m.carries.target ≡ target = cc in
        let first =
        made_at-makes a m.carries.target m.carries.object.partner m.log m.effect base m.carries.makes new in
        let keeps = keeps-then m.effect.state m.end b (keeps-ended m.effect.state _ m.end_log m.end m.ends)
        (keeps-one_more m.end b m.state_is) in
        let stack : b.stack ≡ m.effect.state.stack =
        ap (λ (s : State). s.stack) m.state_is ∙ stack-ended m.effect.state _ m.end_log m.end m.ends in
        subst (IsMadeAt b (length a.objects) base) same
        (made_at-kept m.effect.state b (length a.objects) base m.carries.target keeps stack first)

-- a new weak reference is made for what the cell means
pub made_for-weak : (a : State) (i target : ℕ) (group before : List Line) (base : ℕ) (b : State)
    → IsStep a (commands.Weak i) group b → group ≡ before ++ lines.Reply (replies.New base) ∷ []
    → meant_at a i ≡ Some target → IsMadeFor b (length a.objects) target
made_for-weak a i target group before base b step written means =
    (made_at-step a i target group before base b step written means).made

-- and lives at the base that the reply tells
pub lives-weak : (a : State) (i target : ℕ) (group before : List Line) (base : ℕ) (b : State) → IsGood a
    → IsStep a (commands.Weak i) group b
    → group ≡ before ++ lines.Reply (replies.New base) ∷ [] → meant_at a i ≡ Some target
    → (weak : Object) × Lives b (length a.objects) weak × (weak.base ≡ base)
lives-weak a i target group before base b good step written means =
    let one = made_at-step a i target group before base b step written means in
    let weak = lives-reference b 0 (length a.objects) (reference base (length a.objects))
    (step_is_good a (commands.Weak i) group b good step) one.top refl in
    (weak.0, weak.1, one.place weak.0 weak.1.is)

module _ (a : State) (weak target : ℕ) (object : Object) (good : IsGood a) (made : IsMadeFor a weak target)
    (lives : Lives a weak object) where
  abbrev reply : Reply
  reply = (look_effect a object.partner).reply

  of_target : IsTarget a object target
  of_target =
      let first = made.is in
      let second = lives.is in
      let same : made.object ≡ object = cc in
      subst (λ o. IsTarget a o target) same made.of_target

  -- a partner lives
  paired : object.partner ≡ Some target → IsPaired a weak object target
  paired is = subst (λ p. IfSome p (IsPaired a weak object)) is (good.paired weak object lives)

  look-partner : (t : Object) → object.partner ≡ Some target → Lives a target t → reply ≡ replies.Word t.base
  look-partner t is there =
      ap (λ p. (look_effect a p).reply) is
      ∙ ap (λ found. (with_some found a (λ o. pushes (reference o.base target) a)).reply) there.is

  based : (t : Object) → Lives a target t → t.base ≢ 0
  based t there e = let from = lives_from_page_1 a good.placed target t there in omega arith

  pub look-gone : IsGone a target → reply ≡ replies.Word 0
  look-gone gone = split of_target
    where
      split : IsTarget a object target → reply ≡ replies.Word 0
      split (Partner is) = let pair = paired is in absurd (gone_lives_not a target gone pair.partner pair.lives)
      split (Freed none freed) = ap (λ p. (look_effect a p).reply) none

  pub gone-look : reply ≡ replies.Word 0 → IsGone a target
  gone-look e = split of_target
    where
      split : IsTarget a object target → IsGone a target
      split (Partner is) =
          let pair = paired is in
          let word = sym (look-partner pair.partner is pair.lives) ∙ e in
          let zero : pair.partner.base ≡ 0 = cc in
          absurd (based pair.partner pair.lives zero)
      split (Freed none freed) = freed

  pub look-lives : (t : Object) → Lives a target t → (reply ≡ replies.Word t.base) × (t.base ≢ 0)
  look-lives t there = (split of_target, based t there)
    where
      split : IsTarget a object target → reply ≡ replies.Word t.base
      split (Partner is) = look-partner t is there
      split (Freed none freed) = absurd (gone_lives_not a target freed t there)

  pub gone_or_lives : IsGone a target ⊎ ((t : Object) × Lives a target t)
  gone_or_lives = split of_target
    where
      split : IsTarget a object target → IsGone a target ⊎ ((t : Object) × Lives a target t)
      split (Partner is) = let pair = paired is in inr (pair.partner, pair.lives)
      split (Freed none freed) = inl freed
