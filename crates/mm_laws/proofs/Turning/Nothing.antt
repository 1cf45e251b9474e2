-- A command that can answer `nothing` can't be refused as `nothing`, so commands and bytes determine the lines.
use Rattle.std.proofs.Common.{◌≡◌, ℕ, ◌+◌, Bool, true, false, not, ◌&&◌, List, [], ◌∷◌, ◌++◌, Option, Some, None, refl}
use Rattle.std.proofs.Common.{sym, ap, ◌∙◌, subst, ◌⊎◌, ⊎_elim, inl, inr, length}
use Rattle.std.specs.Prelude.{IfSome, slice_get, nat_le, if◌then◌else◌}
use Rattle.std.specs.List.{list_all}
use Rattle.std.specs.Option.{option_map_or}
use Rattle.mm_model.specs.declared.command.Command.{Command}
use Rattle.mm_model.specs.declared.command.Command.TheVariants as commands
use Rattle.mm_model.specs.declared.object.Shape.{Shape}
use Rattle.mm_model.specs.declared.refusal.Refusal.{Refusal}
use Rattle.mm_model.specs.declared.refusal.Refusal.TheVariants as refusals
use Rattle.mm_model.specs.declared.reply.Reply.{Reply}
use Rattle.mm_model.specs.declared.reply.Reply.TheVariants as replies
use Rattle.mm_model.specs.declared.line.Line.{Line}
use Rattle.mm_model.specs.declared.line.Line.TheVariants as lines
use Rattle.mm_model.specs.Value.{reference}
use Rattle.mm_model.specs.Object.{Object}
use Rattle.mm_model.specs.State.{State}
use Rattle.mm_model.specs.Words.{slot_kind}
use Rattle.mm_model.specs.Store.{is_loose}
use Rattle.mm_model.specs.Meaning.{meant_at, object_meant}
use Rattle.mm_model.specs.Good.{IsPaired, IsGood}
use Rattle.mm_model.specs.Effect.{Effect, with_some, pushes, put_effect, look_effect, weak_effect, weak_made}
use Rattle.mm_model.specs.Effect.{new_effect, area_effect, pushes_object, plain_effect}
use Rattle.mm_model.specs.Refusing.{tests_of, first_refusal, refusal_row, refusal, no_cell, means_nothing, has_no_slot}
use Rattle.mm_model.specs.Refusing.{is_outside, means_weak, is_stack_full}
use Rattle.mm_model.specs.Step.{MakesWeak, Carries, IsCarriedOut, IsStepUnless, IsStep}
use Rattle.mm_model.specs.Logs.Log.{IsRun}
use Rattle.mm_model.specs.Logs.Turns.{is_group, reply_in}
use Rattle.mm_model.proofs.Good.Meanings.{is_meant}
use Rattle.mm_model.proofs.Good.Allowed.{all_allowed, found_some}
use Rattle.mm_model.proofs.Good.Steps.{step_is_good}
use Rattle.mm_model.proofs.Lists.Truth.{no_other}
use Rattle.mm_laws.specs.Lines.{AreNothing, AreAlike}
use Rattle.mm_laws.proofs.Keeping.FollowingSteps.{keeps-searched, strong-allowed}
use Rattle.mm_model.proofs.Steps.Determining.{one_group_leads_to_one_state}
use Rattle.mm_laws.proofs.Turning.Knowing.{get-within, put-allowed}
use Rattle.mm_laws.proofs.Turning.PlainReplies.{IsQuietReply, object-replies, plain-replies}
use Rattle.mm_laws.proofs.Turning.Replies.{group-step, reply-carried}

abbrev is_nothing : Refusal → Bool
is_nothing refusals.Nothing = true
is_nothing because = false

-- the commands that are refused where a cell means nothing
abbrev wants_object : Command → Bool
wants_object (commands.Inner i bytes) = true
wants_object (commands.Get i s) = true
wants_object (commands.Put i s j) = true
wants_object (commands.Weak i) = true
wants_object (commands.Look i) = true
wants_object command = false

first-in : (rows : List (Bool × Refusal)) → list_all (λ row. not (is_nothing row.1)) rows ≡ true
    → first_refusal rows ≡ Some refusals.Nothing → ⊥
first-in [] e f = cc
first-in ((true, because) ∷ rows) e f =
    let same : because ≡ refusals.Nothing = cc in
    clash (is_nothing because) (list_all (λ row. not (is_nothing row.1)) rows) e (ap is_nothing same)
  where
    clash : (b c : Bool) → (not b && c) ≡ true → b ≡ true → ⊥
    clash true c p q = cc
    clash false c p q = cc
first-in ((false, because) ∷ rows) e f =
    first-in rows (later (not (is_nothing because)) (list_all (λ row. not (is_nothing row.1)) rows) e) f
  where
    later : (b c : Bool) → (b && c) ≡ true → c ≡ true
    later true c p = p
    later false c p = cc

-- no other command is refused so
refused-wants : (a : State) (command : Command) → refusal a command ≡ Some refusals.Nothing
    → wants_object command ≡ true
refused-wants a (commands.Inner i bytes) e = refl
refused-wants a (commands.Get i s) e = refl
refused-wants a (commands.Put i s j) e = refl
refused-wants a (commands.Weak i) e = refl
refused-wants a (commands.Look i) e = refl
refused-wants a command e = absurd (first-in (refusal_row (tests_of a) command) refl e)

-- a command that is carried out isn't refused so
abbrev is_refused_nothing : Reply → Bool
is_refused_nothing (replies.Refused refusals.Nothing) = true
is_refused_nothing reply = false

refused_quiet : IsQuietReply is_refused_nothing
refused_quiet =
    record {
      done = refl;
      loose = refl;
      word = λ _. refl;
      nothing = refl;
      object = λ _. refl;
      stat = λ _. refl;
    }

new-refused : (a : State) (shape : Shape) (found : Option ℕ)
    → is_refused_nothing (new_effect a shape found).reply ≡ false
new-refused a shape None = refl
new-refused a shape (Some base) = refl

area-refused : (a : State) (scanned : Bool) (counted cells : ℕ) (found : Option ℕ)
    → is_refused_nothing (area_effect a scanned counted cells found).reply ≡ false
area-refused a scanned counted cells None = refl
area-refused a scanned counted cells (Some base) = refl

weak-refused : (a : State) (target : ℕ) (found : Option ℕ)
    → is_refused_nothing (weak_effect a target found).reply ≡ false
weak-refused a target None = refl
weak-refused a target (Some base) = split (slice_get a.objects target)
  where
    split : (o : Option Object)
        → is_refused_nothing
        (with_some o a (λ x. record { state = weak_made a target x base; reply = replies.New base })).reply ≡ false
    split None = refl
    split (Some x) = refl

makes_weak-refused : (a : State) (target : ℕ) (partner : Option ℕ) (log : List Line) (effect : Effect)
    → MakesWeak a target partner log effect → is_refused_nothing effect.reply ≡ false
makes_weak-refused a target (Some weak) log effect m =
    ap (λ (e : Effect). is_refused_nothing e.reply) m.effect_is
    ∙ object-replies is_refused_nothing refused_quiet a weak
makes_weak-refused a target None log effect m =
    ap (λ (e : Effect). is_refused_nothing e.reply) m.effect_is ∙ weak-refused m.state target m.found

carried-refusal : (a : State) (command : Command) (log : List Line) (effect : Effect) → Carries a command log effect
    → is_refused_nothing effect.reply ≡ false
carried-refusal a (commands.New shape) log effect m =
    ap (λ (e : Effect). is_refused_nothing e.reply) m.effect_is ∙ new-refused m.state shape m.found
carried-refusal a (commands.Weak i) log effect m =
    makes_weak-refused a m.target m.object.partner log effect m.makes
carried-refusal a (commands.Root counted cells) log effect m =
    ap (λ (e : Effect). is_refused_nothing e.reply) m.effect_is ∙ area-refused m.state true counted cells m.found
carried-refusal a (commands.Fixed cells) log effect m =
    ap (λ (e : Effect). is_refused_nothing e.reply) m.effect_is ∙ area-refused m.state false 0 cells m.found
carried-refusal a commands.Reap log effect m = ap is_refused_nothing m.1
carried-refusal a commands.Collect log effect m = ap is_refused_nothing m.1
carried-refusal a (commands.Step k) log effect m = ap is_refused_nothing m.1
carried-refusal a commands.Finish log effect m = ap is_refused_nothing m.1
carried-refusal a command log effect m =
    ap (λ (e : Effect). is_refused_nothing e.reply) m.effect_is
    ∙ plain-replies is_refused_nothing refused_quiet a command

abbrev is_answer : Reply → Bool
is_answer replies.Nothing = true
is_answer reply = false

-- what is there answers
some-answer : {X : Type 0} (found : Option X) (a : State) (effect : X → Effect) (x : X) → found ≡ Some x
    → is_answer (effect x).reply ≡ false → is_answer (with_some found a effect).reply ≡ false
some-answer found a effect x e h = ap (λ o. is_answer (with_some o a effect).reply) e ∙ h

object-answer : (a : State) (birth : ℕ) (object : Object) → slice_get a.objects birth ≡ Some object
    → is_answer (pushes_object a birth).reply ≡ false
object-answer a birth object is =
    some-answer (slice_get a.objects birth) a (λ (x : Object). pushes (reference x.base birth) a) object is refl

-- the partner of what a cell means is there
partner-there : (a : State) → IsGood a → (i : ℕ) (object : Object) → object_meant a i ≡ Some object → (other : ℕ)
    → object.partner ≡ Some other → (x : Object) × (slice_get a.objects other ≡ Some x)
partner-there a good i object means other is =
    let one = is_meant a good i object means in
    let pair = subst (λ p. IfSome p (IsPaired a one.0 object)) is (good.paired one.0 object one.1.lives) in
    (pair.partner, pair.lives.is)

module _ (a : State) (good : IsGood a) where
  -- the four tests of a row that wants an object
  meant : (i : ℕ) (third fourth : Bool) (because : Refusal)
      → first_refusal ((no_cell a i, refusals.NoCell) ∷ (means_nothing a i, refusals.Nothing) ∷ (third, because)
      ∷ (fourth, refusals.StackFull) ∷ []) ≡ None
      → (object : Object) × (object_meant a i ≡ Some object)
  meant i third fourth because allowed =
      found_some (object_meant a i)
      (all_allowed (no_cell a i) (means_nothing a i) third fourth refusals.NoCell refusals.Nothing because
      refusals.StackFull allowed).second_is

  inner-answer : (i bytes : ℕ) → refusal a (commands.Inner i bytes) ≡ None
      → is_answer (plain_effect a (commands.Inner i bytes)).reply ≡ false
  inner-answer i bytes allowed =
      let found = meant i (is_outside a i bytes) (is_stack_full a) refusals.Outside allowed in
      let one = is_meant a good i found.0 found.1 in
      some-answer (slice_get a.stack i) a (λ v. pushes (record v { word = v.word + bytes }) a) one.1.value one.1.cell
      refl

  get-answer : (i s : ℕ) → refusal a (commands.Get i s) ≡ None
      → is_answer (plain_effect a (commands.Get i s)).reply ≡ false
  get-answer i s allowed =
      let found = meant i (has_no_slot a i s) (is_stack_full a) refusals.NoSlot allowed in
      let row = all_allowed (no_cell a i) (means_nothing a i) (has_no_slot a i s) (is_stack_full a) refusals.NoCell
      refusals.Nothing refusals.NoSlot refusals.StackFull allowed in
      let slot = get-within found.0.slots s
      (sym (ap (λ o. option_map_or (λ (x : Object). nat_le (length x.slots) s) o false) found.1) ∙ row.third_is) in
      some-answer (object_meant a i) a (λ (x : Object). with_some (slice_get x.slots s) a (λ v. pushes v a)) found.0
      found.1 (some-answer (slice_get found.0.slots s) a (λ v. pushes v a) slot.0 slot.1 refl)

  put-answer : (i s j : ℕ) → refusal a (commands.Put i s j) ≡ None
      → is_answer (plain_effect a (commands.Put i s j)).reply ≡ false
  put-answer i s j allowed =
      let put = put-allowed a i s j allowed in
      some-answer (meant_at a i) a
      (λ birth. with_some (slice_get a.objects birth) a
      (λ object. with_some (slice_get a.stack j) a (put_effect a birth object s))) put.birth put.means
      (some-answer (slice_get a.objects put.birth) a
      (λ object. with_some (slice_get a.stack j) a (put_effect a put.birth object s)) put.object put.is
      (some-answer (slice_get a.stack j) a (put_effect a put.birth put.object s) put.value put.cell
      (stored (is_loose a (slot_kind put.object s) put.value.word))))
    where
      stored : (b : Bool) → is_answer (if b then replies.Loose else replies.Done) ≡ false
      stored true = refl
      stored false = refl

  look-answer : (i : ℕ) → refusal a (commands.Look i) ≡ None
      → is_answer (plain_effect a (commands.Look i)).reply ≡ false
  look-answer i allowed =
      let found = meant i (not (means_weak a i)) (is_stack_full a) refusals.NoWeak allowed in
      some-answer (object_meant a i) a (λ (x : Object). look_effect a x.partner) found.0 found.1
      (split found.0 found.1 found.0.partner refl)
    where
      split : (object : Object) → object_meant a i ≡ Some object → (partner : Option ℕ) → object.partner ≡ partner
          → is_answer (look_effect a object.partner).reply ≡ false
      split object means None e = ap (λ p. is_answer (look_effect a p).reply) e
      split object means (Some other) e =
          let there = partner-there a good i object means other e in
          ap (λ p. is_answer (look_effect a p).reply) e ∙ object-answer a other there.0 there.1

  weak-answer : (i : ℕ) (group : List Line) (b : State) → refusal a (commands.Weak i) ≡ None
      → (m : IsCarriedOut a (commands.Weak i) group b) → is_answer m.effect.reply ≡ false
  weak-answer i group b allowed m = split m.carries.object.partner refl m.carries.makes
    where
      split : (partner : Option ℕ) → m.carries.object.partner ≡ partner
          → MakesWeak a m.carries.target partner m.log m.effect → is_answer m.effect.reply ≡ false
      split (Some weak) e makes =
          let there = partner-there a good i m.carries.object m.carries.object_is weak e in
          ap (λ (x : Effect). is_answer x.reply) makes.effect_is ∙ object-answer a weak there.0 there.1
      split None e makes =
          let own = strong-allowed a i m.carries.target m.carries.object allowed m.carries.target_is m.carries.object_is
          in
          let one = keeps-searched a _ _ m.log makes.state makes.found makes.search m.carries.target m.carries.object
          own.is in
          ap (λ (x : Effect). is_answer x.reply) makes.effect_is ∙ by_place makes.state makes.found one.after one.is
        where
          by_place : (mid : State) (found : Option ℕ) (object : Object)
              → slice_get mid.objects m.carries.target ≡ Some object
              → is_answer (weak_effect mid m.carries.target found).reply ≡ false
          by_place mid None object is = refl
          by_place mid (Some base) object is =
              some-answer (slice_get mid.objects m.carries.target) mid
              (λ x. record { state = weak_made mid m.carries.target x base; reply = replies.New base }) object is refl

  -- a command that wants an object never answers `nothing`
  carried-answer : (command : Command) (group : List Line) (b : State) → wants_object command ≡ true
      → refusal a command ≡ None → (m : IsCarriedOut a command group b) → is_answer m.effect.reply ≡ false
  carried-answer (commands.Inner i bytes) group b wants allowed m =
      ap (λ (x : Effect). is_answer x.reply) m.carries.effect_is ∙ inner-answer i bytes allowed
  carried-answer (commands.Get i s) group b wants allowed m =
      ap (λ (x : Effect). is_answer x.reply) m.carries.effect_is ∙ get-answer i s allowed
  carried-answer (commands.Put i s j) group b wants allowed m =
      ap (λ (x : Effect). is_answer x.reply) m.carries.effect_is ∙ put-answer i s j allowed
  carried-answer (commands.Weak i) group b wants allowed m = weak-answer i group b allowed m
  carried-answer (commands.Look i) group b wants allowed m =
      ap (λ (x : Effect). is_answer x.reply) m.carries.effect_is ∙ look-answer i allowed
  carried-answer command group b wants allowed m = cc

-- so one command isn't answered so in one state and refused so in another
pub answered_or_refused : (a b c d : State) (command : Command) (group other : List Line) → IsGood a
    → IsStep a command group b → IsStep c command other d → reply_in group ≡ Some replies.Nothing
    → reply_in other ≡ Some (replies.Refused refusals.Nothing) → ⊥
answered_or_refused a b c d command group other good step also answer refused =
    split (refusal a command) refl step (by_refusal (refusal c command) refl also)
  where
    by_refusal : (because : Option Refusal) → refusal c command ≡ because → IsStepUnless because c command other d
        → wants_object command ≡ true
    by_refusal (Some because) e m =
        let told = sym (ap reply_in m.group_is) ∙ refused in
        let same : because ≡ refusals.Nothing = cc in
        refused-wants c command (e ∙ ap (λ (r : Refusal). Some r) same)
    by_refusal None e m =
        let told = sym (reply-carried c command other d m) ∙ refused in
        let same : m.effect.reply ≡ replies.Refused refusals.Nothing = cc in
        absurd (no_other (carried-refusal c command m.log m.effect m.carries) (ap is_refused_nothing same))

    split : (because : Option Refusal) → refusal a command ≡ because → IsStepUnless because a command group b
        → wants_object command ≡ true → ⊥
    split (Some because) e m wants = let told = sym (ap reply_in m.group_is) ∙ answer in cc
    split None e m wants =
        let told = sym (reply-carried a command group b m) ∙ answer in
        let same : m.effect.reply ≡ replies.Nothing = cc in
        no_other (carried-answer a good command group b wants e m) (ap is_answer same)

alike-line : (x y : Line) → (x ≡ y) ⊎ AreNothing x y
    → (reply_in (x ∷ []) ≡ Some replies.Nothing → reply_in (y ∷ []) ≡ Some (replies.Refused refusals.Nothing) → ⊥)
    → (reply_in (y ∷ []) ≡ Some replies.Nothing → reply_in (x ∷ []) ≡ Some (replies.Refused refusals.Nothing) → ⊥)
    → x ≡ y
alike-line x y (inl e) f g = e
alike-line x y (inr (inl (p, q))) f g = absurd (f (ap (λ l. reply_in (l ∷ [])) p) (ap (λ l. reply_in (l ∷ [])) q))
alike-line x y (inr (inr (p, q))) f g = absurd (g (ap (λ l. reply_in (l ∷ [])) q) (ap (λ l. reply_in (l ∷ [])) p))

abbrev is_reply : Line → Bool
is_reply (lines.Reply reply) = true
is_reply line = false

nothing-replies : (x y : Line) → AreNothing x y → is_reply x ≡ true
nothing-replies x y (inl (p, q)) = ap is_reply p
nothing-replies x y (inr (p, q)) = ap is_reply p

nothing-sym : (x y : Line) → AreNothing x y → AreNothing y x
nothing-sym x y (inl (p, q)) = inr (q, p)
nothing-sym x y (inr (p, q)) = inl (q, p)

-- Groups in front of lines that are alike are the same, unless one answers `nothing` and the other is refused so.
groups-alike : (group other rest more : List Line) → is_group group ≡ true → is_group other ≡ true
    → AreAlike (group ++ rest) (other ++ more)
    → (reply_in group ≡ Some replies.Nothing → reply_in other ≡ Some (replies.Refused refusals.Nothing) → ⊥)
    → (reply_in other ≡ Some replies.Nothing → reply_in group ≡ Some (replies.Refused refusals.Nothing) → ⊥)
    → (group ≡ other) × AreAlike rest more
groups-alike [] other rest more p q h f g = cc
groups-alike (x ∷ group) [] rest more p q h f g = cc
groups-alike (lines.Reply reply ∷ []) (lines.Reply answer ∷ []) rest more p q h f g =
    (ap (λ (l : Line). l ∷ []) (alike-line (lines.Reply reply) (lines.Reply answer) h.0 f g), h.1)
groups-alike (lines.Reply reply ∷ []) (lines.Reply answer ∷ y ∷ other) rest more p q h f g = cc
groups-alike (lines.Reply reply ∷ []) (y ∷ other) rest more p q h f g =
    absurd
    (⊎_elim (λ (l : lines.Reply reply ≡ y). let same : true ≡ is_reply y = ap is_reply l in no_other refl (sym same))
    (λ (n : AreNothing (lines.Reply reply) y).
    no_other refl (nothing-replies y (lines.Reply reply) (nothing-sym (lines.Reply reply) y n))) h.0)
groups-alike (lines.Reply reply ∷ x ∷ group) (y ∷ other) rest more p q h f g = cc
groups-alike (x ∷ group) (y ∷ other) rest more p q h f g =
    let same : x ≡ y =
    ⊎_elim (λ (l : x ≡ y). l) (λ (n : AreNothing x y). absurd (no_other refl (nothing-replies x y n))) h.0 in
    let later = groups-alike group other rest more p (subst (λ l. is_group (l ∷ other) ≡ true) (sym same) q) h.1
    (λ e r. f e (subst (λ l. reply_in (l ∷ other) ≡ Some (replies.Refused refusals.Nothing)) same r))
    (λ e r. g (subst (λ l. reply_in (l ∷ other) ≡ Some replies.Nothing) same e) r) in
    (ap (λ (l : Line). l ∷ group) same ∙ ap (λ (ls : List Line). y ∷ ls) later.0, later.1)

none-alike : (log other : List Line) → log ≡ [] → other ≡ [] → log ≡ other
none-alike log other p q = p ∙ sym q

-- the lines of a run are determined by its commands and what their lines are alike to
pub runs-alike : (a : State) (commands : List Command) (log other : List Line) (b c : State) → IsGood a
    → IsRun IsStep a commands log b → IsRun IsStep a commands other c → AreAlike log other → log ≡ other
runs-alike a [] log other b c good run also h = none-alike log other run.0 also.0
runs-alike a (command ∷ commands) log other b c good run also h =
    let own = groups-alike run.0 also.0 run.1 also.1 (group-step a command run.0 run.2 run.4)
    (group-step a command also.0 also.2 also.4)
    (subst (λ l. AreAlike l (also.0 ++ also.1)) run.3 (subst (AreAlike log) also.3 h))
    (answered_or_refused a run.2 a also.2 command run.0 also.0 good run.4 also.4)
    (answered_or_refused a also.2 a run.2 command also.0 run.0 good also.4 run.4) in
    let next : run.2 ≡ also.2 =
    one_group_leads_to_one_state a command also.0 run.2 also.2 good
    (subst (λ g. IsStep a command g run.2) own.0 run.4) also.4 in
    let rest = runs-alike run.2 commands run.1 also.1 b c (step_is_good a command run.0 run.2 good run.4) run.5
    (subst (λ s. IsRun IsStep s commands also.1 c) (sym next) also.5) own.1 in
    run.3 ∙ ap (λ (g : List Line). g ++ run.1) own.0 ∙ ap (λ (ls : List Line). also.0 ++ ls) rest ∙ sym also.3
