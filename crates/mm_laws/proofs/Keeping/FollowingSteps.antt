-- Every step keeps objects under their birth numbers, and weak references with their targets.
use Rattle.std.proofs.Common.{◌≡◌, ℕ, Bool, true, false, List, [], ◌∷◌, length, Option, Some, None, refl, sym, ap, ◌∙◌}
use Rattle.std.proofs.Common.{subst}
use Rattle.std.proofs.lemmas.List.{length-map}
use Rattle.std.specs.Prelude.{slice_get}
use Rattle.std.specs.Option.{option_and_then, option_map_or}
use Rattle.mm_model.specs.declared.command.Command.{Command}
use Rattle.mm_model.specs.declared.command.Command.TheVariants as commands
use Rattle.mm_model.specs.declared.object.Shape.{Shape}
use Rattle.mm_model.specs.declared.refusal.Refusal.{Refusal}
use Rattle.mm_model.specs.declared.refusal.Refusal.TheVariants as refusals
use Rattle.mm_model.specs.declared.reply.Reply.TheVariants as replies
use Rattle.mm_model.specs.declared.line.Line.{Line}
use Rattle.mm_model.specs.Object.{Object, newborn, is_weak}
use Rattle.mm_model.specs.State.{State, one_more_command}
use Rattle.mm_model.specs.Places.Place.{Family, Objects}
use Rattle.mm_model.specs.Places.SizeClass.{object_bytes}
use Rattle.mm_model.specs.Meaning.{meant_at, object_meant}
use Rattle.mm_model.specs.Sets.Marking.{part_done}
use Rattle.mm_model.specs.Phase.{reaped, collected}
use Rattle.mm_model.specs.Places.Search.{Searches, At_once, After_reap, After_collection}
use Rattle.mm_model.specs.Sets.Scan.{AreScanned}
use Rattle.mm_model.specs.Effect.{Effect, with_some, new_effect, weak_effect, area_effect, weak_made, pushes_object}
use Rattle.mm_model.specs.Effect.{plain_effect}
use Rattle.mm_model.specs.Refusing.{refusal, no_cell, means_nothing, means_weak, is_stack_full}
use Rattle.mm_model.specs.Logs.Log.{IsRun}
use Rattle.mm_model.specs.Step.{IsPlain, Makes, MakesWeak, Reaps, Carries, Ends, Refused_as_full, Below_threshold}
use Rattle.mm_model.specs.Step.{At_threshold, IsStepUnless, IsStep}
use Rattle.mm_model.proofs.Good.Allowed.{all_allowed}
use Rattle.mm_model.specs.WeakReferences.{IsMadeFor}
use Rattle.mm_laws.proofs.Keeping.Following.{Keeps, marks, made_for-kept, keeps-then, keeps-same_marks, keeps-same}
use Rattle.mm_laws.proofs.Keeping.Following.{keeps-more, keeps-weak_made, keeps-released}
use Rattle.mm_laws.proofs.Keeping.Seeing.{same-object, same-plain}

keeps-reaped : (a : State) (dead : List ℕ) → Keeps a (reaped dead a)
keeps-reaped a dead = keeps-released a (reaped dead a) dead refl

keeps-collected : (a : State) (lost : List ℕ) → Keeps a (collected lost a)
keeps-collected a lost = keeps-released a (collected lost a) lost refl

pub keeps-searched : (a : State) (family : Family) (bytes : ℕ) (log : List Line) (b : State) (found : Option ℕ)
    → Searches a family bytes log b found → Keeps a b
keeps-searched a family bytes log b found (At_once base place lines same is) =
    subst (Keeps a) (sym same) (keeps-same a a refl)
keeps-searched a family bytes log b found (After_reap base dead none reapable place lines same is) =
    subst (Keeps a) (sym same) (keeps-reaped a dead)
keeps-searched a family bytes log b found (After_collection dead lost none reapable no_place unreached lines same is) =
    subst (Keeps a) (sym same)
    (keeps-then a (reaped dead a) (collected lost (reaped dead a)) (keeps-reaped a dead)
    (keeps-collected (reaped dead a) lost))

-- a search bears no object
pub length-searched : (a : State) (family : Family) (bytes : ℕ) (log : List Line) (b : State) (found : Option ℕ)
    → Searches a family bytes log b found → length b.objects ≡ length a.objects
length-searched a family bytes log b found (At_once base place lines same is) =
    ap (λ (s : State). length s.objects) same
length-searched a family bytes log b found (After_reap base dead none reapable place lines same is) =
    ap (λ (s : State). length s.objects) same ∙ length-map a.objects _
length-searched a family bytes log b found (After_collection dead lost none reapable no_place unreached lines same is) =
    ap (λ (s : State). length s.objects) same ∙ length-map (reaped dead a).objects _ ∙ length-map a.objects _

keeps-new : (a : State) (shape : Shape) (found : Option ℕ) → Keeps a (new_effect a shape found).state
keeps-new a shape None = keeps-same a _ refl
keeps-new a shape (Some base) = keeps-more a _ (newborn shape base ∷ []) refl

keeps-area : (a : State) (scanned : Bool) (counted cells : ℕ) (found : Option ℕ)
    → Keeps a (area_effect a scanned counted cells found).state
keeps-area a scanned counted cells None = keeps-same a _ refl
keeps-area a scanned counted cells (Some base) = keeps-same a _ refl

-- where the target isn't a weak reference
keeps-weak : (a : State) (target : ℕ) (object : Object) (found : Option ℕ) → slice_get a.objects target ≡ Some object
    → is_weak object.kind ≡ false → Keeps a (weak_effect a target found).state
keeps-weak a target object None is strong = keeps-same a _ refl
keeps-weak a target object (Some base) is strong =
    subst
    (λ (o : Option Object).
    Keeps a (with_some o a (λ x. record { state = weak_made a target x base; reply = replies.New base })).state)
    (sym is) (keeps-weak_made a target object base is strong)

keeps-makes : (a : State) (family : Family) (bytes : ℕ) (after : State → Option ℕ → Effect) (log : List Line)
    (effect : Effect) → Makes a family bytes after log effect
    → ((b : State) (found : Option ℕ) → Keeps a b → Keeps b (after b found).state) → Keeps a effect.state
keeps-makes a family bytes after log effect m f =
    let first = keeps-searched a family bytes log m.state m.found m.search in
    subst (λ (e : Effect). Keeps a e.state) (sym m.effect_is)
    (keeps-then a m.state (after m.state m.found).state first (f m.state m.found first))

-- what a cell means that isn't refused for `weak`: an object that isn't a weak reference
pub record IsStrong (a : State) (target : ℕ) (object : Object) : Type 0 where
  pub is : slice_get a.objects target ≡ Some object
  pub strong : is_weak object.kind ≡ false

pub strong-allowed : (a : State) (i target : ℕ) (object : Object) → refusal a (commands.Weak i) ≡ None
    → meant_at a i ≡ Some target → object_meant a i ≡ Some object → IsStrong a target object
strong-allowed a i target object allowed target_is object_is =
    let row = all_allowed (no_cell a i) (means_nothing a i) (means_weak a i) (is_stack_full a)
    refusals.NoCell refusals.Nothing refusals.NoWeak refusals.StackFull allowed in
    record {
      is = sym (ap (option_and_then (slice_get a.objects)) target_is) ∙ object_is;
      strong = sym (ap (λ o. option_map_or (λ (x : Object). is_weak x.kind) o false) object_is) ∙ row.third_is;
    }

keeps-makes_weak : (a : State) (target : ℕ) (object : Object) → IsStrong a target object → (partner : Option ℕ)
    (log : List Line) (effect : Effect) → MakesWeak a target partner log effect → Keeps a effect.state
keeps-makes_weak a target object own (Some weak) log effect m =
    subst (λ (e : Effect). Keeps a e.state) (sym m.effect_is)
    (keeps-same_marks a (pushes_object a weak).state (same-object marks (λ _ _ _. refl) a weak))
keeps-makes_weak a target object own None log effect m =
    keeps-makes a Objects (object_bytes 0) (λ b found. weak_effect b target found) log effect m
    (λ b found keeps.
    let one = keeps target object own.is in
    keeps-weak b target one.after found one.is (ap is_weak one.kind ∙ own.strong))

keeps-plain : (a : State) (command : Command) (log : List Line) (effect : Effect)
    → IsPlain log effect (plain_effect a command) → Keeps a effect.state
keeps-plain a command log effect m =
    subst (λ (e : Effect). Keeps a e.state) (sym m.effect_is)
    (keeps-same_marks a (plain_effect a command).state
    (same-plain marks (λ _ _ _. refl) a command (λ _ _ _ _. refl)))

pub scanned-objects : (a : State) (births : List ℕ) (log : List Line) (b : State) → AreScanned a births log b
    → b.objects ≡ a.objects
scanned-objects a [] log b scanned = ap (λ (s : State). s.objects) scanned.1
scanned-objects a (birth ∷ births) log b scanned =
    scanned-objects (part_done a birth scanned.0) births scanned.1 b scanned.4

keeps-reaps : (a : State) (log : List Line) (b : State) → Reaps a log b → Keeps a b
keeps-reaps a log b m = subst (Keeps a) (sym m.state) (keeps-reaped a m.dead)

keeps-carried : (a : State) (command : Command) (log : List Line) (effect : Effect) → refusal a command ≡ None
    → Carries a command log effect → Keeps a effect.state
keeps-carried a (commands.New shape) log effect allowed m =
    keeps-makes a Objects (object_bytes shape.slots) (λ b found. new_effect b shape found) log effect m
    (λ b found keeps. keeps-new b shape found)
keeps-carried a (commands.Weak i) log effect allowed m =
    keeps-makes_weak a m.target m.object (strong-allowed a i m.target m.object allowed m.target_is m.object_is)
    m.object.partner log effect m.makes
keeps-carried a (commands.Root counted cells) log effect allowed m =
    keeps-makes a _ _ (λ b found. area_effect b true counted cells found) log effect m
    (λ b found keeps. keeps-area b true counted cells found)
keeps-carried a (commands.Fixed cells) log effect allowed m =
    keeps-makes a _ _ (λ b found. area_effect b false 0 cells found) log effect m
    (λ b found keeps. keeps-area b false 0 cells found)
keeps-carried a commands.Reap log effect allowed m = keeps-reaps a log effect.state m.0
keeps-carried a commands.Collect log effect allowed m =
    subst (Keeps a) (sym m.0.state) (keeps-collected a m.0.lost)
keeps-carried a (commands.Step k) log effect allowed m =
    keeps-same a effect.state (scanned-objects a m.0.births log effect.state m.0.scanned)
keeps-carried a commands.Finish log effect allowed m =
    subst (Keeps a) (sym m.0.state) (keeps-collected a m.0.lost)
keeps-carried a (commands.Push word) log effect allowed m = keeps-plain a (commands.Push word) log effect m
keeps-carried a (commands.Dup i) log effect allowed m = keeps-plain a (commands.Dup i) log effect m
keeps-carried a (commands.Pop k) log effect allowed m = keeps-plain a (commands.Pop k) log effect m
keeps-carried a (commands.Inner i d) log effect allowed m = keeps-plain a (commands.Inner i d) log effect m
keeps-carried a (commands.Get i s) log effect allowed m = keeps-plain a (commands.Get i s) log effect m
keeps-carried a (commands.Put i s j) log effect allowed m = keeps-plain a (commands.Put i s j) log effect m
keeps-carried a (commands.Look i) log effect allowed m = keeps-plain a (commands.Look i) log effect m
keeps-carried a (commands.DropArea n) log effect allowed m = keeps-plain a (commands.DropArea n) log effect m
keeps-carried a (commands.AreaGet n s) log effect allowed m = keeps-plain a (commands.AreaGet n s) log effect m
keeps-carried a (commands.AreaPut n s j) log effect allowed m = keeps-plain a (commands.AreaPut n s j) log effect m
keeps-carried a commands.Begin log effect allowed m = keeps-plain a commands.Begin log effect m
keeps-carried a (commands.Map i) log effect allowed m = keeps-plain a (commands.Map i) log effect m
keeps-carried a commands.Stat log effect allowed m = keeps-plain a commands.Stat log effect m

pub keeps-ended : (a : State) (full : Bool) (log : List Line) (b : State) → Ends a full log b → Keeps a b
keeps-ended a full log b (Refused_as_full is none same) = subst (Keeps a) (sym same) (keeps-same a a refl)
keeps-ended a full log b (Below_threshold is below none same) = subst (Keeps a) (sym same) (keeps-same a a refl)
keeps-ended a full log b (At_threshold is above reaps) = keeps-reaps a log b reaps

pub keeps-one_more : (a b : State) → b ≡ one_more_command a → Keeps a b
keeps-one_more a b is = subst (Keeps a) (sym is) (keeps-same a (one_more_command a) refl)

pub keeps-step : (a : State) (command : Command) (group : List Line) (b : State) → IsStep a command group b
    → Keeps a b
keeps-step a command group b step = split (refusal a command) refl step
  where
    split : (because : Option Refusal) → refusal a command ≡ because → IsStepUnless because a command group b
        → Keeps a b
    split (Some because) e m = keeps-one_more a b m.state_is
    split None e m =
        keeps-then a m.effect.state b (keeps-carried a command m.log m.effect e m.carries)
        (keeps-then m.effect.state m.end b (keeps-ended m.effect.state _ m.end_log m.end m.ends)
        (keeps-one_more m.end b m.state_is))

-- a weak reference follows its target through a step
pub made_for-step : (a : State) (command : Command) (group : List Line) (b : State) (weak target : ℕ)
    → IsStep a command group b → IsMadeFor a weak target → IsMadeFor b weak target
made_for-step a command group b weak target step = made_for-kept a b weak target (keeps-step a command group b step)

-- and through a list of steps
pub made_for-run : (a : State) (steps : List Command) (log : List Line) (b : State) (weak target : ℕ)
    → IsRun IsStep a steps log b → IsMadeFor a weak target → IsMadeFor b weak target
made_for-run a [] log b weak target run h = subst (λ s. IsMadeFor s weak target) (sym run.1) h
made_for-run a (command ∷ steps) log b weak target run h =
    made_for-run run.2 steps run.1 b weak target run.5 (made_for-step a command run.0 run.2 weak target run.4 h)
