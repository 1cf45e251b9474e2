-- What a command leaves of each view of objects that only births change: the objects before it, and the new one.
use Rattle.std.proofs.Common.{◌≡◌, ℕ, Bool, true, false, List, [], ◌∷◌, ◌++◌, map, length, Option, Some, None, refl}
use Rattle.std.proofs.Common.{sym, ap, ◌∙◌, subst}
use Rattle.std.proofs.lemmas.List.{append-nil, map-append}
use Rattle.std.specs.Prelude.{slice_get, slice_set}
use Rattle.mm_model.specs.declared.command.Command.{Command}
use Rattle.mm_model.specs.declared.command.Command.TheVariants as commands
use Rattle.mm_model.specs.declared.object.Shape.{Shape}
use Rattle.mm_model.specs.declared.refusal.Refusal.TheVariants as refusals
use Rattle.mm_model.specs.declared.reply.Reply.{Reply}
use Rattle.mm_model.specs.declared.reply.Reply.TheVariants as replies
use Rattle.mm_model.specs.declared.line.Line.{Line}
use Rattle.mm_model.specs.Places.Place.{Family}
use Rattle.mm_model.specs.Value.{Value}
use Rattle.mm_model.specs.Object.{Object, newborn}
use Rattle.mm_model.specs.State.{State}
use Rattle.mm_model.specs.Count.{made_sticky}
use Rattle.mm_model.specs.Meaning.{meant_at}
use Rattle.mm_model.specs.Phase.{after_release, reaped, collected}
use Rattle.mm_model.specs.Store.{with_slot}
use Rattle.mm_model.specs.Places.Search.{Searches, At_once, After_reap, After_collection}
use Rattle.mm_model.specs.Effect.{Effect, with_some, weak_shape, weak_made, new_effect, weak_effect, area_effect}
use Rattle.mm_model.specs.Effect.{pushes, pushes_object, plain_effect}
use Rattle.mm_model.specs.Refusing.{refusal}
use Rattle.mm_model.specs.Step.{Makes, MakesWeak, Carries, Ends, Refused_as_full, Below_threshold, At_threshold}
use Rattle.mm_model.specs.Logs.Turns.{Born, born_at, births_if}
use Rattle.mm_model.proofs.Lists.Replaced.{map-set_alike, map-map_alike}
use Rattle.mm_laws.proofs.Keeping.Following.{Keeps}
use Rattle.mm_laws.proofs.Keeping.FollowingSteps.{keeps-searched, strong-allowed, scanned-objects}
use Rattle.mm_laws.proofs.Keeping.Seeing.{SeesSame, is_put, same-plain}

-- a command that bears nothing, whatever it replies
pub births_if-none : (a : State) (command : Command) → ((base : ℕ) → born_at a command base ≡ [])
    → (reply : Reply) → births_if a command (Some reply) ≡ []
births_if-none a command none (replies.New base) = none base
births_if-none a command none replies.Done = refl
births_if-none a command none replies.Loose = refl
births_if-none a command none (replies.Word word) = refl
births_if-none a command none (replies.Area area) = refl
births_if-none a command none (replies.Object found) = refl
births_if-none a command none replies.Nothing = refl
births_if-none a command none (replies.Stat stat) = refl
births_if-none a command none (replies.Refused because) = refl

-- a view of objects, and what it sees of one that is born
pub record Views {P : Type 0} (view : Object → P) (as_born : Born → P) : Type 0 where
  pub unstuck : (a : State) (base : ℕ) (object : Object) → view (made_sticky a base object) ≡ view object
  pub unpaired : (object : Object) (partner : Option ℕ) → view (record object { partner = partner }) ≡ view object
  pub born : (shape : Shape) (base : ℕ) (target : Option ℕ)
      → view (newborn shape base) ≡ as_born (record { base = base; shape = shape; target = target })

-- the objects before, and those that were born
abbrev pub SeesBorn : {P : Type 0} → (Object → P) → (Born → P) → State → List Born → State → Type 0
SeesBorn view as_born a births b = map view b.objects ≡ map view a.objects ++ map as_born births

module _ {P : Type 0} (view : Object → P) (as_born : Born → P) (views : Views view as_born) where
  pub bears-same : (a : State) (births : List Born) (b : State) → SeesSame view a b → births ≡ []
      → SeesBorn view as_born a births b
  bears-same a births b same none =
      same ∙ sym (append-nil (map view a.objects))
      ∙ ap (λ bs. map view a.objects ++ map as_born bs) (sym none)

  pub bears-new : (a b : State) (shape : Shape) (found : Option ℕ)
      → SeesBorn view as_born b (births_if a (commands.New shape) (Some (new_effect b shape found).reply))
      (new_effect b shape found).state
  bears-new a b shape None = bears-same b [] b refl refl
  bears-new a b shape (Some base) =
      map-append view b.objects (newborn shape base ∷ [])
      ∙ ap (λ (p : P). map view b.objects ++ p ∷ []) (views.born shape base None)

  pub bears-area : (a b : State) (command : Command) (scanned : Bool) (counted cells : ℕ) (found : Option ℕ)
      → ((base : ℕ) → born_at a command base ≡ [])
      → SeesBorn view as_born b (births_if a command (Some (area_effect b scanned counted cells found).reply))
      (area_effect b scanned counted cells found).state
  bears-area a b command scanned counted cells None none = bears-same b _ b refl
      (births_if-none a command none (replies.Refused refusals.Full))
  bears-area a b command scanned counted cells (Some base) none =
      let effect = area_effect b scanned counted cells (Some base) in
      bears-same b _ effect.state refl (births_if-none a command none effect.reply)

  bears-weak_made : (a b : State) (i target : ℕ) (object : Object) (base : ℕ) → slice_get b.objects target ≡ Some object
      → SeesBorn view as_born b (born_at a (commands.Weak i) base) (weak_made b target object base)
  bears-weak_made a b i target object base is =
      let own = record object { partner = Some (length b.objects) } in
      let weak = record (newborn weak_shape base) { partner = Some target } in
      map-append view (slice_set b.objects target own) (weak ∷ [])
      ∙ ap (λ (ps : List P). ps ++ view weak ∷ [])
      (map-set_alike view b.objects target object own is (views.unpaired object (Some (length b.objects))))
      ∙ ap (λ (p : P). map view b.objects ++ p ∷ [])
      (views.unpaired (newborn weak_shape base) (Some target) ∙ views.born weak_shape base (meant_at a i))

  pub bears-weak : (a b : State) (i target : ℕ) (object : Object) (found : Option ℕ)
      → slice_get b.objects target ≡ Some object
      → SeesBorn view as_born b (births_if a (commands.Weak i) (Some (weak_effect b target found).reply))
      (weak_effect b target found).state
  bears-weak a b i target object None is = bears-same b [] b refl refl
  bears-weak a b i target object (Some base) is =
      subst
      (λ (o : Option Object).
      SeesBorn view as_born b
      (births_if a (commands.Weak i)
      (Some (with_some o b (λ x. record { state = weak_made b target x base; reply = replies.New base })).reply))
      (with_some o b (λ x. record { state = weak_made b target x base; reply = replies.New base })).state)
      (sym is) (bears-weak_made a b i target object base is)

  -- the weak reference that there is
  bears-kept : (a : State) (i weak : ℕ)
      → SeesBorn view as_born a (births_if a (commands.Weak i) (Some (pushes_object a weak).reply))
      (pushes_object a weak).state
  bears-kept a i weak = split (slice_get a.objects weak)
    where
      split : (found : Option Object)
          → SeesBorn view as_born a
          (births_if a (commands.Weak i)
          (Some (with_some found a (λ object. pushes (record { word = object.base; origin = Some weak }) a)).reply))
          (with_some found a (λ object. pushes (record { word = object.base; origin = Some weak }) a)).state
      split None = bears-same a [] a refl refl
      split (Some object) =
          bears-same a [] (pushes (record { word = object.base; origin = Some weak }) a).state refl refl

  pub bears-plain : (a : State) (command : Command)
      → (is_put command ≡ true → (object : Object) (s : ℕ) (value : Value)
      → view (with_slot a object s value) ≡ view object)
      → ((base : ℕ) → born_at a command base ≡ [])
      → SeesBorn view as_born a (births_if a command (Some (plain_effect a command).reply))
      (plain_effect a command).state
  bears-plain a command kept none =
      bears-same a _ (plain_effect a command).state (same-plain view views.unstuck a command kept)
      (births_if-none a command none (plain_effect a command).reply)

-- a view that no release changes
abbrev pub IsStable : {P : Type 0} → (Object → P) → Type 0
IsStable view = (a : State) (bases : List ℕ) (object : Object) → view (after_release a bases object) ≡ view object

module _ {P : Type 0} (view : Object → P) (as_born : Born → P) (views : Views view as_born) (stable : IsStable view)
  where
    same-released : (a b : State) (bases : List ℕ) → b.objects ≡ map (after_release a bases) a.objects
        → SeesSame view a b
    same-released a b bases is =
        ap (map view) is ∙ map-map_alike view (after_release a bases) (stable a bases) a.objects

    pub same-searched : (a : State) (family : Family) (bytes : ℕ) (log : List Line) (b : State) (found : Option ℕ)
        → Searches a family bytes log b found → SeesSame view a b
    same-searched a family bytes log b found (At_once base place lines same is) =
        ap (λ (s : State). map view s.objects) same
    same-searched a family bytes log b found (After_reap base dead none reapable place lines same is) =
        ap (λ (s : State). map view s.objects) same ∙ same-released a (reaped dead a) dead refl
    same-searched a family bytes log b found (After_collection dead lost none reapable no_place unreached lines same
        is) =
        ap (λ (s : State). map view s.objects) same
        ∙ same-released (reaped dead a) (collected lost (reaped dead a)) lost refl
        ∙ same-released a (reaped dead a) dead refl

    -- births after what looks the same
    bears-then : (a m : State) (births : List Born) (b : State) → SeesSame view a m → SeesBorn view as_born m births b
        → SeesBorn view as_born a births b
    bears-then a m births b same bears = bears ∙ ap (λ (ps : List P). ps ++ map as_born births) same

    bears-makes : (a : State) (family : Family) (bytes : ℕ) (then : State → Option ℕ → Effect) (log : List Line)
        (effect : Effect) (command : Command) (m : Makes a family bytes then log effect)
        → SeesBorn view as_born m.state (births_if a command (Some (then m.state m.found).reply))
        (then m.state m.found).state
        → SeesBorn view as_born a (births_if a command (Some effect.reply)) effect.state
    bears-makes a family bytes then log effect command m bears =
        subst (λ (e : Effect). SeesBorn view as_born a (births_if a command (Some e.reply)) e.state) (sym m.effect_is)
        (bears-then a m.state _ (then m.state m.found).state (same-searched a family bytes log m.state m.found m.search)
        bears)

    bears-makes_weak : (a : State) (i target : ℕ) (object : Object) → slice_get a.objects target ≡ Some object
        → (partner : Option ℕ) (log : List Line) (effect : Effect) → MakesWeak a target partner log effect
        → SeesBorn view as_born a (births_if a (commands.Weak i) (Some effect.reply)) effect.state
    bears-makes_weak a i target object is (Some weak) log effect m =
        subst (λ (e : Effect). SeesBorn view as_born a (births_if a (commands.Weak i) (Some e.reply)) e.state)
        (sym m.effect_is) (bears-kept view as_born views a i weak)
    bears-makes_weak a i target object is None log effect m =
        let keeps : Keeps a m.state = keeps-searched a _ _ log m.state m.found m.search in
        let one = keeps target object is in
        bears-makes a _ _ _ log effect (commands.Weak i) m
        (bears-weak view as_born views a m.state i target one.after m.found one.is)

    bears-phase : (a : State) (command : Command) (effect : Effect) (b : State) (bases : List ℕ) → effect.state ≡ b
        → b.objects ≡ map (after_release a bases) a.objects → ((base : ℕ) → born_at a command base ≡ [])
        → SeesBorn view as_born a (births_if a command (Some effect.reply)) effect.state
    bears-phase a command effect b bases state is none =
        bears-same view as_born views a _ effect.state
        (ap (λ (s : State). map view s.objects) state ∙ same-released a b bases is)
        (births_if-none a command none effect.reply)

    module _ (a : State) (log : List Line) (effect : Effect) where
      bears-effect : (command : Command) → effect ≡ plain_effect a command
          → (is_put command ≡ true → (object : Object) (s : ℕ) (value : Value)
          → view (with_slot a object s value) ≡ view object)
          → ((base : ℕ) → born_at a command base ≡ [])
          → SeesBorn view as_born a (births_if a command (Some effect.reply)) effect.state
      bears-effect command is kept none =
          subst (λ (e : Effect). SeesBorn view as_born a (births_if a command (Some e.reply)) e.state) (sym is)
          (bears-plain view as_born views a command kept none)

      pub bears-carried : (command : Command) → refusal a command ≡ None
          → (is_put command ≡ true → (object : Object) (s : ℕ) (value : Value)
          → view (with_slot a object s value) ≡ view object)
          → Carries a command log effect
          → SeesBorn view as_born a (births_if a command (Some effect.reply)) effect.state
      bears-carried (commands.New shape) allowed kept m =
          bears-makes a _ _ _ log effect (commands.New shape) m (bears-new view as_born views a m.state shape m.found)
      bears-carried (commands.Weak i) allowed kept m =
          bears-makes_weak a i m.target m.object
          (strong-allowed a i m.target m.object allowed m.target_is m.object_is).is m.object.partner log effect m.makes
      bears-carried (commands.Root counted cells) allowed kept m =
          bears-makes a _ _ _ log effect (commands.Root counted cells) m
          (bears-area view as_born views a m.state (commands.Root counted cells) true counted cells m.found (λ _. refl))
      bears-carried (commands.Fixed cells) allowed kept m =
          bears-makes a _ _ _ log effect (commands.Fixed cells) m
          (bears-area view as_born views a m.state (commands.Fixed cells) false 0 cells m.found (λ _. refl))
      bears-carried commands.Reap allowed kept m =
          bears-phase a commands.Reap effect (reaped m.0.dead a) m.0.dead m.0.state refl (λ _. refl)
      bears-carried commands.Collect allowed kept m =
          bears-phase a commands.Collect effect (collected m.0.lost a) m.0.lost m.0.state refl (λ _. refl)
      bears-carried (commands.Step k) allowed kept m =
          bears-same view as_born views a _ effect.state
          (ap (map view) (scanned-objects a m.0.births log effect.state m.0.scanned))
          (births_if-none a (commands.Step k) (λ _. refl) effect.reply)
      bears-carried commands.Finish allowed kept m =
          bears-phase a commands.Finish effect (collected m.0.lost a) m.0.lost m.0.state refl (λ _. refl)
      bears-carried (commands.Push word) allowed kept m = bears-effect (commands.Push word) m.effect_is kept (λ _. refl)
      bears-carried (commands.Dup i) allowed kept m = bears-effect (commands.Dup i) m.effect_is kept (λ _. refl)
      bears-carried (commands.Pop k) allowed kept m = bears-effect (commands.Pop k) m.effect_is kept (λ _. refl)
      bears-carried (commands.Inner i d) allowed kept m = bears-effect (commands.Inner i d) m.effect_is kept (λ _. refl)
      bears-carried (commands.Get i s) allowed kept m = bears-effect (commands.Get i s) m.effect_is kept (λ _. refl)
      bears-carried (commands.Put i s j) allowed kept m = bears-effect (commands.Put i s j) m.effect_is kept (λ _. refl)
      bears-carried (commands.Look i) allowed kept m = bears-effect (commands.Look i) m.effect_is kept (λ _. refl)
      bears-carried (commands.DropArea n) allowed kept m =
          bears-effect (commands.DropArea n) m.effect_is kept (λ _. refl)
      bears-carried (commands.AreaGet n s) allowed kept m =
          bears-effect (commands.AreaGet n s) m.effect_is kept (λ _. refl)
      bears-carried (commands.AreaPut n s j) allowed kept m =
          bears-effect (commands.AreaPut n s j) m.effect_is kept (λ _. refl)
      bears-carried commands.Begin allowed kept m = bears-effect commands.Begin m.effect_is kept (λ _. refl)
      bears-carried (commands.Map i) allowed kept m = bears-effect (commands.Map i) m.effect_is kept (λ _. refl)
      bears-carried commands.Stat allowed kept m = bears-effect commands.Stat m.effect_is kept (λ _. refl)

    pub same-ended : (a : State) (full : Bool) (log : List Line) (b : State) → Ends a full log b → SeesSame view a b
    same-ended a full log b (Refused_as_full is none same) = ap (λ (s : State). map view s.objects) same
    same-ended a full log b (Below_threshold is below none same) = ap (λ (s : State). map view s.objects) same
    same-ended a full log b (At_threshold is above reaps) =
        ap (λ (s : State). map view s.objects) reaps.state ∙ same-released a (reaped reaps.dead a) reaps.dead refl
