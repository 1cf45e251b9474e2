-- Each step keeps the settings and what is sticky, and `begin` alone begins a cycle.
use Rattle.std.proofs.Common.{◌≡◌, ℕ, Bool, true, false, not, ⊎_elim, List, [], ◌∷◌, ◌++◌, map, length, Option, Some}
use Rattle.std.proofs.Common.{None, refl, sym, ap, ◌∙◌, subst}
use Rattle.std.proofs.lemmas.Bool.{cases_eq}
use Rattle.std.proofs.lemmas.Option.{slice_get-map}
use Rattle.std.specs.Prelude.{is_some, slice_get, slice_set, slice_index, nat_le, ◌||◌, ◌&&◌, ◌==◌, if◌then◌else◌}
use Rattle.std.specs.Option.{option_map}
use Rattle.mm_model.specs.declared.command.Command.{Command}
use Rattle.mm_model.specs.declared.command.Command.TheVariants as commands
use Rattle.mm_model.specs.declared.object.Shape.{Shape}
use Rattle.mm_model.specs.declared.refusal.Refusal.{Refusal}
use Rattle.mm_model.specs.declared.reply.Reply.TheVariants as replies
use Rattle.mm_model.specs.declared.line.Line.{Line}
use Rattle.mm_model.specs.Places.Place.{Family}
use Rattle.mm_model.specs.Value.{Value, words_of}
use Rattle.mm_model.specs.Object.{Object, newborn}
use Rattle.mm_model.specs.State.{State, Area, with_black_birth, one_more_command}
use Rattle.mm_model.specs.Words.{SlotKind, slot_kind, cell_kind}
use Rattle.mm_model.specs.Count.{refs, begins_counted, made_sticky, with_sticky}
use Rattle.mm_model.specs.Meaning.{meant_at, object_meant}
use Rattle.mm_model.specs.Areas.{area_at, with_changed_area}
use Rattle.mm_model.specs.Sets.Marking.{grayed_cycle, with_grayed, is_raw, is_passed, barrier, part_done}
use Rattle.mm_model.specs.Phase.{cycle_left, is_freed, unless_freed, after_release, reaped, collected}
use Rattle.mm_model.specs.Store.{is_counted_slot, recounted, with_object, with_slot, with_cell, put_in_slot}
use Rattle.mm_model.specs.Store.{put_in_cell}
use Rattle.mm_model.specs.Places.Search.{Searches, At_once, After_reap, After_collection}
use Rattle.mm_model.specs.Sets.Scan.{AreScanned}
use Rattle.mm_model.specs.Effect.{Effect, with_some, weak_shape, new_effect, weak_effect, weak_made, area_effect}
use Rattle.mm_model.specs.Effect.{look_effect, pushes_object, plain_effect}
use Rattle.mm_model.specs.Refusing.{refusal}
use Rattle.mm_model.specs.Step.{Makes, MakesWeak, Carries, Ends, Refused_as_full, Below_threshold, At_threshold}
use Rattle.mm_model.specs.Step.{IsStepUnless, IsStep}
use Rattle.mm_model.specs.Logs.Turns.{is_begin}
use Rattle.mm_model.proofs.Lists.Growing.{get-front}
use Rattle.mm_model.proofs.Lists.Replaced.{get-set_same, get-set_other}

-- the object with a birth number is sticky
pub record IsSticky (a : State) (birth : ℕ) : Type 0 where
  pub object : Object
  pub is : slice_get a.objects birth ≡ Some object
  pub sticky : object.sticky ≡ true

abbrev pub KeepsSticky : State → State → Type 0
KeepsSticky a b = (birth : ℕ) → IsSticky a birth → IsSticky b birth

sticky-same : (a b : State) → b.objects ≡ a.objects → KeepsSticky a b
sticky-same a b same birth h =
    record { object = h.object; is = ap (λ os. slice_get os birth) same ∙ h.is; sticky = h.sticky }

sticky-map : (a b : State) (change : Object → Object) → ((x : Object) → x.sticky ≡ true → (change x).sticky ≡ true)
    → b.objects ≡ map change a.objects → KeepsSticky a b
sticky-map a b change kept is birth h =
    record {
      object = change h.object;
      is = ap (λ os. slice_get os birth) is ∙ slice_get-map change a.objects birth ∙ ap (option_map change) h.is;
      sticky = kept h.object h.sticky;
    }

-- objects with one more behind them
sticky-more : (a b : State) (new : Object) → b.objects ≡ a.objects ++ new ∷ [] → KeepsSticky a b
sticky-more a b new is birth h =
    record {
      object = h.object;
      is = ap (λ os. slice_get os birth) is ∙ get-front a.objects (new ∷ []) birth h.object h.is;
      sticky = h.sticky;
    }

-- an object in the place of another one that is as sticky
sticky-set : (a b : State) (at : ℕ) (x y : Object) → slice_get a.objects at ≡ Some x → y.sticky ≡ x.sticky
    → b.objects ≡ slice_set a.objects at y → KeepsSticky a b
sticky-set a b at x y is same set birth h =
    ⊎_elim
    (λ (here : birth ≡ at).
    let own = ap (slice_get a.objects) (sym here) ∙ h.is in
    let alike : x ≡ h.object = cc in
    record {
      object = y;
      is = ap (λ os. slice_get os birth) set ∙ ap (slice_get (slice_set a.objects at y)) here
          ∙ get-set_same a.objects at x y is;
      sticky = same ∙ ap (λ (o : Object). o.sticky) alike ∙ h.sticky;
    })
    (λ (other : birth ≡ at → ⊥).
    record {
      object = h.object;
      is = ap (λ os. slice_get os birth) set ∙ get-set_other a.objects at birth y other ∙ h.is;
      sticky = h.sticky;
    })
    (cases_eq birth at)

released-sticky : (a : State) (bases : List ℕ) (x : Object) → x.sticky ≡ true → (after_release a bases x).sticky ≡ true
released-sticky a bases x h = split (is_freed bases x)
  where
    split : (freed : Bool)
        → (if freed then record x { gone = true } else record x { partner = unless_freed a bases x.partner }).sticky
        ≡ true
    split true = h
    split false = h

counted-sticky : (a : State) (base : ℕ) (x : Object) → x.sticky ≡ true → (made_sticky a base x).sticky ≡ true
counted-sticky a base x h = ap (λ c. c || (begins_counted base x && nat_le 255 (refs a base))) h

-- the settings and sticky marks stay, and a cycle that runs now ran before, unless it begins
pub record Follows (begins : Bool) (a b : State) : Type 0 where
  pub settings : b.settings ≡ a.settings
  pub runs : begins ≡ false → is_some b.cycle ≡ true → is_some a.cycle ≡ true
  pub sticky : KeepsSticky a b

follows-changed : (begins : Bool) (a b : State) → b.settings ≡ a.settings → is_some b.cycle ≡ is_some a.cycle
    → KeepsSticky a b → Follows begins a b
follows-changed begins a b settings runs sticky =
    record { settings = settings; runs = λ e h. sym runs ∙ h; sticky = sticky }

follows-mapped : (begins : Bool) (a b : State) → b.settings ≡ a.settings → is_some b.cycle ≡ is_some a.cycle
    → b.objects ≡ a.objects → Follows begins a b
follows-mapped begins a b settings runs objects =
    follows-changed begins a b settings runs (sticky-same a b objects)

follows-same : (begins : Bool) (a b : State) → b ≡ a → Follows begins a b
follows-same begins a b same =
    follows-mapped begins a b (ap (λ (s : State). s.settings) same) (ap (λ (s : State). is_some s.cycle) same)
    (ap (λ (s : State). s.objects) same)

follows-then : (begins : Bool) (a b c : State) → Follows begins a b → Follows begins b c → Follows begins a c
follows-then begins a b c first second =
    record {
      settings = second.settings ∙ first.settings;
      runs = λ e h. first.runs e (second.runs e h);
      sticky = λ birth h. second.sticky birth (first.sticky birth h);
    }

some-map : {X Y : Type 0} (f : X → Y) (found : Option X) → is_some (option_map f found) ≡ is_some found
some-map f None = refl
some-map f (Some x) = refl

module _ (begins : Bool) where
  follows-reaped : (a : State) (dead : List ℕ) → Follows begins a (reaped dead a)
  follows-reaped a dead =
      follows-changed begins a (reaped dead a) refl (some-map (cycle_left a dead) a.cycle)
      (sticky-map a (reaped dead a) (after_release a dead) (released-sticky a dead) refl)

  follows-collected : (a : State) (lost : List ℕ) → Follows begins a (collected lost a)
  follows-collected a lost =
      record {
        settings = refl;
        runs = λ e h. cc;
        sticky = sticky-map a (collected lost a) (after_release a lost) (released-sticky a lost) refl;
      }

  follows-searched : (a : State) (family : Family) (bytes : ℕ) (log : List Line) (b : State) (found : Option ℕ)
      → Searches a family bytes log b found → Follows begins a b
  follows-searched a family bytes log b found (At_once base place lines same is) = follows-same begins a b same
  follows-searched a family bytes log b found (After_reap base dead none reapable place lines same is) =
      subst (Follows begins a) (sym same) (follows-reaped a dead)
  follows-searched a family bytes log b found (After_collection dead lost none reapable no_place lost_is lines same is)
      =
      subst (Follows begins a) (sym same)
      (follows-then begins a (reaped dead a) (collected lost (reaped dead a)) (follows-reaped a dead)
      (follows-collected (reaped dead a) lost))

  follows-new : (a : State) (shape : Shape) (found : Option ℕ) → Follows begins a (new_effect a shape found).state
  follows-new a shape None = follows-same begins a a refl
  follows-new a shape (Some base) =
      follows-changed begins a (new_effect a shape (Some base)).state refl (some-map with_black_birth a.cycle)
      (sticky-more a (new_effect a shape (Some base)).state (newborn shape base) refl)

  follows-area : (a : State) (scanned : Bool) (counted cells : ℕ) (found : Option ℕ)
      → Follows begins a (area_effect a scanned counted cells found).state
  follows-area a scanned counted cells None = follows-same begins a a refl
  follows-area a scanned counted cells (Some base) =
      follows-mapped begins a (area_effect a scanned counted cells (Some base)).state refl refl refl

  follows-with_some : {X : Type 0} (found : Option X) (a : State) (effect : X → Effect)
      → ((x : X) → found ≡ Some x → Follows begins a (effect x).state)
      → Follows begins a (with_some found a effect).state
  follows-with_some None a effect h = follows-same begins a a refl
  follows-with_some (Some x) a effect h = h x refl

  follows-weak : (a : State) (target : ℕ) (found : Option ℕ) → Follows begins a (weak_effect a target found).state
  follows-weak a target None = follows-same begins a a refl
  follows-weak a target (Some base) =
      follows-with_some (slice_get a.objects target) a
      (λ object. record { state = weak_made a target object base; reply = replies.New base })
      (λ object is.
      let own = record object { partner = Some (length a.objects) } in
      let middle = with_object target own a in
      follows-changed begins a (weak_made a target object base) refl (some-map with_black_birth a.cycle)
      (λ birth h.
      sticky-more middle (weak_made a target object base)
      (record (newborn weak_shape base) { partner = Some target }) refl birth
      (sticky-set a middle target object own is refl refl birth h)))

  follows-makes : (a : State) (family : Family) (bytes : ℕ) (made : State → Option ℕ → Effect) (log : List Line)
      (effect : Effect) → Makes a family bytes made log effect
      → ((b : State) (found : Option ℕ) → Follows begins b (made b found).state) → Follows begins a effect.state
  follows-makes a family bytes made log effect m f =
      subst (λ (e : Effect). Follows begins a e.state) (sym m.effect_is)
      (follows-then begins a m.state (made m.state m.found).state
      (follows-searched a family bytes log m.state m.found m.search) (f m.state m.found))

  follows-object : (a : State) (birth : ℕ) → Follows begins a (pushes_object a birth).state
  follows-object a birth = follows-with_some (slice_get a.objects birth) a _
      (λ object e. follows-mapped begins a _ refl refl refl)

  follows-makes_weak : (a : State) (target : ℕ) (partner : Option ℕ) (log : List Line) (effect : Effect)
      → MakesWeak a target partner log effect → Follows begins a effect.state
  follows-makes_weak a target (Some weak) log effect m =
      subst (λ (e : Effect). Follows begins a e.state) (sym m.effect_is) (follows-object a weak)
  follows-makes_weak a target None log effect m =
      follows-makes a _ _ (λ b found. weak_effect b target found) log effect m (λ b found. follows-weak b target found)

  follows-recounted : (kind : SlotKind) (old new : ℕ) (a : State) → Follows begins a (recounted kind old new a)
  follows-recounted kind old new a =
      let split : (b : Bool) → Follows begins a (if b then with_sticky new a else a) =
      elim [
        | true ↦
            follows-changed begins a (with_sticky new a) refl refl
            (sticky-map a (with_sticky new a) (made_sticky a new) (counted-sticky a new) refl)
        | false ↦ follows-same begins a a refl
      ] in
      split (is_counted_slot kind && not (old == new))

  follows-barrier : (kind : SlotKind) (birth s word : ℕ) (a : State) → Follows begins a (barrier kind birth s word a)
  follows-barrier kind birth s word a =
      let split : (b : Bool) → Follows begins a (if b then with_grayed (word ∷ []) a else a) =
      elim [
        | true ↦
            follows-mapped begins a (with_grayed (word ∷ []) a) refl (some-map (grayed_cycle (word ∷ []) a) a.cycle)
            refl
        | false ↦ follows-same begins a a refl
      ] in
      split (not (is_raw kind) && is_passed a.cycle birth s)

  follows-put : (a : State) (birth : ℕ) (object : Object) (s : ℕ) (value : Value)
      → slice_get a.objects birth ≡ Some object → Follows begins a (put_in_slot a birth object s value)
  follows-put a birth object s value is =
      let kind = slot_kind object s in
      let stored = with_object birth (with_slot a object s value) a in
      let counted = recounted kind (slice_index (words_of object.slots) s) value.word stored in
      follows-then begins a stored (put_in_slot a birth object s value)
      (follows-changed begins a stored refl refl
      (sticky-set a stored birth object (with_slot a object s value) is refl refl))
      (follows-then begins stored counted (put_in_slot a birth object s value)
      (follows-recounted kind (slice_index (words_of object.slots) s) value.word stored)
      (follows-barrier kind birth s value.word counted))

  follows-area_put : (a : State) (area : Area) (s : ℕ) (value : Value) → Follows begins a (put_in_cell a area s value)
  follows-area_put a area s value =
      let stored = with_changed_area (with_cell a area s value) a in
      follows-then begins a stored (put_in_cell a area s value) (follows-mapped begins a stored refl refl refl)
      (follows-recounted (cell_kind area s) (slice_index (words_of area.cells) s) value.word stored)

  follows-look : (a : State) (target : Option ℕ) → Follows begins a (look_effect a target).state
  follows-look a None = follows-mapped begins a (look_effect a None).state refl refl refl
  follows-look a (Some target) = follows-object a target

  follows-scanned : (a : State) (births : List ℕ) (log : List Line) (b : State) → AreScanned a births log b
      → Follows begins a b
  follows-scanned a [] log b scanned = follows-same begins a b scanned.1
  follows-scanned a (birth ∷ births) log b scanned =
      let object = scanned.0 in
      let next = part_done a birth object in
      follows-then begins a next b (follows-mapped begins a next refl (some-map _ a.cycle) refl)
      (follows-scanned next births scanned.1 b scanned.4)

  follows-ended : (a : State) (full : Bool) (log : List Line) (b : State) → Ends a full log b → Follows begins a b
  follows-ended a full log b (Refused_as_full is none same) = follows-same begins a b same
  follows-ended a full log b (Below_threshold is below none same) = follows-same begins a b same
  follows-ended a full log b (At_threshold is above reaps) =
      subst (Follows begins a) (sym reaps.state) (follows-reaped a reaps.dead)

follows-plain : (a : State) (command : Command) → Follows (is_begin command) a (plain_effect a command).state
follows-plain a (commands.Push word) = follows-mapped false a _ refl refl refl
follows-plain a (commands.Dup i) =
    follows-with_some false (slice_get a.stack i) a _ (λ value e. follows-mapped false a _ refl refl refl)
follows-plain a (commands.Pop k) = follows-mapped false a _ refl refl refl
follows-plain a (commands.Inner i bytes) =
    follows-with_some false (slice_get a.stack i) a _ (λ value e. follows-mapped false a _ refl refl refl)
follows-plain a (commands.Get i s) =
    follows-with_some false (object_meant a i) a _
    (λ object e. follows-with_some false (slice_get object.slots s) a _
    (λ value e. follows-mapped false a _ refl refl refl))
follows-plain a (commands.Put i s j) =
    follows-with_some false (meant_at a i) a _
    (λ birth e. follows-with_some false (slice_get a.objects birth) a _
    (λ object f. follows-with_some false (slice_get a.stack j) a _
    (λ value e. follows-put false a birth object s value f)))
follows-plain a (commands.Look i) =
    follows-with_some false (object_meant a i) a _ (λ object e. follows-look false a object.partner)
follows-plain a (commands.DropArea number) = follows-mapped false a _ refl refl refl
follows-plain a (commands.AreaGet number s) =
    follows-with_some false (area_at a number) a _
    (λ area e. follows-with_some false (slice_get area.cells s) a _
    (λ value e. follows-mapped false a _ refl refl refl))
follows-plain a (commands.AreaPut number s j) =
    follows-with_some false (area_at a number) a _
    (λ area e. follows-with_some false (slice_get a.stack j) a _ (λ value e. follows-area_put false a area s value))
follows-plain a commands.Begin =
    record { settings = refl; runs = λ e h. cc; sticky = sticky-same a (plain_effect a commands.Begin).state refl }
follows-plain a (commands.Map i) = follows-mapped false a _ refl refl refl
follows-plain a commands.Stat = follows-mapped false a _ refl refl refl
follows-plain a (commands.New shape) = follows-mapped false a _ refl refl refl
follows-plain a (commands.Weak i) = follows-mapped false a _ refl refl refl
follows-plain a (commands.Root counted cells) = follows-mapped false a _ refl refl refl
follows-plain a (commands.Fixed cells) = follows-mapped false a _ refl refl refl
follows-plain a commands.Reap = follows-mapped false a _ refl refl refl
follows-plain a commands.Collect = follows-mapped false a _ refl refl refl
follows-plain a (commands.Step k) = follows-mapped false a _ refl refl refl
follows-plain a commands.Finish = follows-mapped false a _ refl refl refl

module _ (a : State) (log : List Line) (effect : Effect) where
  follows-effect : (command : Command) → effect ≡ plain_effect a command → Follows (is_begin command) a effect.state
  follows-effect command is = subst (λ (e : Effect). Follows (is_begin command) a e.state) (sym is)
      (follows-plain a command)

  follows-carried : (command : Command) → Carries a command log effect → Follows (is_begin command) a effect.state
  follows-carried (commands.New shape) m =
      follows-makes false a _ _ (λ b found. new_effect b shape found) log effect m
      (λ b found. follows-new false b shape found)
  follows-carried (commands.Weak i) m =
      follows-makes_weak false a m.target m.object.partner log effect m.makes
  follows-carried (commands.Root counted cells) m =
      follows-makes false a _ _ (λ b found. area_effect b true counted cells found) log effect m
      (λ b found. follows-area false b true counted cells found)
  follows-carried (commands.Fixed cells) m =
      follows-makes false a _ _ (λ b found. area_effect b false 0 cells found) log effect m
      (λ b found. follows-area false b false 0 cells found)
  follows-carried commands.Reap m = subst (Follows false a) (sym m.0.state) (follows-reaped false a m.0.dead)
  follows-carried commands.Collect m = subst (Follows false a) (sym m.0.state) (follows-collected false a m.0.lost)
  follows-carried (commands.Step k) m = follows-scanned false a m.0.births log effect.state m.0.scanned
  follows-carried commands.Finish m = subst (Follows false a) (sym m.0.state) (follows-collected false a m.0.lost)
  follows-carried (commands.Push word) m = follows-effect (commands.Push word) m.effect_is
  follows-carried (commands.Dup i) m = follows-effect (commands.Dup i) m.effect_is
  follows-carried (commands.Pop k) m = follows-effect (commands.Pop k) m.effect_is
  follows-carried (commands.Inner i d) m = follows-effect (commands.Inner i d) m.effect_is
  follows-carried (commands.Get i s) m = follows-effect (commands.Get i s) m.effect_is
  follows-carried (commands.Put i s j) m = follows-effect (commands.Put i s j) m.effect_is
  follows-carried (commands.Look i) m = follows-effect (commands.Look i) m.effect_is
  follows-carried (commands.DropArea n) m = follows-effect (commands.DropArea n) m.effect_is
  follows-carried (commands.AreaGet n s) m = follows-effect (commands.AreaGet n s) m.effect_is
  follows-carried (commands.AreaPut n s j) m = follows-effect (commands.AreaPut n s j) m.effect_is
  follows-carried commands.Begin m = follows-effect commands.Begin m.effect_is
  follows-carried (commands.Map i) m = follows-effect (commands.Map i) m.effect_is
  follows-carried commands.Stat m = follows-effect commands.Stat m.effect_is

-- a step
pub follows-step : (a : State) (command : Command) (group : List Line) (b : State) → IsStep a command group b
    → Follows (is_begin command) a b
follows-step a command group b step = split (refusal a command) step
  where
    begins : Bool
    begins = is_begin command

    counted : (c : State) → b ≡ one_more_command c → Follows begins a c → Follows begins a b
    counted c is h =
        follows-then begins a c b h
        (subst (Follows begins c) (sym is) (follows-mapped begins c (one_more_command c) refl refl refl))

    split : (because : Option Refusal) → IsStepUnless because a command group b → Follows begins a b
    split (Some because) m = counted a m.state_is (follows-same begins a a refl)
    split None m =
        counted m.end m.state_is
        (follows-then begins a m.effect.state m.end (follows-carried a m.log m.effect command m.carries)
        (follows-ended begins m.effect.state _ m.end_log m.end m.ends))

-- a `begin` that is refused begins no cycle
pub refused-runs : (a : State) (command : Command) (group : List Line) (b : State) (because : Refusal)
    → refusal a command ≡ Some because → IsStep a command group b → is_some b.cycle ≡ true → is_some a.cycle ≡ true
refused-runs a command group b because is step runs =
    let m = subst (λ r. IsStepUnless r a command group b) is step in
    ap (λ (s : State). is_some s.cycle) (sym m.state_is) ∙ runs
