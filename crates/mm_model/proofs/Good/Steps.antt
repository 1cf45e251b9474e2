-- Every step keeps a state good.
use Rattle.std.proofs.Common.{◌≡◌, ℕ, Bool, true, false, List, [], ◌∷◌, Option, Some, None, refl, sym, ap, ◌∙◌, subst}
use Rattle.std.proofs.lemmas.Option.{slice_get-map}
use Rattle.std.specs.Prelude.{IfSome, is_some}
use Rattle.std.specs.Option.{option_map, option_map_or}
use Rattle.mm_model.specs.declared.command.Command.{Command}
use Rattle.mm_model.specs.declared.command.Command.TheVariants as commands
use Rattle.mm_model.specs.declared.object.Shape.{Shape}
use Rattle.mm_model.specs.declared.refusal.Refusal.{Refusal}
use Rattle.mm_model.specs.declared.refusal.Refusal.TheVariants as refusals
use Rattle.mm_model.specs.declared.line.Line.{Line}
use Rattle.mm_model.specs.declared.reply.Reply.TheVariants as replies
use Rattle.mm_model.specs.Value.{Value, reference}
use Rattle.mm_model.specs.Places.SizeClass.{object_bytes, area_bytes}
use Rattle.mm_model.specs.Places.Place.{Family, Objects, Areas}
use Rattle.mm_model.specs.Object.{Object, is_weak}
use Rattle.mm_model.specs.State.{State, Lives, one_more_command}
use Rattle.mm_model.specs.Words.{stack_words, names, falls}
use Rattle.mm_model.specs.Areas.{free_number}
use Rattle.mm_model.specs.Refusing.{first_refusal, refusal, no_cell, means_nothing, means_weak, is_stack_full}
use Rattle.mm_model.specs.Refusing.{is_bad_shape, is_bad_area, are_areas_full}
use Rattle.mm_model.specs.Effect.{Effect, with_some, new_effect, weak_effect, area_effect, weak_made, pushes}
use Rattle.mm_model.specs.Effect.{plain_effect}
use Rattle.mm_model.specs.Step.{IsPlain, Makes, MakesWeak, MakesWeakOf, Reaps, Collects, Finishes, Carries, Ends}
use Rattle.mm_model.specs.Step.{Refused_as_full, Below_threshold, At_threshold, is_full, IsStepUnless, IsStep}
use Rattle.mm_model.specs.Logs.Log.{IsRun}
use Rattle.mm_model.specs.Good.{IsPaired, IsGood}
use Rattle.mm_model.proofs.Good.Around.{carried_out_is_good}
use Rattle.mm_model.proofs.Good.Making.AreaBirths.{area_made_is_good}
use Rattle.mm_model.proofs.Good.Making.Births.{made_is_good}
use Rattle.mm_model.proofs.Lists.Growing.{any_from_get}
use Rattle.mm_model.proofs.Good.Phases.{reaped_is_good, collected_is_good, finished_is_good}
use Rattle.mm_model.proofs.Good.PlainGood.{plain_is_good}
use Rattle.mm_model.proofs.Good.Meanings.{IsMeant, is_meant}
use Rattle.mm_model.proofs.Good.Scanning.{scanned_is_good}
use Rattle.mm_model.proofs.Good.Making.Shapes.{shaped-newborn, shaped-area}
use Rattle.mm_model.proofs.Good.Making.Searching.{IsFound, searched_is_found}
use Rattle.mm_model.proofs.Good.Allowed.{first_refusal-None, all_allowed, cycle_runs}
use Rattle.mm_model.proofs.Good.Making.WeakReferences.{weak_made_is_good, kept_weak_is_good}

-- `new` isn't refused
pub shape_allowed : (a : State) (shape : Shape) → refusal a (commands.New shape) ≡ None → is_bad_shape shape ≡ false
shape_allowed a shape allowed =
    (first_refusal-None (is_bad_shape shape) refusals.Shape ((is_stack_full a, refusals.StackFull) ∷ []) allowed).0

module _ (a : State) (good : IsGood a) where
  -- an area that isn't refused
  record IsAllowed (counted cells : ℕ) : Type 0 where
    shape : is_bad_area counted cells ≡ false
    room : are_areas_full a ≡ false

  -- what is made of a place that was found
  new_stays : (shape : Shape) → is_bad_shape shape ≡ false → (b : State) (found : Option ℕ)
      → IsFound a Objects (object_bytes shape.slots) b found → IsGood (new_effect b shape found).state
  new_stays shape accepted b None f = f.good
  new_stays shape accepted b (Some base) f =
      made_is_good b shape f.place.0 base f.good f.place.1 f.place.2 (shaped-newborn shape base accepted)

  area_stays : (scanned : Bool) (counted cells : ℕ) → IsAllowed counted cells → (scanned ≡ false → counted ≡ 0)
      → (b : State) (found : Option ℕ) → IsFound a Areas (area_bytes cells) b found
      → IsGood (area_effect b scanned counted cells found).state
  area_stays scanned counted cells allowed raw b None f = f.good
  area_stays scanned counted cells allowed raw b (Some base) f =
      let still : are_areas_full b ≡ false =
      ap (λ areas. are_areas_full (record b { areas = areas })) f.areas ∙ allowed.room in
      area_made_is_good b scanned counted cells f.place.0 base f.good f.place.1 still f.place.2
      (shaped-area (free_number b) base scanned counted cells allowed.shape raw)

  weak_stays : (target : ℕ) (object : Object) → Lives a target object → names (stack_words a) object ≡ true
      → object.partner ≡ None → is_weak object.kind ≡ false → (b : State) (found : Option ℕ)
      → IsFound a Objects (object_bytes 0) b found → IsGood (weak_effect b target found).state
  weak_stays target object lives named alone strong b None f = f.good
  weak_stays target object lives named alone strong b (Some base) f =
      let one = f.spared target object lives named in
      let kind : is_weak one.after.kind ≡ false = ap is_weak one.kind ∙ strong in
      subst (λ (o : Option Object). IsGood (with_some o b
      (λ x. record { state = weak_made b target x base; reply = replies.New base })).state) (sym one.lives.is)
      (weak_made_is_good b target one.after f.place.0 base f.good one.lives (one.alone alone) kind f.place.1 f.place.2)

  makes_stays : (family : Family) (bytes : ℕ) (after : State → Option ℕ → Effect) (log : List Line) (effect : Effect)
      → Makes a family bytes after log effect
      → ((b : State) (found : Option ℕ) → IsFound a family bytes b found → IsGood (after b found).state)
      → IsGood effect.state
  makes_stays family bytes after log effect m f =
      let found = searched_is_found a family bytes log m.state m.found good m.search in
      subst (λ (e : Effect). IsGood e.state) (sym m.effect_is) (f m.state m.found found)

  -- the object that a stack cell means is named by the stack
  meant_named : (i birth : ℕ) (object : Object) → IsMeant a i birth object → names (stack_words a) object ≡ true
  meant_named i birth object one =
      any_from_get (λ word. falls word object.base object.extent) (stack_words a) i one.value.word
      (slice_get-map (λ (v : Value). v.word) a.stack i ∙ ap (option_map (λ (v : Value). v.word)) one.cell)
      one.falls_there

  weak_makes : (target : ℕ) (object : Object) → Lives a target object → names (stack_words a) object ≡ true
      → is_weak object.kind ≡ false → (log : List Line) (effect : Effect) (partner : Option ℕ)
      → object.partner ≡ partner → MakesWeak a target partner log effect → IsGood effect.state
  weak_makes target object lives named strong log effect None alone m =
      makes_stays Objects (object_bytes 0) (λ b found. weak_effect b target found) log effect m
      (weak_stays target object lives named alone strong)
  weak_makes target object lives named strong log effect (Some weak) is m =
      let paired = subst (λ partner. IfSome partner (IsPaired a target object)) is (good.paired target object lives) in
      subst (λ (e : Effect). IsGood e.state) (sym m.effect_is)
      (subst (λ found. IsGood (with_some found a (λ x. pushes (reference x.base weak) a)).state)
      (sym paired.lives.is)
      (kept_weak_is_good a weak paired.partner good paired.lives))

  weak_of_stays : (i : ℕ) (log : List Line) (effect : Effect) → refusal a (commands.Weak i) ≡ None
      → MakesWeakOf a i log effect → IsGood effect.state
  weak_of_stays i log effect allowed m =
      let row = all_allowed (no_cell a i) (means_nothing a i) (means_weak a i) (is_stack_full a)
      refusals.NoCell refusals.Nothing refusals.NoWeak refusals.StackFull allowed in
      let one = is_meant a good i m.object m.object_is in
      let first = one.1.meant_is in
      let second = m.target_is in
      let same : one.0 ≡ m.target = cc in
      let strong : is_weak m.object.kind ≡ false =
      sym (ap (λ o. option_map_or (λ (x : Object). is_weak x.kind) o false) m.object_is) ∙ row.third_is in
      weak_makes m.target m.object (subst (λ n. Lives a n m.object) same one.1.lives)
      (meant_named i one.0 m.object one.1) strong log effect m.object.partner refl m.makes

  plain_stays : (command : Command) (log : List Line) (effect : Effect) → refusal a command ≡ None
      → IsPlain log effect (plain_effect a command) → IsGood effect.state
  plain_stays command log effect allowed m =
      subst (λ (e : Effect). IsGood e.state) (sym m.effect_is)
      (plain_is_good a command good allowed)

  reaps_stay : (log : List Line) (b : State) → Reaps a log b → IsGood b
  reaps_stay log b m =
      subst IsGood (sym m.state) (reaped_is_good a m.dead good m.reapable)

  collects_stay : (log : List Line) (b : State) → Collects a log b → IsGood b
  collects_stay log b m =
      subst IsGood (sym m.state) (collected_is_good a m.lost good m.unreached)

  finishes_stay : (log : List Line) (b : State) → is_some a.cycle ≡ true → Finishes a log b → IsGood b
  finishes_stay log b runs m =
      subst IsGood (sym m.state) (finished_is_good a m.lost good runs m.unmarked)

  area_allowed : (counted cells : ℕ)
      → first_refusal ((is_bad_area counted cells, refusals.Shape) ∷ (are_areas_full a, refusals.AreasFull) ∷ []) ≡ None
      → IsAllowed counted cells
  area_allowed counted cells allowed =
      let first = first_refusal-None (is_bad_area counted cells) refusals.Shape
      ((are_areas_full a, refusals.AreasFull) ∷ []) allowed in
      record { shape = first.0; room = (first_refusal-None (are_areas_full a) refusals.AreasFull [] first.1).0 }

  pub carries_stays : (command : Command) (log : List Line) (effect : Effect) → refusal a command ≡ None
      → Carries a command log effect → IsGood effect.state
  carries_stays (commands.New shape) log effect allowed m =
      makes_stays Objects (object_bytes shape.slots) (λ b found. new_effect b shape found) log effect m
      (new_stays shape (shape_allowed a shape allowed))
  carries_stays (commands.Weak i) log effect allowed m = weak_of_stays i log effect allowed m
  carries_stays (commands.Root counted cells) log effect allowed m =
      makes_stays Areas (area_bytes cells) (λ b found. area_effect b true counted cells found) log effect m
      (area_stays true counted cells (area_allowed counted cells allowed) (λ e. let other = e in cc))
  carries_stays (commands.Fixed cells) log effect allowed m =
      makes_stays Areas (area_bytes cells) (λ b found. area_effect b false 0 cells found) log effect m
      (area_stays false 0 cells (area_allowed 0 cells allowed) (λ e. refl))
  carries_stays commands.Reap log effect allowed m = reaps_stay log effect.state m.0
  carries_stays commands.Collect log effect allowed m = collects_stay log effect.state m.0
  carries_stays (commands.Step k) log effect allowed m =
      scanned_is_good a m.0.births log effect.state good m.0.scanned
  carries_stays commands.Finish log effect allowed m = finishes_stay log effect.state (cycle_runs a allowed) m.0
  carries_stays (commands.Push word) log effect allowed m = plain_stays (commands.Push word) log effect allowed m
  carries_stays (commands.Dup i) log effect allowed m = plain_stays (commands.Dup i) log effect allowed m
  carries_stays (commands.Pop k) log effect allowed m = plain_stays (commands.Pop k) log effect allowed m
  carries_stays (commands.Inner i d) log effect allowed m = plain_stays (commands.Inner i d) log effect allowed m
  carries_stays (commands.Get i s) log effect allowed m = plain_stays (commands.Get i s) log effect allowed m
  carries_stays (commands.Put i s j) log effect allowed m = plain_stays (commands.Put i s j) log effect allowed m
  carries_stays (commands.Look i) log effect allowed m = plain_stays (commands.Look i) log effect allowed m
  carries_stays (commands.DropArea n) log effect allowed m = plain_stays (commands.DropArea n) log effect allowed m
  carries_stays (commands.AreaGet n s) log effect allowed m = plain_stays (commands.AreaGet n s) log effect allowed m
  carries_stays (commands.AreaPut n s j) log effect allowed m =
      plain_stays (commands.AreaPut n s j) log effect allowed m
  carries_stays commands.Begin log effect allowed m = plain_stays commands.Begin log effect allowed m
  carries_stays (commands.Map i) log effect allowed m = plain_stays (commands.Map i) log effect allowed m
  carries_stays commands.Stat log effect allowed m = plain_stays commands.Stat log effect allowed m

ends_stay : (a : State) (full : Bool) (log : List Line) (b : State) → IsGood a → Ends a full log b → IsGood b
ends_stay a full log b good (Refused_as_full is none same) = subst IsGood (sym same) good
ends_stay a full log b good (Below_threshold is below none same) = subst IsGood (sym same) good
ends_stay a full log b good (At_threshold is above reaps) = reaps_stay a good log b reaps

one_more_stays : (b c : State) → IsGood b → c ≡ one_more_command b → IsGood c
one_more_stays b c good e = subst IsGood (sym e) (carried_out_is_good b good)

-- A step from a good state leads to a good one.
pub step_is_good : (a : State) (command : Command) (group : List Line) (b : State) → IsGood a
    → IsStep a command group b → IsGood b
step_is_good a command group b good step = split (refusal a command) refl step
  where
    split : (because : Option Refusal) → refusal a command ≡ because → IsStepUnless because a command group b → IsGood b
    split (Some because) e m = one_more_stays a b good m.state_is
    split None e m =
        let carried = carries_stays a good command m.log m.effect e m.carries in
        let ended = ends_stay m.effect.state (is_full m.effect.reply) m.end_log m.end carried m.ends in
        one_more_stays m.end b ended m.state_is

-- so does a list of steps
pub run_is_good : (a : State) (steps : List Command) (log : List Line) (b : State) → IsGood a
    → IsRun IsStep a steps log b → IsGood b
run_is_good a [] log b good run = subst IsGood (sym run.1) good
run_is_good a (command ∷ steps) log b good run =
    run_is_good run.2 steps run.1 b (step_is_good a command run.0 run.2 good run.4) run.5
