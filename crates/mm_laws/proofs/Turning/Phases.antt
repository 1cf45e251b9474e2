-- The phases of a step are those of its turn: what each of them frees, and that nothing else is freed.
use Rattle.std.proofs.Common.{◌≡◌, ℕ, Bool, true, false, not, ◌&&◌, List, [], ◌∷◌, ◌++◌, map, Option, Some, None, refl}
use Rattle.std.proofs.Common.{sym, ap, ◌∙◌, subst, append_assoc, ◌⊎◌, ⊎_elim, inl, inr, zero, suc, arith}
use Rattle.std.proofs.lemmas.List.{append-nil}
use Rattle.std.proofs.lemmas.Grind.{flat_map-append}
use Rattle.std.proofs.lemmas.Bool.Decides.{nat_tests}
use Rattle.std.proofs.lemmas.Option.{slice_get-map}
use Rattle.std.specs.Prelude.{IsTrue, is_some, slice_get, nat_le, if◌then◌else◌}
use Rattle.std.specs.List.{AllByRecursion, flat_map}
use Rattle.std.specs.Option.{option_map, option_and_then}
use Rattle.mm_model.specs.declared.command.Command.{Command}
use Rattle.mm_model.specs.declared.command.Command.TheVariants as commands
use Rattle.mm_model.specs.declared.refusal.Refusal.{Refusal}
use Rattle.mm_model.specs.declared.refusal.Refusal.TheVariants as refusals
use Rattle.mm_model.specs.declared.line.Line.{Line}
use Rattle.mm_model.specs.declared.line.Line.TheVariants as lines
use Rattle.mm_model.specs.declared.line.Phase.{Phase}
use Rattle.mm_model.specs.declared.line.Phase.TheVariants.{Reap, Collect}
use Rattle.mm_model.specs.Places.SizeClass.{object_bytes, area_bytes}
use Rattle.mm_model.specs.Places.Place.{Family, Objects, Areas}
use Rattle.mm_model.specs.Object.{Object}
use Rattle.mm_model.specs.State.{State}
use Rattle.mm_model.specs.Count.{zero_count}
use Rattle.mm_model.specs.Good.{IsGood}
use Rattle.mm_model.specs.Logs.Course.{IsGone}
use Rattle.mm_model.specs.Sets.Reapable.{IsReapable}
use Rattle.mm_model.specs.Sets.Reached.{IsUnreached}
use Rattle.mm_model.specs.Sets.Marking.{IsFreedAtFinish, part_done}
use Rattle.mm_model.specs.Phase.{AreBasesOf, lists, is_freed, unless_freed, after_release, phase_lines, reaped}
use Rattle.mm_model.specs.Phase.{collected}
use Rattle.mm_model.specs.Places.Search.{Searches, At_once, After_reap, After_collection}
use Rattle.mm_model.specs.Sets.Scan.{AreScanned}
use Rattle.mm_model.specs.Effect.{Effect, new_effect, weak_effect, area_effect, plain_effect}
use Rattle.mm_model.specs.Refusing.{refusal}
use Rattle.mm_model.specs.Step.{Makes, MakesWeak, Carries, is_full, Ends, Refused_as_full, Below_threshold}
use Rattle.mm_model.specs.Step.{At_threshold, IsStepUnless, IsStep}
use Rattle.mm_model.specs.After.{freed_bases, phases_in, Row, row_after}
use Rattle.mm_model.specs.Logs.Turns.{Born, Way, Reaping, Collecting, Finishing, PhaseOf, first_of, collection_unless}
use Rattle.mm_model.specs.Logs.Turns.{reap_unless, search_phases, weak_phases, row_phases, end_phases, phases_unless}
use Rattle.mm_model.specs.Logs.Turns.{Frees}
use Rattle.mm_model.specs.Logs.Faithful.{IsFreedIn}
use Rattle.mm_model.proofs.Good.Allowed.{first_refusal-None}
use Rattle.mm_model.proofs.Good.Living.{each_append}
use Rattle.mm_model.proofs.Good.Phases.{reaped_is_good}
use Rattle.mm_model.proofs.Good.Steps.{carries_stays}
use Rattle.mm_model.proofs.Lists.Truth.{no_other}
use Rattle.mm_laws.proofs.Keeping.Following.{get-released}
use Rattle.mm_laws.proofs.Keeping.FollowingSteps.{keeps-searched, scanned-objects, strong-allowed}
use Rattle.mm_laws.proofs.Keeping.Seeing.{same-object, same-plain}
use Rattle.mm_model.proofs.Steps.Determining.{row_as, tail_of, row_after-carried}
use Rattle.mm_model.proofs.Steps.Groups.{phases_in-phase_lines, freed_bases-phase_lines, freed_bases-append}
use Rattle.mm_laws.proofs.Turning.Bearing.{Views, SeesBorn, bears-new, bears-weak, bears-area}

-- a scan frees nothing
pub freed_bases-scanned : (a : State) (births : List ℕ) (log : List Line) (b : State) → AreScanned a births log b
    → freed_bases log ≡ []
freed_bases-scanned a [] log b scanned = ap freed_bases scanned.0
freed_bases-scanned a (birth ∷ births) log b scanned =
    ap freed_bases scanned.3 ∙ freed_bases-scanned (part_done a birth scanned.0) births scanned.1 b scanned.4

-- what each way of freeing frees
abbrev pub Dead : Way → State → ℕ → Type 0
Dead Reaping a birth = IsReapable a birth
Dead Collecting a birth = IsUnreached a birth
Dead Finishing a birth = IsFreedAtFinish a birth

-- A phase of a turn that begins in a state: it begins in a good one, and frees what it should.
pub record IsRight (start : State) (phase : PhaseOf) : Type 0 where
  pub good : IsGood phase.before
  pub are : AreBasesOf phase.before (Dead phase.way phase.before) phase.bases
  pub finishing : phase.way ≡ Finishing → (phase.before ≡ start) × IsTrue (is_some start.cycle)

-- all phases between two states, and the lines that they write
pub record AreRight (start a : State) (phases : List PhaseOf) (log : List Line) (b : State) : Type 0 where
  pub each : AllByRecursion (IsRight start) phases
  pub told : freed_bases log ≡ flat_map (λ phase. phase.bases) phases
  pub gone : (birth : ℕ) → IsGone b birth → IsGone a birth ⊎ IsFreedIn phases birth

freed-front : (ps qs : List PhaseOf) (birth : ℕ) → IsFreedIn ps birth → IsFreedIn (ps ++ qs) birth
freed-front [] qs birth h = absurd h
freed-front (p ∷ ps) qs birth (inl h) = inl h
freed-front (p ∷ ps) qs birth (inr h) = inr (freed-front ps qs birth h)

freed-back : (ps qs : List PhaseOf) (birth : ℕ) → IsFreedIn qs birth → IsFreedIn (ps ++ qs) birth
freed-back [] qs birth h = h
freed-back (p ∷ ps) qs birth h = inr (freed-back ps qs birth h)

-- what was gone before, where more objects stand behind that aren't
true-before : {X : Type 0} (xs : List Bool) (ys : List X) (i : ℕ) → slice_get (xs ++ map (λ y. false) ys) i ≡ Some true
    → slice_get xs i ≡ Some true
true-before [] ys i e = split (slice_get ys i) (sym (slice_get-map (λ y. false) ys i) ∙ e)
  where
    split : {X : Type 0} (found : Option X) → option_map (λ y. false) found ≡ Some true → slice_get [] i ≡ Some true
    split None e = cc
    split (Some y) e = cc
true-before (x ∷ xs) ys zero e = e
true-before (x ∷ xs) ys (suc i) e = true-before xs ys i e

-- what a birth leaves of the gone objects
abbrev is_gone : Object → Bool
is_gone object = object.gone

abbrev never_gone : Born → Bool
never_gone born = false

gone_views : Views is_gone never_gone
gone_views = record { unstuck = λ _ _ _. refl; unpaired = λ _ _. refl; born = λ _ _ _. refl }

gone-back : (a : State) (births : List Born) (b : State) → SeesBorn is_gone never_gone a births b → (birth : ℕ)
    → IsGone b birth → IsGone a birth
gone-back a births b bears birth h =
    let there : slice_get (map is_gone b.objects) birth ≡ Some true =
    slice_get-map is_gone b.objects birth ∙ ap (option_map is_gone) h.is ∙ ap (λ (g : Bool). Some g) h.gone in
    let before : slice_get (map is_gone a.objects) birth ≡ Some true =
    true-before (map is_gone a.objects) births birth (sym (ap (λ gs. slice_get gs birth) bears) ∙ there) in
    split (slice_get a.objects birth) refl (sym (slice_get-map is_gone a.objects birth) ∙ before)
  where
    split : (found : Option Object) → slice_get a.objects birth ≡ found → option_map is_gone found ≡ Some true
        → IsGone a birth
    split None is e = cc
    split (Some object) is e = record { object = object; is = is; gone = let same : object.gone ≡ true = cc in same }

gone-same : (a b : State) → b.objects ≡ a.objects → (birth : ℕ) → IsGone b birth → IsGone a birth
gone-same a b same birth h =
    record { object = h.object; is = sym (ap (λ os. slice_get os birth) same) ∙ h.is; gone = h.gone }

-- what a release makes gone, it frees
gone-released : (way : Way) (a b : State) (bases : List ℕ) → b.objects ≡ map (after_release a bases) a.objects
    → (birth : ℕ) → IsGone b birth
    → IsGone a birth ⊎ Frees (record { way = way; before = a; bases = bases }) birth
gone-released way a b bases is birth h = split (slice_get a.objects birth) refl
  where
    split : (found : Option Object) → slice_get a.objects birth ≡ found
        → IsGone a birth ⊎ Frees (record { way = way; before = a; bases = bases }) birth
    split None e =
        let none = ap (λ os. slice_get os birth) is ∙ slice_get-map (after_release a bases) a.objects birth
        ∙ ap (option_map (after_release a bases)) e in
        let some = h.is in
        cc
    split (Some object) e = by_mark object.gone refl
      where
        by_mark : (g : Bool) → object.gone ≡ g
            → IsGone a birth ⊎ Frees (record { way = way; before = a; bases = bases }) birth
        by_mark true g = inl (record { object = object; is = e; gone = g })
        by_mark false g = by_list (lists bases object.base) refl
          where
            by_list : (l : Bool) → lists bases object.base ≡ l
                → IsGone a birth ⊎ Frees (record { way = way; before = a; bases = bases }) birth
            by_list true l =
                inr (record { object = object; lives = record { is = e; live = ap not g }; listed = l })
            by_list false l =
                let kept : is_freed bases object ≡ false =
                ap (λ c. c && lists bases object.base) (ap not g) ∙ l in
                let there = get-released a b bases is birth object e in
                let some = h.is in
                let same : after_release a bases object ≡ h.object = cc in
                absurd (no_other
                (ap
                (λ c.
                (if c then record object { gone = true }
                else record object { partner = unless_freed a bases object.partner }).gone) kept ∙ g)
                (ap (λ (o : Object). o.gone) same ∙ h.gone))

module _ (start : State) where
  right-none : (a b : State) → ((birth : ℕ) → IsGone b birth → IsGone a birth) → AreRight start a [] [] b
  right-none a b back = record { each = tt; told = refl; gone = λ birth h. inl (back birth h) }

  right-then : (a b c : State) (ps qs : List PhaseOf) (log more : List Line) → AreRight start a ps log b
      → AreRight start b qs more c → AreRight start a (ps ++ qs) (log ++ more) c
  right-then a b c ps qs log more p q =
      record {
        each = each_append (IsRight start) ps qs p.each q.each;
        told = freed_bases-append log more
            ∙ ap (λ bases. bases ++ freed_bases more) p.told
            ∙ ap (λ bases. flat_map (λ phase. phase.bases) ps ++ bases) q.told
            ∙ sym (flat_map-append (λ (phase : PhaseOf). phase.bases) ps qs);
        gone = λ birth h.
            ⊎_elim
            (λ (l : IsGone b birth).
            ⊎_elim (λ (m : IsGone a birth). inl m) (λ (m : IsFreedIn ps birth). inr (freed-front ps qs birth m))
            (p.gone birth l))
            (λ (r : IsFreedIn qs birth). inr (freed-back ps qs birth r)) (q.gone birth h);
      }

  right-phase : (what : Phase) (phase : PhaseOf) (b : State)
      → b.objects ≡ map (after_release phase.before phase.bases) phase.before.objects → IsRight start phase
      → AreRight start phase.before (phase ∷ []) (phase_lines what phase.before phase.bases) b
  right-phase what phase b is right =
      let bases = phase.bases in
      record {
        each = (right, tt);
        told = ap freed_bases (sym (append-nil (phase_lines what phase.before bases)))
            ∙ freed_bases-phase_lines what phase.before bases [];
        gone = λ birth h.
            ⊎_elim (λ (l : IsGone phase.before birth). inl l) (λ (r : Frees phase birth). inr (inl r))
            (gone-released phase.way phase.before b bases is birth h);
      }

  right_reap : (a : State) (dead : List ℕ) → IsGood a → AreBasesOf a (IsReapable a) dead
      → AreRight start a (record { way = Reaping; before = a; bases = dead } ∷ []) (phase_lines Reap a dead)
      (reaped dead a)
  right_reap a dead good are =
      right-phase Reap (record { way = Reaping; before = a; bases = dead }) (reaped dead a) refl
      (record { good = good; are = are; finishing = λ e. cc })

  right_collection : (a : State) (lost : List ℕ) → IsGood a → AreBasesOf a (IsUnreached a) lost
      → AreRight start a (record { way = Collecting; before = a; bases = lost } ∷ []) (phase_lines Collect a lost)
      (collected lost a)
  right_collection a lost good are =
      right-phase Collect (record { way = Collecting; before = a; bases = lost }) (collected lost a) refl
      (record { good = good; are = are; finishing = λ e. cc })

  right-same : (a : State) (ps qs : List PhaseOf) (log more : List Line) (b c : State) → AreRight start a ps log b
      → qs ≡ ps → more ≡ log → c ≡ b → AreRight start a qs more c
  right-same a ps qs log more b c h p l s =
      subst (λ x. AreRight start a qs more x) (sym s)
      (subst (λ x. AreRight start a qs x b) (sym l) (subst (λ x. AreRight start a x log b) (sym p) h))

  right-searched : (a : State) (family : Family) (bytes : ℕ) (log tail : List Line) (b : State) (found : Option ℕ)
      → IsGood a → Searches a family bytes log b found
      → AreRight start a (search_phases a family bytes (phases_in (log ++ tail))) log b
  right-searched a family bytes log tail b found good (At_once base here log_is b_is found_is) =
      right-same a [] _ [] log a b (right-none a a (λ birth h. h))
      (ap (λ place. reap_unless place a family bytes (phases_in (log ++ tail))) here) log_is b_is
  right-searched a family bytes log tail b found good (After_reap base dead none are here log_is b_is found_is) =
      right-same a _ _ (phase_lines Reap a dead) log (reaped dead a) b (right_reap a dead good are)
      (ap (λ log. search_phases a family bytes (phases_in (log ++ tail))) log_is
      ∙ ap (search_phases a family bytes) (phases_in-phase_lines Reap a dead tail)
      ∙ ap (λ place. reap_unless place a family bytes (dead ∷ phases_in tail)) none
      ∙ ap
      (λ place.
      first_of Reaping a (dead ∷ phases_in tail) ∷ collection_unless place (reaped dead a) (phases_in tail)) here)
      log_is b_is
  right-searched a family bytes log tail b found good
      (After_collection dead lost none are still gone log_is b_is found_is) =
      let middle : State = reaped dead a in
      let second : List Line = phase_lines Collect middle lost in
      right-same a _ _ (phase_lines Reap a dead ++ second) log (collected lost middle) b
      (right-then a middle (collected lost middle) _ _ (phase_lines Reap a dead) second
      (right_reap a dead good are) (right_collection middle lost (reaped_is_good a dead good are) gone))
      (ap (λ log. search_phases a family bytes (phases_in (log ++ tail))) log_is
      ∙ ap (λ log. search_phases a family bytes (phases_in log)) (append_assoc (phase_lines Reap a dead) second tail)
      ∙ ap (search_phases a family bytes) (phases_in-phase_lines Reap a dead (second ++ tail))
      ∙ ap (λ place. reap_unless place a family bytes (dead ∷ phases_in (second ++ tail))) none
      ∙ ap
      (λ place.
      first_of Reaping a (dead ∷ phases_in (second ++ tail))
      ∷ collection_unless place middle (phases_in (second ++ tail))) still
      ∙ ap
      (λ (rest : List (List ℕ)).
      first_of Reaping a (dead ∷ phases_in (second ++ tail)) ∷ first_of Collecting middle rest ∷ [])
      (phases_in-phase_lines Collect middle lost tail))
      log_is b_is

  -- with what is made of the place, which frees nothing
  right-makes : (a : State) (family : Family) (bytes : ℕ) (made : State → Option ℕ → Effect) (log tail : List Line)
      (effect : Effect) → IsGood a → (m : Makes a family bytes made log effect)
      → ((birth : ℕ) → IsGone (made m.state m.found).state birth → IsGone m.state birth)
      → AreRight start a (search_phases a family bytes (phases_in (log ++ tail))) log effect.state
  right-makes a family bytes made log tail effect good m back =
      let first = right-searched a family bytes log tail m.state m.found good m.search in
      subst (λ (e : Effect). AreRight start a (search_phases a family bytes (phases_in (log ++ tail))) log e.state)
      (sym m.effect_is)
      (record {
        each = first.each;
        told = first.told;
        gone = λ birth h. first.gone birth (back birth h);
      })

  right-weak : (a : State) (i target : ℕ) (object : Object) → slice_get a.objects target ≡ Some object
      → (partner : Option ℕ) (log tail : List Line) (effect : Effect) → IsGood a
      → MakesWeak a target partner log effect
      → AreRight start a (weak_phases a partner (phases_in (log ++ tail))) log effect.state
  right-weak a i target object is (Some weak) log tail effect good m =
      right-same a [] [] [] log _ effect.state
      (right-none a _ (λ birth h. gone-back a [] _ (same-object is_gone gone_views.unstuck a weak
      ∙ sym (append-nil (map is_gone a.objects))) birth h)) refl m.no_lines
      (ap (λ (e : Effect). e.state) m.effect_is)
  right-weak a i target object is None log tail effect good m =
      let one = keeps-searched a _ _ log m.state m.found m.search target object is in
      right-makes a Objects (object_bytes 0) (λ b found. weak_effect b target found) log tail effect good m
      (λ birth h.
      gone-back m.state _ _
      (bears-weak is_gone never_gone gone_views a m.state i target one.after m.found one.is) birth h)

  right-plain : (a : State) (command : Command) (log : List Line) (effect : Effect) → log ≡ []
      → effect ≡ plain_effect a command → AreRight start a [] log effect.state
  right-plain a command log effect none is =
      right-same a [] [] [] log (plain_effect a command).state effect.state
      (right-none a (plain_effect a command).state
      (λ birth h.
      gone-back a [] (plain_effect a command).state
      (same-plain is_gone gone_views.unstuck a command (λ _ _ _ _. refl) ∙ sym (append-nil (map is_gone a.objects)))
      birth h))
      refl none (ap (λ (e : Effect). e.state) is)

-- the phases of a command's row, in the state in which the turn begins
module _ (a : State) (log tail : List Line) (effect : Effect) (good : IsGood a) where
  right-one : (what : Phase) (way : Way) (bases : List ℕ) → AreBasesOf a (Dead way a) bases
      → (way ≡ Finishing → IsTrue (is_some a.cycle)) → (b : State) → b.objects ≡ map (after_release a bases) a.objects
      → log ≡ phase_lines what a bases → effect.state ≡ b
      → AreRight a a (first_of way a (phases_in (log ++ tail)) ∷ []) log effect.state
  right-one what way bases are runs b is log_is state_is =
      let phase : PhaseOf = record { way = way; before = a; bases = bases } in
      right-same a a (phase ∷ []) _ (phase_lines what a bases) log b effect.state
      (right-phase a what phase b is (record { good = good; are = are; finishing = λ e. (refl, runs e) }))
      (ap (λ log. first_of way a (phases_in (log ++ tail)) ∷ []) log_is
      ∙ ap (λ phases. first_of way a phases ∷ []) (phases_in-phase_lines what a bases tail))
      log_is state_is

  runs-allowed : refusal a commands.Finish ≡ None → IsTrue (is_some a.cycle)
  runs-allowed allowed =
      split (is_some a.cycle) (first_refusal-None (not (is_some a.cycle)) refusals.Idle [] allowed).0
    where
      split : (b : Bool) → not b ≡ false → b ≡ true
      split true e = refl
      split false e = cc

  right-carried : (command : Command) → refusal a command ≡ None → Carries a command log effect
      → AreRight a a (row_phases a command (phases_in (log ++ tail))) log effect.state
  right-carried (commands.New shape) allowed m =
      right-makes a a Objects (object_bytes shape.slots) (λ b found. new_effect b shape found) log tail effect good m
      (gone-back m.state _ _ (bears-new is_gone never_gone gone_views a m.state shape m.found))
  right-carried (commands.Weak i) allowed m =
      subst
      (λ found.
      AreRight a a (weak_phases a (option_and_then (λ (o : Object). o.partner) found) (phases_in (log ++ tail))) log
      effect.state)
      (sym m.object_is)
      (right-weak a a i m.target m.object (strong-allowed a i m.target m.object allowed m.target_is m.object_is).is
      m.object.partner log tail effect good m.makes)
  right-carried (commands.Root counted cells) allowed m =
      right-makes a a Areas (area_bytes cells) (λ b found. area_effect b true counted cells found) log tail effect good
      m
      (gone-back m.state _ _
      (bears-area is_gone never_gone gone_views a m.state (commands.Root counted cells) true counted cells m.found
      (λ _. refl)))
  right-carried (commands.Fixed cells) allowed m =
      right-makes a a Areas (area_bytes cells) (λ b found. area_effect b false 0 cells found) log tail effect good m
      (gone-back m.state _ _
      (bears-area is_gone never_gone gone_views a m.state (commands.Fixed cells) false 0 cells m.found (λ _. refl)))
  right-carried commands.Reap allowed m =
      right-one Reap Reaping m.0.dead m.0.reapable (λ e. cc) (reaped m.0.dead a) refl m.0.log_is m.0.state
  right-carried commands.Collect allowed m =
      right-one Collect Collecting m.0.lost m.0.unreached (λ e. cc) (collected m.0.lost a) refl m.0.log_is m.0.state
  right-carried commands.Finish allowed m =
      right-one Collect Finishing m.0.lost m.0.unmarked (λ e. runs-allowed allowed) (collected m.0.lost a) refl
      m.0.log_is m.0.state
  right-carried (commands.Step k) allowed m =
      record {
        each = tt;
        told = freed_bases-scanned a m.0.births log effect.state m.0.scanned;
        gone = λ birth h. inl
            (gone-same a effect.state (scanned-objects a m.0.births log effect.state m.0.scanned) birth h);
      }
  right-carried (commands.Push word) allowed m = right-plain a a (commands.Push word) log effect m.no_lines m.effect_is
  right-carried (commands.Dup i) allowed m = right-plain a a (commands.Dup i) log effect m.no_lines m.effect_is
  right-carried (commands.Pop k) allowed m = right-plain a a (commands.Pop k) log effect m.no_lines m.effect_is
  right-carried (commands.Inner i d) allowed m = right-plain a a (commands.Inner i d) log effect m.no_lines m.effect_is
  right-carried (commands.Get i s) allowed m = right-plain a a (commands.Get i s) log effect m.no_lines m.effect_is
  right-carried (commands.Put i s j) allowed m = right-plain a a (commands.Put i s j) log effect m.no_lines m.effect_is
  right-carried (commands.Look i) allowed m = right-plain a a (commands.Look i) log effect m.no_lines m.effect_is
  right-carried (commands.DropArea n) allowed m =
      right-plain a a (commands.DropArea n) log effect m.no_lines m.effect_is
  right-carried (commands.AreaGet n s) allowed m =
      right-plain a a (commands.AreaGet n s) log effect m.no_lines m.effect_is
  right-carried (commands.AreaPut n s j) allowed m =
      right-plain a a (commands.AreaPut n s j) log effect m.no_lines m.effect_is
  right-carried commands.Begin allowed m = right-plain a a commands.Begin log effect m.no_lines m.effect_is
  right-carried (commands.Map i) allowed m = right-plain a a (commands.Map i) log effect m.no_lines m.effect_is
  right-carried commands.Stat allowed m = right-plain a a commands.Stat log effect m.no_lines m.effect_is

-- the reap at the end
module _ (start : State) (effect : Effect) (b : State) (good : IsGood effect.state) where
  abbrev a : State
  a = effect.state

  abbrev phases_at : Bool → Bool → List (List ℕ) → List PhaseOf
  phases_at full reached phases = if full then [] else if reached then first_of Reaping a phases ∷ [] else []

  right-ended : (log : List Line) (tail : List Line) → Ends a (is_full effect.reply) log b
      → AreRight start a (end_phases (row_as effect (phases_in (log ++ tail)))) log b
  right-ended log tail (Refused_as_full is log_is b_is) =
      right-same start a [] _ [] log a b (right-none start a a (λ birth h. h))
      (ap (λ (full : Bool). phases_at full (nat_le a.threshold (zero_count a)) (phases_in (log ++ tail))) is) log_is
      b_is
  right-ended log tail (Below_threshold is below log_is b_is) =
      let short : nat_le a.threshold (zero_count a) ≡ false = grind (arith, nat_tests) in
      right-same start a [] _ [] log a b (right-none start a a (λ birth h. h))
      (ap (λ (full : Bool). phases_at full (nat_le a.threshold (zero_count a)) (phases_in (log ++ tail))) is
      ∙ ap (λ (reached : Bool). phases_at false reached (phases_in (log ++ tail))) short)
      log_is b_is
  right-ended log tail (At_threshold is reached reaps) =
      let long : nat_le a.threshold (zero_count a) ≡ true = grind (arith, nat_tests) in
      right-same start a _ _ (phase_lines Reap a reaps.dead) log (reaped reaps.dead a) b
      (right_reap start a reaps.dead good reaps.reapable)
      (ap (λ (full : Bool). phases_at full (nat_le a.threshold (zero_count a)) (phases_in (log ++ tail))) is
      ∙ ap (λ (reached : Bool). phases_at false reached (phases_in (log ++ tail))) long
      ∙ ap (λ log. phases_at false true (phases_in (log ++ tail))) reaps.log_is
      ∙ ap (phases_at false true) (phases_in-phase_lines Reap a reaps.dead tail))
      reaps.log_is reaps.state

-- all phases of a step
pub right-step : (a : State) (command : Command) (group : List Line) (b : State) → IsGood a → IsStep a command group b
    → AreRight a a (phases_unless (refusal a command) a command group) group b
right-step a command group b good step = split (refusal a command) refl step
  where
    split : (because : Option Refusal) → refusal a command ≡ because → IsStepUnless because a command group b
        → AreRight a a (phases_unless because a command group) group b
    split (Some because) e m =
        record {
          each = tt;
          told = ap freed_bases m.group_is;
          gone = λ birth h. inl (gone-same a b (ap (λ (s : State). s.objects) m.state_is) birth h);
        }
    split None e m =
        let tail = tail_of m in
        let reply = lines.Reply m.effect.reply ∷ [] in
        let grouped = m.group_is ∙ append_assoc m.log m.end_log reply in
        let first = right-carried a m.log tail m.effect good command e m.carries in
        let second = right-ended a m.effect m.end (carries_stays a good command m.log m.effect e m.carries) m.end_log
        reply m.ends in
        let both = right-then a a m.effect.state m.end _ _ m.log m.end_log first second in
        record {
          each = subst (AllByRecursion (IsRight a)) (sym (phases_are tail grouped)) both.each;
          told = ap freed_bases m.group_is
              ∙ freed_bases-append (m.log ++ m.end_log) reply
              ∙ append-nil (freed_bases (m.log ++ m.end_log))
              ∙ both.told
              ∙ ap (flat_map (λ (phase : PhaseOf). phase.bases)) (sym (phases_are tail grouped));
          gone = λ birth h.
              subst (λ phases. IsGone a birth ⊎ IsFreedIn phases birth) (sym (phases_are tail grouped))
              (both.gone birth (gone-same m.end b (ap (λ (s : State). s.objects) m.state_is) birth h));
        }
      where
        phases_are : (tail : List Line) → group ≡ m.log ++ tail_of m
            → row_phases a command (phases_in group) ++ end_phases (row_after a command group)
            ≡ row_phases a command (phases_in (m.log ++ tail_of m)) ++ end_phases
            (row_as m.effect (phases_in (tail_of m)))
        phases_are tail grouped =
            ap (λ group. row_phases a command (phases_in group) ++ end_phases (row_after a command group)) grouped
            ∙ ap
            (λ (row : Row).
            row_phases a command (phases_in (m.log ++ tail_of m)) ++ end_phases row)
            (ap (row_after a command) (sym grouped) ∙ row_after-carried a command group b good.placed m)
