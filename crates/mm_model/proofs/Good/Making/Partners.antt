-- A good state stays good with other partners, if these name each other.
use Rattle.std.proofs.Common.{◌≡◌, ℕ, zero, suc, ◌<◌, ◌≤◌, Bool, List, [], ◌∷◌, ◌++◌, map, take, length, cond, true}
use Rattle.std.proofs.Common.{false, Option, Some, None, refl, sym, ap, ◌∙◌, subst, ◌||◌}
use Rattle.std.proofs.lemmas.List.{length-map}
use Rattle.std.specs.Prelude.{IsTrue, IfSome, slice_get, ◌==◌}
use Rattle.std.specs.List.{AllByRecursion, list_any, flat_map, count_by}
use Rattle.std.specs.Option.{option_map}
use Rattle.mm_model.specs.Object.{Object, is_live, is_counted, live_objects}
use Rattle.mm_model.specs.State.{State, Cycle, Lives}
use Rattle.mm_model.specs.Words.{slot_kind, cell_kind, counted_slots, scanned_slots, counted_cell_words, counted_words}
use Rattle.mm_model.specs.Words.{names}
use Rattle.mm_model.specs.Count.{refs, begins_counted, names_counted}
use Rattle.mm_model.specs.Places.Place.{object_piece, area_piece, live_pieces}
use Rattle.mm_model.specs.Good.{IsPlaced, IsStored, is_tight, IsPaired, NamesNoWhite, IsPartlyScanned, IsColoured}
use Rattle.mm_model.specs.Good.{IsGood}
use Rattle.mm_model.proofs.Good.Around.{if_some-weaker}
use Rattle.mm_model.proofs.Good.Making.Shapes.{shaped-alike}
use Rattle.mm_model.proofs.Lists.Keyed.{any-map}
use Rattle.mm_model.proofs.Places.Placing.{each_weaker}
use Rattle.mm_model.proofs.Good.References.{Keeps, is_stored-kept, each_referring-kept}

-- the object with no partner
abbrev pub alone : Object → Object
alone object = record object { partner = None }

-- what reads no partner tells the same of lists that differ in partners alone
map_live-alone : {P : Type 0} (f : Object → P) → ((o : Object) → f (alone o) ≡ f o) → (objects : List Object)
    → map f (live_objects (map alone objects)) ≡ map f (live_objects objects)
map_live-alone f same [] = refl
map_live-alone f same (o ∷ os) =
    let rest = map_live-alone f same os in
    let split : (b : Bool)
    → map f (cond b (alone o ∷ live_objects (map alone os)) (live_objects (map alone os)))
    ≡ map f (cond b (o ∷ live_objects os) (live_objects os)) =
    elim [
      | true ↦ ap (λ p. p ∷ map f (live_objects (map alone os))) (same o) ∙ ap (λ ps. f o ∷ ps) rest
      | false ↦ rest
    ] in
    split (is_live o)

flat_map_live-alone : (f : Object → List ℕ) → ((o : Object) → f (alone o) ≡ f o) → (objects : List Object)
    → flat_map f (live_objects (map alone objects)) ≡ flat_map f (live_objects objects)
flat_map_live-alone f same [] = refl
flat_map_live-alone f same (o ∷ os) =
    let rest = flat_map_live-alone f same os in
    let split : (b : Bool)
    → flat_map f (cond b (alone o ∷ live_objects (map alone os)) (live_objects (map alone os)))
    ≡ flat_map f (cond b (o ∷ live_objects os) (live_objects os)) =
    elim [
      | true ↦ ap (λ ws. ws ++ flat_map f (live_objects (map alone os))) (same o) ∙ ap (λ ws. f o ++ ws) rest
      | false ↦ rest
    ] in
    split (is_live o)

get-alone : (objects : List Object) (i : ℕ) → slice_get (map alone objects) i ≡ option_map alone (slice_get objects i)
get-alone [] i = refl
get-alone (o ∷ os) zero = refl
get-alone (o ∷ os) (suc i) = get-alone os i

-- an object at the same place of the other list
record Alike (objects : List Object) (i : ℕ) (object : Object) : Type 0 where
  other : Object
  is : slice_get objects i ≡ Some other
  same : alone other ≡ alone object

get_alike : (xs ys : List Object) → map alone xs ≡ map alone ys → (i : ℕ) (object : Object)
    → slice_get xs i ≡ Some object → Alike ys i object
get_alike xs ys e i object is = split (slice_get ys i) refl
  where
    known : option_map alone (slice_get ys i) ≡ Some (alone object)
    known = sym (get-alone ys i) ∙ ap (λ os. slice_get os i) (sym e) ∙ get-alone xs i ∙ ap (option_map alone) is

    split : (found : Option Object) → slice_get ys i ≡ found → Alike ys i object
    split None p = let none = sym (ap (option_map alone) p) ∙ known in cc
    split (Some other) p =
        let some = sym (ap (option_map alone) p) ∙ known in record { other = other; is = p; same = cc }

module _ (a : State) (objects : List Object) (alike : map alone objects ≡ map alone a.objects) where
  abbrev pub with_objects : State
  with_objects = record a { objects = objects }

  -- what it was before
  record Was (birth : ℕ) (object : Object) : Type 0 where
    before : Object
    lived : Lives a birth before
    same : alone before ≡ alone object

  was : (birth : ℕ) (object : Object) → Lives with_objects birth object → Was birth object
  was birth object h =
      let found = get_alike objects a.objects alike birth object h.is in
      record {
        before = found.other;
        lived = record { is = found.is; live = ap is_live found.same ∙ h.live };
        same = found.same;
      }

  -- what it is now
  record IsNow (birth : ℕ) (object : Object) : Type 0 where
    after : Object
    lives : Lives with_objects birth after
    same : alone after ≡ alone object

  now : (birth : ℕ) (object : Object) → Lives a birth object → IsNow birth object
  now birth object h =
      let found = get_alike a.objects objects (sym alike) birth object h.is in
      record {
        after = found.other;
        lives = record { is = found.is; live = ap is_live found.same ∙ h.live };
        same = found.same;
      }

  pub keeps-partners : Keeps a with_objects
  keeps-partners birth object h =
      let on = now birth object h in
      record {
        after = on.after;
        lives = on.lives;
        base = ap (λ (o : Object). o.base) on.same;
        extent = ap (λ (o : Object). o.extent) on.same;
        kind = ap (λ (o : Object). o.kind) on.same;
      }

  live_pieces-partners : live_pieces with_objects ≡ live_pieces a
  live_pieces-partners =
      ap (λ ps. map area_piece a.areas ++ ps)
      (sym (map_live-alone object_piece (λ o. refl) objects)
      ∙ ap (λ os. map object_piece (live_objects os)) alike
      ∙ map_live-alone object_piece (λ o. refl) a.objects)

  counted_words-partners : counted_words with_objects ≡ counted_words a
  counted_words-partners =
      ap (λ ws. ws ++ counted_cell_words a)
      (sym (flat_map_live-alone counted_slots (λ o. refl) objects)
      ∙ ap (λ os. flat_map counted_slots (live_objects os)) alike
      ∙ flat_map_live-alone counted_slots (λ o. refl) a.objects)

  names_counted-partners : (word : ℕ) → names_counted with_objects word ≡ names_counted a word
  names_counted-partners word =
      sym (any-map alone (begins_counted word) objects)
      ∙ ap (list_any (begins_counted word)) alike
      ∙ any-map alone (begins_counted word) a.objects

  no_white-partners : (cycle : Cycle) (words : List ℕ) → NamesNoWhite a cycle words
      → NamesNoWhite with_objects cycle words
  no_white-partners cycle words h birth object lives white named =
      let w = was birth object lives in
      h birth w.before w.lived white (ap (names words) w.same ∙ named)

  coloured-partners : (cycle : Cycle) → IsColoured a cycle → IsColoured with_objects cycle
  coloured-partners cycle h =
      record {
        each = h.each ∙ sym (length-map a.objects alone) ∙ ap length (sym alike) ∙ length-map objects alone;
        black = λ birth object lives black.
            let w = was birth object lives in
            no_white-partners cycle (scanned_slots object)
            (subst (NamesNoWhite a cycle) (ap scanned_slots w.same) (h.black birth w.before w.lived black));
        partly_scanned = if_some-weaker (IsPartlyScanned a cycle) (IsPartlyScanned with_objects cycle)
            (λ partly_scanned p.
            let on = now partly_scanned.object p.object p.lives in
            record {
              object = on.after;
              lives = on.lives;
              gray = p.gray;
              some_done = p.some_done;
              some_left =
                  subst (λ ws. partly_scanned.slots_done < length ws) (sym (ap scanned_slots on.same)) p.some_left;
              names = no_white-partners cycle (take partly_scanned.slots_done (scanned_slots on.after))
                  (subst (λ ws. NamesNoWhite a cycle (take partly_scanned.slots_done ws))
                  (sym (ap scanned_slots on.same)) p.names);
            }) cycle.partly_scanned h.partly_scanned;
      }

  pub partners_are_good : IsGood a
      → ((birth : ℕ) (object : Object) → Lives with_objects birth object
      → IfSome object.partner (IsPaired with_objects birth object))
      → IsGood with_objects
  partners_are_good good paired =
      record {
        growing = good.growing;
        placed = subst (IsPlaced a.settings.max) (sym live_pieces-partners) good.placed;
        shaped = λ birth object h.
            let w = was birth object h in
            shaped-alike w.before object
            (record {
              extent = ap (λ (o : Object). o.extent) (sym w.same);
              kind = ap (λ (o : Object). o.kind) (sym w.same);
              finalize = ap (λ (o : Object). o.finalize) (sym w.same);
              counted = ap (λ (o : Object). o.counted) (sym w.same);
              slots = ap (λ (o : Object). length o.slots) (sym w.same);
            })
            (good.shaped birth w.before w.lived);
        areas_shaped = good.areas_shaped;
        numbered = good.numbered;
        referred = record {
          stack = each_referring-kept a with_objects keeps-partners a.stack good.referred.stack;
          slots = λ birth object h s value e.
              let w = was birth object h in
              subst (λ (o : Object). IsStored with_objects (slot_kind o s) value) w.same
              (is_stored-kept a with_objects keeps-partners (slot_kind w.before s) value
              (good.referred.slots birth w.before w.lived s value
              (ap (λ (o : Object). slice_get o.slots s) w.same ∙ e)));
          cells = λ n area is s value e.
              is_stored-kept a with_objects keeps-partners (cell_kind area s) value
              (good.referred.cells n area is s value e);
        };
        tight = subst (AllByRecursion (λ word. IsTrue (is_tight with_objects word))) (sym counted_words-partners)
            (each_weaker (λ word. IsTrue (is_tight a word)) (λ word. IsTrue (is_tight with_objects word))
            (λ word h. ap (λ b. (word == 0) || b) (names_counted-partners word) ∙ h) (counted_words a) good.tight);
        counted = λ birth object h is free.
            let w = was birth object h in
            let most = good.counted birth w.before w.lived (ap (λ (o : Object). is_counted o.kind) w.same ∙ is)
            (ap (λ (o : Object). o.sticky) w.same ∙ free) in
            subst (λ n. n ≤ 254)
            (sym (ap (count_by (λ word. word == object.base)) counted_words-partners
            ∙ ap (refs a) (sym (ap (λ (o : Object). o.base) w.same)))) most;
        paired = paired;
        coloured = if_some-weaker (IsColoured a) (IsColoured with_objects) coloured-partners a.cycle good.coloured;
      }
