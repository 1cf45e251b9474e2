-- The scan of a part keeps a state good.
use Rattle.std.proofs.Common.{◌≡◌, ℕ, ◌+◌, ◌-◌, ◌<◌, ◌≤◌, min, Bool, true, false, ◌||◌, List, [], ◌∷◌, ◌++◌, length}
use Rattle.std.proofs.Common.{take, drop, Option, Some, None, refl, sym, ap, ◌∙◌, subst, ◌⊎◌, ⊎_elim, inl, inr}
use Rattle.std.proofs.Common.{eqb-true, arith, get_or-set_same, get_or-set_other}
use Rattle.std.proofs.Math.Seq.{take-add, take-length}
use Rattle.std.proofs.lemmas.Bool.{eq-eqb}
use Rattle.std.proofs.lemmas.List.{take_min, length-take, length-drop, length-set}
use Rattle.std.proofs.lemmas.List.Folds.{list_any-append}
use Rattle.std.proofs.lemmas.Option.{slice_get_within}
use Rattle.std.specs.Prelude.{IsTrue, IfSome, ◌==◌, if◌then◌else◌, slice_set}
use Rattle.std.specs.List.{list_any}
use Rattle.std.specs.Option.{option_map}
use Rattle.mm_model.specs.declared.line.Line.{Line}
use Rattle.mm_model.specs.declared.object.Colour.TheVariants.{White, Gray, Black}
use Rattle.mm_model.specs.Object.{Object}
use Rattle.mm_model.specs.State.{State, Cycle, PartlyScanned, Lives}
use Rattle.mm_model.specs.Words.{scanned_slots, names, falls}
use Rattle.mm_model.specs.Sets.Marking.{MayScan, colour_of, colour_in, done_in, done_of, may_continue, advanced}
use Rattle.mm_model.specs.Sets.Marking.{grayed_cycle, part_done}
use Rattle.mm_model.specs.Sets.Scan.{AreScanned}
use Rattle.mm_model.specs.Good.{NamesNoWhite, IsPartlyScanned, IsColoured, IsGood}
use Rattle.mm_model.proofs.Good.Around.{good-around}
use Rattle.mm_model.proofs.Good.Graying.{gray-after, names_no_white-grayed, names_no_white-after, grayed_is_coloured}
use Rattle.mm_model.proofs.Good.Living.{lives_same}

-- the first so many words, and the part that begins there
take-part : (done most : ℕ) (words : List ℕ)
    → take (done + length (take most (drop done words))) words ≡ take done words ++ take most (drop done words)
take-part done most words =
    let rest = drop done words in
    take-add done (length (take most rest)) words
    ∙ ap (λ n. take done words ++ take n rest) (length-take most rest)
    ∙ ap (λ ws. take done words ++ ws) (take_min most rest)

or_either : (b c : Bool) → (b || c) ≡ true → (b ≡ true) ⊎ (c ≡ true)
or_either true c e = inl refl
or_either false c e = inr e

names-append : (xs ys : List ℕ) (o : Object) → names (xs ++ ys) o ≡ true → (names xs o ≡ true) ⊎ (names ys o ≡ true)
names-append xs ys o e =
    let test : ℕ → Bool = λ word. falls word o.base o.extent in
    or_either (list_any test xs) (list_any test ys) (sym (list_any-append test xs ys) ∙ e)

-- a part that isn't the last has 64 slots
part_goes_on : (done all part : ℕ) → done ≤ all → part ≡ min 64 (all - done) → (done + part ≡ all → ⊥)
    → (1 ≤ done + part) × (done + part < all)
part_goes_on done all part within e more =
    let left : 64 < all - done = long (all - done) (λ l. more (omega arith)) in
    (omega arith, omega arith)
  where
    long : (n : ℕ) → (n ≤ 64 → ⊥) → 64 < n
    long n f = omega arith

module _ (a : State) (cycle : Cycle) (h : IsColoured a cycle) (birth : ℕ) (object : Object)
    (lives : Lives a birth object) (gray : colour_of cycle birth ≡ Gray)
    (turn : IsTrue (may_continue cycle.partly_scanned birth)) where
  abbrev words : List ℕ
  words = scanned_slots object

  abbrev done : ℕ
  done = done_in cycle.partly_scanned birth

  abbrev slots : List ℕ
  slots = take 64 (drop done words)

  -- what is done of the object before the part
  record IsDone (count : ℕ) : Type 0 where
    within : count ≤ length words
    names : NamesNoWhite a cycle (take count words)

  is_done : IsDone done
  is_done = split cycle.partly_scanned h.partly_scanned turn
    where
      split : (partly_scanned : Option PartlyScanned) → IfSome partly_scanned (IsPartlyScanned a cycle)
          → IsTrue (may_continue partly_scanned birth)
          → IsDone (done_in partly_scanned birth)
      split None p t = record { within = omega arith; names = λ j o l white named. cc }
      split (Some partly_scanned) p t =
          let same : p.object ≡ object =
          lives_same a birth p.object object (subst (λ n. Lives a n p.object) (eqb-true _ _ t) p.lives) lives in
          let left = subst (λ (o : Object). partly_scanned.slots_done < length (scanned_slots o)) same p.some_left in
          subst IsDone (sym (ap (λ b. if b then partly_scanned.slots_done else 0) t))
          (record {
            within = omega arith;
            names = subst (λ (o : Object). NamesNoWhite a cycle (take partly_scanned.slots_done (scanned_slots o)))
                same p.names;
          })

  abbrev graying : Cycle
  graying = grayed_cycle slots a cycle

  graying_is_coloured : IsColoured a graying
  graying_is_coloured = grayed_is_coloured a slots cycle h

  -- after the part, what is done of the object names nothing white
  names_done : NamesNoWhite a graying (take (done + length slots) words)
  names_done j o l white named =
      ⊎_elim
      (λ (before : names (take done words) o ≡ true).
      names_no_white-after a slots cycle h.each (take done words) is_done.names j o l white before)
      (λ (part : names slots o ≡ true). names_no_white-grayed a slots cycle h.each j o l white part)
      (names-append (take done words) slots o (ap (λ ws. names ws o) (sym (take-part done 64 words)) ∙ named))

  -- the part reaches the last slot
  abbrev ended : Cycle
  ended = record graying { colours = slice_set graying.colours birth Black; partly_scanned = None }

  within_colours : birth < length graying.colours
  within_colours =
      let each = graying_is_coloured.each in
      let known = slice_get_within a.objects birth object lives.is in
      omega arith

  colour-here : colour_of ended birth ≡ Black
  colour-here = get_or-set_same graying.colours birth Black White within_colours

  colour-other : (j : ℕ) → (j ≡ birth → ⊥) → colour_of ended j ≡ colour_of graying j
  colour-other j other = get_or-set_other graying.colours birth j Black White other

  by_birth : (P : ℕ → Type 0) (j : ℕ) → P birth → ((j ≡ birth → ⊥) → P j) → P j
  by_birth P j here other =
      let split : (b : Bool) → (j == birth) ≡ b → P j =
      elim [
        | true ↦ λ e. subst P (sym (eqb-true _ _ e)) here
        | false ↦ λ e. other (λ same. clash (sym e ∙ eq-eqb _ _ same))
      ] in
      split (j == birth) refl
    where
      clash : false ≡ true → ⊥
      clash e = cc

  no_white-ended : (others : List ℕ) → NamesNoWhite a graying others → NamesNoWhite a ended others
  no_white-ended others none j o l white named =
      let whitened : colour_of ended j ≡ White → colour_of graying j ≡ White =
      by_birth (λ j. colour_of ended j ≡ White → colour_of graying j ≡ White) j
      (λ e. absurd (clash (sym colour-here ∙ e))) (λ other e. sym (colour-other j other) ∙ e) in
      none j o l (whitened white) named
    where
      clash : Black ≡ White → ⊥
      clash e = cc

  ended_is_coloured : done + length slots ≡ length words → IsColoured a ended
  ended_is_coloured all =
      record {
        each = length-set graying.colours birth Black ∙ graying_is_coloured.each;
        black = λ j o l black.
            no_white-ended (scanned_slots o)
            (by_birth
            (λ j. (o : Object) → Lives a j o → colour_of ended j ≡ Black → NamesNoWhite a graying (scanned_slots o)) j
            (λ o l black.
            subst (λ (x : Object). NamesNoWhite a graying (scanned_slots x)) (lives_same a birth object o lives l)
            (subst (NamesNoWhite a graying) (ap (λ n. take n words) all ∙ take-length words) names_done))
            (λ other o l black. graying_is_coloured.black j o l (sym (colour-other j other) ∙ black)) o l black);
        partly_scanned = tt;
      }

  -- the part doesn't reach it
  abbrev going_on : Cycle
  going_on = record graying { partly_scanned = Some (record { object = birth; slots_done = done + length slots }) }

  going_on_is_coloured : (done + length slots ≡ length words → ⊥) → IsColoured a going_on
  going_on_is_coloured more =
      let bounds = part_goes_on done (length words) (length slots) is_done.within
      (length-take 64 (drop done words) ∙ ap (min 64) (length-drop done words)) more in
      record {
        each = graying_is_coloured.each;
        black = graying_is_coloured.black;
        partly_scanned = record {
          object = object;
          lives = lives;
          gray = gray-after a slots cycle h.each birth object lives gray;
          some_done = bounds.0;
          some_left = bounds.1;
          names = names_done;
        };
      }

  advanced_is_coloured : IsColoured a (advanced birth (done + length slots) (length words) graying)
  advanced_is_coloured = split (done + length slots == length words) refl
    where
      split : (b : Bool) → (done + length slots == length words) ≡ b
          → IsColoured a (if b then ended else going_on)
      split true e = ended_is_coloured (eqb-true _ _ e)
      split false e = going_on_is_coloured (λ same. clash (sym e ∙ eq-eqb _ _ same))
        where
          clash : false ≡ true → ⊥
          clash p = cc

coloured-part : (a : State) (birth : ℕ) (object : Object) → Lives a birth object → (cycle : Option Cycle)
    → IfSome cycle (IsColoured a) → colour_in cycle birth ≡ Gray
    → IfSome cycle (λ c. IsTrue (may_continue c.partly_scanned birth)) →
    let slots = take 64 (drop (done_of cycle birth) (scanned_slots object)) in
    IfSome
    (option_map
    (λ c. advanced birth (done_of cycle birth + length slots) (length (scanned_slots object)) (grayed_cycle slots a c))
    cycle)
    (IsColoured a)
coloured-part a birth object lives None h gray turn = tt
coloured-part a birth object lives (Some cycle) h gray turn =
    advanced_is_coloured a cycle h birth object lives gray turn

-- the scan of a part keeps a state good
pub part_is_good : (a : State) (birth : ℕ) (object : Object) → IsGood a → MayScan a birth object
    → IsGood (part_done a birth object)
part_is_good a birth object good may =
    good-around a a.stack (part_done a birth object).cycle a.threshold a.commands good good.referred.stack
    (coloured-part a birth object may.lives a.cycle good.coloured may.gray may.turn)

-- and so do the scans of `step`
pub scanned_is_good : (a : State) (births : List ℕ) (log : List Line) (b : State) → IsGood a
    → AreScanned a births log b → IsGood b
scanned_is_good a [] log b good h = subst IsGood (sym h.1) good
scanned_is_good a (birth ∷ births) log b good h =
    scanned_is_good (part_done a birth h.0) births h.1 b (part_is_good a birth h.0 good h.2) h.4
