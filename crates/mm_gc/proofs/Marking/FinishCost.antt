-- What the end of a cycle costs, told of the objects as they were before it.
use Rattle.std.proofs.Common.{◌≡◌, ℕ, suc, ◌+◌, ◌*◌, ◌/◌, ◌≤◌, Bool, true, false, List, [], ◌∷◌, length, Option}
use Rattle.std.proofs.Common.{Some, None, refl, sym, ap, ◌∙◌, arith}
use Rattle.std.specs.Prelude.{slice_get, ◌==◌, ◌||◌, if◌then◌else◌}
use Rattle.std.specs.List.{sum_by, find, AllByRecursion}
use Rattle.std.specs.Option.{option_map, option_and_then}
use Rattle.std.proofs.lemmas.List.Sums.{sum_by-cons}
use Rattle.mm_model.specs.declared.object.Colour.{Colour}
use Rattle.mm_model.specs.declared.object.Colour.TheVariants.{White}
use Rattle.mm_model.specs.Sets.Marking.{is_black}
use Rattle.mm_model.specs.Phase.{lists}
use Rattle.mm_model.specs.Views.ByBase.{Begins, Based, based, based_from, changed_from}
use Rattle.mm_model.specs.Views.ObjectView.{ObjectView, ObjectsByBase, scanned_words_of}
use Rattle.mm_model.specs.Views.SetsByBase.{AreBasesAt}
use Rattle.mm_model.specs.Views.ViewEffect.{with_colour}
use Rattle.mm_model.specs.Views.ViewWords.{object_at}
use Rattle.mm_model.proofs.View.ByBase.Entries.{get-changed, begins_same}
use Rattle.mm_count.proofs.Entries.{entry_at-begins}
use Rattle.mm_mark.specs.Draining.{unscanned_of, unscanned}
use Rattle.mm_reap.specs.Slots.{counted_slots_told, counted_slots_at, counted_slots_of}
use Rattle.mm_sweep.specs.Release.{final_slots, finalized_slots}
use Rattle.mm_sweep.specs.Sweep.{IsWhiteAt}
use Rattle.mm_sweep.specs.Sweep as sweeps
use Rattle.mm_sweep.proofs.Finals.{object_at-begins}
use Rattle.mm_gc.specs.Steps.{blackened_at}
use Rattle.mm_gc.proofs.Colours.Alike.{all_white, AreAlike}
use Rattle.mm_gc.proofs.Makes.Searching.{each_listed}

sum-same : (f g : ℕ → ℕ) → ((n : ℕ) → f n ≡ g n) → (xs : List ℕ) → sum_by f xs ≡ sum_by g xs
sum-same f g same [] = refl
sum-same f g same (x ∷ xs) =
    let first = same x in
    let rest = sum-same f g same xs in
    omega (arith, sum_by-cons f x xs, sum_by-cons g x xs, first, rest)

-- how many objects there are
based_from-white : (low : ℕ) (objects : ObjectsByBase)
    → length (based_from low (changed_from (with_colour White) low objects)) ≡ length (based_from low objects)
based_from-white low [] = refl
based_from-white low (None ∷ objects) = based_from-white (low + 16) objects
based_from-white low (Some o ∷ objects) = ap suc (based_from-white (low + 16) objects)

pub many-alike : (a b : ObjectsByBase) → AreAlike a b → length (based a) ≡ length (based b)
many-alike a b same =
    sym (based_from-white 0 a) ∙ ap (λ (os : ObjectsByBase). length (based os)) same ∙ based_from-white 0 b

-- how many counted slots some of them have
slots-white : (objects : ObjectsByBase) (base : ℕ)
    → counted_slots_at (all_white objects) base ≡ counted_slots_at objects base
slots-white objects base =
    ap told (get-changed (with_colour White) objects (base / 16)) ∙ each (slice_get objects (base / 16))
  where
    told : Option (Option ObjectView) → ℕ
    told entry = counted_slots_told (option_and_then (λ (e : Option ObjectView). e) entry)

    each : (entry : Option (Option ObjectView))
        → told (option_map (option_and_then (with_colour White (16 * (base / 16)))) entry) ≡ told entry
    each None = refl
    each (Some None) = refl
    each (Some (Some o)) = refl

pub counted-alike : (a b : ObjectsByBase) → AreAlike a b → (dead : List ℕ)
    → counted_slots_of a dead ≡ counted_slots_of b dead
counted-alike a b same dead =
    sym (sum-same (counted_slots_at (all_white a)) (counted_slots_at a) (slots-white a) dead)
    ∙ ap (λ (os : ObjectsByBase). counted_slots_of os dead) same
    ∙ sum-same (counted_slots_at (all_white b)) (counted_slots_at b) (slots-white b) dead

-- and how many slots their finalizers are told
final_from-white : (base low : ℕ) (objects : ObjectsByBase)
    → final_slots (find (λ (o : Based ObjectView). o.base == base)
    (based_from low (changed_from (with_colour White) low objects)))
    ≡ final_slots (find (λ (o : Based ObjectView). o.base == base) (based_from low objects))
final_from-white base low [] = refl
final_from-white base low (None ∷ objects) = final_from-white base (low + 16) objects
final_from-white base low (Some o ∷ objects) =
    split (low == base)
    (find (λ (o : Based ObjectView). o.base == base)
    (based_from (low + 16) (changed_from (with_colour White) (low + 16) objects)))
    (find (λ (o : Based ObjectView). o.base == base) (based_from (low + 16) objects))
    (final_from-white base (low + 16) objects)
  where
    split : (b : Bool) (now was : Option (Based ObjectView)) → final_slots now ≡ final_slots was
        → final_slots (if b then Some (record { base = low; value = record o { colour = White } }) else now)
        ≡ final_slots (if b then Some (record { base = low; value = o }) else was)
    split true now was h = refl
    split false now was h = h

pub finalized-alike : (a b : ObjectsByBase) → AreAlike a b → (dead : List ℕ)
    → finalized_slots a dead ≡ finalized_slots b dead
finalized-alike a b same dead =
    sym (sum-same (slots (all_white a)) (slots a) (λ base. final_from-white base 0 a) dead)
    ∙ ap (λ (os : ObjectsByBase). finalized_slots os dead) same
    ∙ sum-same (slots (all_white b)) (slots b) (λ base. final_from-white base 0 b) dead
  where
    slots : ObjectsByBase → ℕ → ℕ
    slots objects base = final_slots (object_at objects base)

-- A reap and a sweep count them alike.
pub counted-found : (Dead : ℕ → Type 0) (objects : ObjectsByBase) (dead : List ℕ)
    → AllByRecursion (λ base. (object : ObjectView) × Begins objects base object × Dead base) dead
    → sweeps.counted_slots_of objects dead ≡ counted_slots_of objects dead
counted-found Dead objects [] only = refl
counted-found Dead objects (base ∷ dead) only =
    let first = only.0 in
    let found : sweeps.counted_slots (object_at objects base) ≡ counted_slots_at objects base =
    ap sweeps.counted_slots (object_at-begins objects base first.0 first.1)
    ∙ ap counted_slots_told (sym (entry_at-begins objects base first.0 first.1)) in
    let rest = counted-found Dead objects dead only.1 in
    omega (
      arith,
      sum_by-cons (λ (b : ℕ). sweeps.counted_slots (object_at objects b)) base dead,
      sum_by-cons (counted_slots_at objects) base dead,
      found,
      rest,
    )

-- what is left to scan of one object, where it turns black or is freed
left_of : (dead : List ℕ) (base : ℕ) (x y : ObjectView)
    → record x { colour = White } ≡ record y { colour = White } → (lists dead base ≡ true → y.colour ≡ White)
    → unscanned_of (Some x) ≤ unscanned_of (Some y) + 1 + blackened_at dead (record { base = base; value = x })
left_of dead base x y same white = split (is_black x.colour) (lists dead base) refl
  where
    words : length (scanned_words_of x) ≡ length (scanned_words_of y)
    words = ap (λ (o : ObjectView). length (scanned_words_of o)) same

    split : (b t : Bool) → lists dead base ≡ t
        → ◌≤◌ (if b then 0 else 1 + length (scanned_words_of x))
        (unscanned_of (Some y) + 1 + (if b || t then 0 else length (scanned_words_of x)))
    split true t e = omega arith
    split false true e =
        let same_words = words in
        let is : unscanned_of (Some y) ≡ 1 + length (scanned_words_of y) =
        ap (λ (c : Colour). if is_black c then 0 else 1 + length (scanned_words_of y)) (white e) in
        omega arith
    split false false e = omega arith

-- and of all of them
left_from : (dead : List ℕ) (low : ℕ) (before after : ObjectsByBase)
    → changed_from (with_colour White) low before ≡ changed_from (with_colour White) low after
    → ((k : ℕ) (x : ObjectView) → slice_get after k ≡ Some (Some x) → lists dead (low + 16 * k) ≡ true
    → x.colour ≡ White)
    → unscanned before
    ≤ unscanned after + length (based_from low before) + sum_by (blackened_at dead) (based_from low before)
left_from dead low [] [] same white = omega arith
left_from dead low [] (None ∷ after) same white = cc
left_from dead low [] (Some y ∷ after) same white = cc
left_from dead low (None ∷ before) [] same white = cc
left_from dead low (Some x ∷ before) [] same white = cc
left_from dead low (None ∷ before) (Some y ∷ after) same white = cc
left_from dead low (Some x ∷ before) (None ∷ after) same white = cc
left_from dead low (None ∷ before) (None ∷ after) same white =
    let tails : changed_from (with_colour White) (low + 16) before ≡ changed_from (with_colour White) (low + 16) after =
    cc in
    let rest = left_from dead (low + 16) before after tails (λ k x is listed.
    let next : low + 16 + 16 * k ≡ low + 16 * suc k = omega arith in
    white (suc k) x is (sym (ap (lists dead) next) ∙ listed)) in
    omega (arith, rest, sum_by-cons unscanned_of None before, sum_by-cons unscanned_of None after)
left_from dead low (Some x ∷ before) (Some y ∷ after) same white =
    let tails : changed_from (with_colour White) (low + 16) before ≡ changed_from (with_colour White) (low + 16) after =
    cc in
    let heads : record x { colour = White } ≡ record y { colour = White } = cc in
    let first = left_of dead low x y heads (λ listed.
    let here : low ≡ low + 16 * 0 = omega arith in
    white 0 y refl (sym (ap (lists dead) here) ∙ listed)) in
    let rest = left_from dead (low + 16) before after tails (λ k x is listed.
    let next : low + 16 + 16 * k ≡ low + 16 * suc k = omega arith in
    white (suc k) x is (sym (ap (lists dead) next) ∙ listed)) in
    let own = sum_by-cons (blackened_at dead) (record { base = low; value = x }) (based_from (low + 16) before) in
    omega (
      arith,
      first,
      rest,
      own,
      sum_by-cons unscanned_of (Some x) before,
      sum_by-cons unscanned_of (Some y) after,
    )

-- What marking scanned is the slots of what became black, and one more for each object.
pub scanned-blackened : (before after : ObjectsByBase) → AreAlike before after → (dead : List ℕ)
    → AreBasesAt after (IsWhiteAt after) dead
    → unscanned before
    ≤ unscanned after + length (based before) + sum_by (blackened_at dead) (based before)
scanned-blackened before after same dead bases =
    left_from dead 0 before after same (λ k x is listed.
    let one = each_listed (λ base. (object : ObjectView) × Begins after base object × IsWhiteAt after base) dead
    (0 + 16 * k) bases.only listed in
    let here : 0 + 16 * k ≡ 16 * k = omega arith in
    ap (λ (o : ObjectView). o.colour)
    (begins_same after (0 + 16 * k) x one.2.object (record { grain = k; aligned = here; is = is }) one.2.begins)
    ∙ one.2.white)
