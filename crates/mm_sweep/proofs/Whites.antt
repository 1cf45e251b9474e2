-- White objects that are found one after another.
use Rattle.std.proofs.Common.{◌≡◌, ℕ, zero, suc, ◌+◌, ◌*◌, ◌<◌, ◌≤◌, Bool, true, false, List, [], ◌∷◌, ◌++◌}
use Rattle.std.proofs.Common.{length, Option, Some, None, inl, inr, refl, ap, ◌∙◌, arith}
use Rattle.std.specs.Prelude.{◌||◌, slice_get}
use Rattle.std.specs.List.{AllByRecursion}
use Rattle.std.proofs.lemmas.Bool.{cases_lt}
use Rattle.mm_model.specs.declared.object.Colour.TheVariants.{White}
use Rattle.mm_model.specs.Phase.{lists, IsAscending}
use Rattle.mm_model.specs.Views.ByBase.{Begins, based_from, based}
use Rattle.mm_model.specs.Views.ObjectView.{ObjectView, ObjectsByBase}
use Rattle.mm_model.specs.Views.SetsByBase.{AreBasesAt}
use Rattle.mm_model.proofs.Lists.Growing.{each_push}
use Rattle.mm_model.proofs.View.ByBase.MappedEntries.{begins_mapped, mapped_begins}
use Rattle.mm_object.specs.Object.{view_of_stored, views_of}
use Rattle.mm_object.specs.Heap.{Heap}
use Rattle.mm_object.specs.Colours.{IsNextOf, NoneOfFrom}
use Rattle.mm_sweep.specs.Sweep.{IsWhiteAt, AreWhiteBelow}
use Rattle.mm_sweep.proofs.Released.{lists-append, lists_one-same}

pub each_weaken : {P Q : ℕ → Type 0} (xs : List ℕ) → ((x : ℕ) → P x → Q x) → AllByRecursion P xs → AllByRecursion Q xs
each_weaken [] imply all = tt
each_weaken (x ∷ xs) imply all = (imply x all.0, each_weaken xs imply all.1)

ascending-push : (xs : List ℕ) (end x : ℕ) → IsAscending xs → AllByRecursion (λ b. b < end) xs → end ≤ x
    → IsAscending (xs ++ x ∷ [])
ascending-push [] end x ascending below past = (tt, tt)
ascending-push (y ∷ xs) end x ascending below past =
    let first = below.0 in
    (each_push (λ next. y < next) xs x ascending.0 (omega arith), ascending-push xs end x ascending.1 below.1 past)

or-left : (a b : Bool) → a ≡ true → (a || b) ≡ true
or-left true b e = refl
or-left false b e = absurd (let no : ⊥ = cc in no)

or-right : (a b : Bool) → b ≡ true → (a || b) ≡ true
or-right true b e = refl
or-right false b e = e

pub white-more : (h : Heap) (from base : ℕ) (bases : List ℕ) → AreWhiteBelow (views_of h.objects) from bases
    → IsNextOf h White from base → AreWhiteBelow (views_of h.objects) (base + 1) (bases ++ base ∷ [])
white-more h from base bases are next =
    record {
      ascending = ascending-push bases from base are.ascending are.below next.reached;
      only =
          each_push
          (λ b. (object : ObjectView) × Begins (views_of h.objects) b object × IsWhiteAt (views_of h.objects) b)
          bases base
          are.only
          (view_of_stored next.object, begins, white);
      below =
          each_push (λ b. b < base + 1) bases base
          (each_weaken bases (λ b under. let reached = next.reached in omega arith) are.below) (omega arith);
      all = λ b object there white under.
          lists-append bases (base ∷ []) b
          ∙ elim (cases_lt b from) [
            | inl before ↦ or-left (lists bases b) (lists (base ∷ []) b) (are.all b object there white before)
            | inr after ↦
                let s = mapped_begins view_of_stored h.objects b white.object white.begins in
                let least = next.least b s.value s.begins
                (ap (λ (v : ObjectView). v.colour) s.is ∙ white.white) after in
                or-right (lists bases b) (lists (base ∷ []) b) (lists_one-same base b (omega arith))
          ];
    }
  where
    begins : Begins (views_of h.objects) base (view_of_stored next.object)
    begins = begins_mapped view_of_stored h.objects base next.object next.begins

    white : IsWhiteAt (views_of h.objects) base
    white = record { object = view_of_stored next.object; begins = begins; white = next.is }

pub white-all : (h : Heap) (from : ℕ) (bases : List ℕ) → AreWhiteBelow (views_of h.objects) from bases
    → NoneOfFrom h White from → AreBasesAt (views_of h.objects) (IsWhiteAt (views_of h.objects)) bases
white-all h from bases are none =
    record {
      ascending = are.ascending;
      only = are.only;
      all = λ b object there white.
          let s = mapped_begins view_of_stored h.objects b white.object white.begins in
          are.all b object there white
          (none b s.value s.begins (ap (λ (v : ObjectView). v.colour) s.is ∙ white.white));
    }

-- bases at which something begins are no more than what begins
record AllBegin {X : Type 0} (low : ℕ) (entries : List (Option X)) (base : ℕ) : Type 0 where
  grain : ℕ
  value : X
  at : base ≡ low + 16 * grain
  is : slice_get entries grain ≡ Some (Some value)

behind : {X : Type 0} (low : ℕ) (e : Option X) (entries : List (Option X)) (base : ℕ) → low < base
    → AllBegin low (e ∷ entries) base → AllBegin (low + 16) entries base
behind {X} low e entries base past begin = split begin.grain begin.at begin.is
  where
    split : (grain : ℕ) → base ≡ low + 16 * grain → slice_get (e ∷ entries) grain ≡ Some (Some begin.value)
        → AllBegin (low + 16) entries base
    split zero at is = absurd (omega arith)
    split (suc grain) at is = record { grain = grain; value = begin.value; at = omega arith; is = is }

all_behind : {X : Type 0} (low : ℕ) (e : Option X) (entries : List (Option X)) (bases : List ℕ)
    → AllByRecursion (λ base. low < base) bases → AllByRecursion (AllBegin low (e ∷ entries)) bases
    → AllByRecursion (AllBegin (low + 16) entries) bases
all_behind low e entries [] past all = tt
all_behind low e entries (base ∷ bases) past all =
    (behind low e entries base past.0 all.0, all_behind low e entries bases past.1 all.1)

few_bases : {X : Type 0} (low : ℕ) (entries : List (Option X)) (bases : List ℕ) → IsAscending bases
    → AllByRecursion (AllBegin low entries) bases → length bases ≤ length (based_from low entries)
few_bases low entries [] ascending all = omega arith
few_bases {X} low [] (base ∷ bases) ascending all = let is = all.0.is in absurd (let no : ⊥ = cc in no)
few_bases {X} low (e ∷ entries) (base ∷ bases) ascending all =
    elim (cases_lt low base) [
      | inl past ↦
          let rest = few_bases (low + 16) entries (base ∷ bases) ascending
          (all_behind low e entries (base ∷ bases)
          (past, each_weaken bases (λ b more. omega arith) ascending.0) all) in
          let more = longer e in
          omega arith
      | inr here ↦
          let at = all.0.at in
          let rest = few_bases (low + 16) entries bases ascending.1
          (all_behind low e entries bases (each_weaken bases (λ b more. omega arith) ascending.0) all.1) in
          let own = one e (first all.0.grain all.0.is (omega arith)) in
          omega arith
    ]
  where
    first : (grain : ℕ) → slice_get (e ∷ entries) grain ≡ Some (Some all.0.value) → grain ≡ 0 → e ≡ Some all.0.value
    first zero is zero_is = cc
    first (suc grain) is zero_is = absurd (omega arith)

    longer : (e : Option X) → length (based_from (low + 16) entries) ≤ length (based_from low (e ∷ entries))
    longer None = omega arith
    longer (Some x) = omega arith

    one : (e : Option X) → e ≡ Some all.0.value
        → length (based_from (low + 16) entries) + 1 ≤ length (based_from low (e ∷ entries))
    one None is = absurd (let no : ⊥ = cc in no)
    one (Some x) is = omega arith

all_begin : (objects : ObjectsByBase) (Dead : ℕ → Type 0) (bases : List ℕ)
    → AllByRecursion (λ base. (object : ObjectView) × Begins objects base object × Dead base) bases
    → AllByRecursion (AllBegin 0 objects) bases
all_begin objects Dead bases only =
    each_weaken bases
    (λ base one.
    let at = one.1.aligned in
    record { grain = one.1.grain; value = one.0; at = omega arith; is = one.1.is })
    only

pub few-bases : (objects : ObjectsByBase) (Dead : ℕ → Type 0) (bases : List ℕ) → AreBasesAt objects Dead bases
    → length bases ≤ length (based objects)
few-bases objects Dead bases are = few_bases 0 objects bases are.ascending (all_begin objects Dead bases are.only)
