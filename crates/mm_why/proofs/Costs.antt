-- What is found once costs no more than all that lives.
use Rattle.std.proofs.Common.{◌≡◌, ℕ, ◌+◌, ◌*◌, ◌≤◌, true, false, List, [], ◌∷◌, ◌++◌, map}
use Rattle.std.proofs.Common.{length, Some, refl, sym, ap, subst, ◌∙◌, arith, eqb-true, get_or, suc}
use Rattle.std.specs.Prelude.{nat_eq}
use Rattle.std.specs.List.{sum_by, AllByRecursion, IsDistinct}
use Rattle.std.proofs.lemmas.Bool.{eq-eqb}
use Rattle.std.proofs.lemmas.List.{length-map}
use Rattle.std.proofs.lemmas.List.Sums.{sum_by-cons, sum_by-append}
use Rattle.std.proofs.lemmas.Option.{slice_get-get_or}
use Rattle.std.proofs.lemmas.Map.Keys.{IsDistinct-from_apart}
use Rattle.mm_model.specs.Views.ByBase.{Begins, Based, based}
use Rattle.mm_model.specs.Views.ObjectView.{ObjectView, ObjectsByBase, scanned_words_of}
use Rattle.mm_model.proofs.Lists.Counts.{sum_by-split}
use Rattle.mm_model.proofs.Lists.Growing.{find-only}
use Rattle.mm_model.proofs.Lists.Keyed.{at, IsKeyed, refuted}
use Rattle.mm_model.proofs.Lists.KeyedSums.{without, at-without_other, keyed-without, sum-without}
use Rattle.mm_model.proofs.View.ByBase.Entries.{based_at, begins_at, begins_same, keyed-based}
use Rattle.mm_why.specs.declared.found.Found.{Found}
use Rattle.mm_why.specs.Path.{scanned_slots_of}
use Rattle.mm_why.specs.Queue.{Queue, IsSoundQueue}
use Rattle.mm_why.specs.Search.{AreLive, slots_at, cost_of}
use Rattle.mm_why.proofs.Objects.{slots-at}
use Rattle.mm_why.proofs.Queues.{mapped}

module _ {X : Type 0} (key : X → ℕ) (own : ℕ → ℕ) (f : X → ℕ) where
  -- what stands under a number, and is worth no less
  pub record IsWorth (xs : List X) (k : ℕ) : Type 0 where
    pub value : X
    pub is : at key xs k ≡ Some value
    pub worth : own k ≤ f value

  -- Different numbers under which something stands are worth no more than all that stands there.
  pub sum-keys : (ks : List ℕ) (xs : List X) → IsKeyed key xs → IsDistinct nat_eq ks
      → AllByRecursion (IsWorth xs) ks → sum_by own ks ≤ sum_by f xs
  unfolding IsDistinct
  sum-keys [] xs keyed distinct worth = omega arith
  sum-keys (k ∷ ks) xs keyed distinct worth =
      let here = worth.0 in
      let rest = sum-keys ks (without key k xs) (keyed-without key k xs keyed) distinct.1
      (others ks distinct.0 worth.1) in
      let all = sum-without key f k xs here.value keyed here.is in
      let own_sum = sum_by-cons own k ks in
      let bound = here.worth in
      omega arith
    where
      others : (js : List ℕ) → AllByRecursion (λ j. nat_eq k j ≡ false) js → AllByRecursion (IsWorth xs) js
          → AllByRecursion (IsWorth (without key k xs)) js
      others [] apart w = tt
      others (j ∷ js) apart w =
          let ne : j ≡ k → ⊥ = λ e. clash (sym apart.0 ∙ eq-eqb k j (sym e)) in (
            record {
              value = w.0.value;
              is = at-without_other key k xs j ne ∙ w.0.is;
              worth = w.0.worth;
            },
            others js apart.1 w.1,
          )
        where
          clash : false ≡ true → ⊥
          clash e = cc

-- the object at a base, among those that live
pub object-under : (objects : ObjectsByBase) (base : ℕ) (object : ObjectView) → Begins objects base object
    → at (λ (o : Based ObjectView). o.base) (based objects) base ≡ Some (record { base = base; value = object })
object-under objects base object begins =
    let there = based_at objects base object begins in
    find-only (λ (o : Based ObjectView). nat_eq o.base base) (based objects) there.0
    (record { base = base; value = object }) there.1 (eq-eqb base base refl)
    (λ i other is same. one other (begins_at objects i other is) (eqb-true other.base base same))
  where
    one : (other : Based ObjectView) → Begins objects other.base other.value → other.base ≡ base
        → other ≡ record { base = base; value = object }
    one other b e =
        let value : other.value ≡ object = begins_same objects base other.value object
        (subst (λ (n : ℕ). Begins objects n other.value) e b) begins in
        ap (λ (n : ℕ). record { base = n; value = other.value }) e
        ∙ ap (λ (v : ObjectView). record { base = base; value = v }) value

sum-ones : {X : Type 0} (xs : List X) → sum_by (λ x. 1) xs ≡ length xs
sum-ones [] = refl
sum-ones {X} (x ∷ xs) =
    let rest = sum-ones xs in
    let own = sum_by-cons (λ (y : X). 1) x xs in
    omega arith

sum-mapped : {X : Type 0} (own : ℕ → ℕ) (g : X → ℕ) (xs : List X)
    → sum_by own (map g xs) ≡ sum_by (λ x. own (g x)) xs
sum-mapped own g [] = refl
sum-mapped {X} own g (x ∷ xs) =
    sum_by-cons own (g x) (map g xs) ∙ ap (λ (n : ℕ). own (g x) + n) (sum-mapped own g xs)
    ∙ sym (sum_by-cons (λ (y : X). own (g y)) x xs)

module _ (objects : ObjectsByBase) (q : Queue) (sound : IsSoundQueue q) (live : AreLive objects q.found) where
  abbrev bases : List ℕ
  bases = map (λ (entry : Found). entry.base) q.found

  distinct : IsDistinct nat_eq bases
  distinct = IsDistinct-from_apart nat_eq bases (λ i j d low high.
      let size = length-map q.found (λ (entry : Found). entry.base) in
      let one = mapped (λ (entry : Found). entry.base) q.found i _ (slice_get-get_or bases i d (omega arith)) in
      let two = mapped (λ (entry : Found). entry.base) q.found j _ (slice_get-get_or bases j d high) in
      refuted _ (λ e.
      let same : get_or bases i d ≡ get_or bases j d = eqb-true _ _ e in
      let clash = sound.apart i j one.0 two.0 one.1 two.1 (one.2 ∙ same ∙ sym two.2) in
      omega arith))

  all-worth : (own : ℕ → ℕ) (f : Based ObjectView → ℕ)
      → ((base : ℕ) (object : ObjectView) → Begins objects base object
      → own base ≤ f (record { base = base; value = object }))
      → (found : List Found) → AreLive objects found
      → AllByRecursion (IsWorth (λ (o : Based ObjectView). o.base) own f (based objects))
      (map (λ (entry : Found). entry.base) found)
  all-worth own f within [] each = tt
  all-worth own f within (entry ∷ found) each =
      let object = each 0 entry refl in (
        record {
          value = record { base = entry.base; value = object.0 };
          is = object-under objects entry.base object.0 object.1;
          worth = within entry.base object.0 object.1;
        },
        all-worth own f within found (λ i x h. each (suc i) x h),
      )

  worth-all : (own : ℕ → ℕ) (f : Based ObjectView → ℕ)
      → ((base : ℕ) (object : ObjectView) → Begins objects base object
      → own base ≤ f (record { base = base; value = object }))
      → sum_by (λ (entry : Found). own entry.base) q.found ≤ sum_by f (based objects)
  worth-all own f within =
      let all = sum-keys (λ (o : Based ObjectView). o.base) own f bases (based objects) (keyed-based objects) distinct
      (all-worth own f within q.found live) in
      let same = sum-mapped own (λ (entry : Found). entry.base) q.found in
      omega arith

  -- no more was found than lives
  pub found-live : length q.found ≤ length (based objects)
  found-live =
      let all = worth-all (λ base. 1) (λ o. 1) (λ base object begins. omega arith) in
      let one = sum-ones q.found in
      let two = sum-ones (based objects) in
      omega arith

  -- and following it costs no more than following all
  pub cost-bounded : cost_of objects q.found ≤ length (based objects) + 2 * scanned_slots_of objects
  cost-bounded =
      let all = worth-all (λ base. 1 + 2 * slots_at objects base)
      (λ o. 1 + 2 * length (scanned_words_of o.value))
      (λ base object begins. let same = slots-at objects base object begins in omega arith) in
      let size : Based ObjectView → ℕ = λ o. length (scanned_words_of o.value) in
      let split = sum_by-split (λ (o : Based ObjectView). 1 + 2 * size o) (λ o. 1 + size o) size
      (λ o. omega arith) (based objects) in
      let again = sum_by-split (λ (o : Based ObjectView). 1 + size o) (λ o. 1) size (λ o. omega arith)
      (based objects) in
      let ones = sum-ones (based objects) in
      omega arith

-- one object more
pub cost-more : (objects : ObjectsByBase) (found : List Found) (entry : Found)
    → cost_of objects (found ++ entry ∷ []) ≡ cost_of objects found + (1 + 2 * slots_at objects entry.base)
cost-more objects found entry =
    let split = sum_by-append (λ (e : Found). 1 + 2 * slots_at objects e.base) found (entry ∷ []) in
    let one = sum_by-cons (λ (e : Found). 1 + 2 * slots_at objects e.base) entry [] in
    omega arith
