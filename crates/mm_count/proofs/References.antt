-- How many counted slots hold a base.
use Rattle.std.proofs.Common.{◌≡◌, ◌≢◌, ℕ, zero, suc, ◌+◌, ◌/◌, List, [], ◌∷◌, Option, Some, None}
use Rattle.std.proofs.Common.{false, cond, eqb-true, refl, ap, ◌∙◌, arith}
use Rattle.std.specs.Prelude.{slice_get, slice_set, ◌==◌}
use Rattle.std.specs.List.{sum_by, count_by}
use Rattle.std.proofs.lemmas.List.Sums.{sum_by-cons}
use Rattle.mm_model.specs.Views.ByBase.{Begins, Based, with_entry, based_from, based}
use Rattle.mm_model.specs.Views.ObjectView.{ObjectView, ObjectsByBase, counted_words_of, references_in}
use Rattle.mm_model.proofs.Lists.Keyed.{refuted}
use Rattle.mm_model.proofs.Lists.KeyedSums.{count-flat_map}
use Rattle.mm_model.proofs.View.ByBase.Entries.{begins_at}
use Rattle.mm_model.proofs.View.ByBase.ReplacedEntries.{begins_get}

module _ {X : Type 0} (g : X → ℕ) where
  abbrev weight : Based X → ℕ
  weight o = g o.value

  sum-set : (low : ℕ) (entries : List (Option X)) (k : ℕ) (x y : X) → slice_get entries k ≡ Some (Some x)
      → sum_by weight (based_from low (slice_set entries k (Some y))) + g x
      ≡ sum_by weight (based_from low entries) + g y
  sum-set low [] k x y e = cc
  sum-set low (None ∷ entries) zero x y e = cc
  sum-set low (Some z ∷ entries) zero x y e =
      let same : z ≡ x = cc in
      let own : g z ≡ g x = ap g same in
      let rest = based_from (low + 16) entries in
      let a = sum_by-cons weight (record { base = low; value = y }) rest in
      let b = sum_by-cons weight (record { base = low; value = z }) rest in
      omega arith
  sum-set low (None ∷ entries) (suc k) x y e = sum-set (low + 16) entries k x y e
  sum-set low (Some z ∷ entries) (suc k) x y e =
      let rest = sum-set (low + 16) entries k x y e in
      let a = sum_by-cons weight (record { base = low; value = z })
      (based_from (low + 16) (slice_set entries k (Some y))) in
      let b = sum_by-cons weight (record { base = low; value = z }) (based_from (low + 16) entries) in
      omega arith

-- how many of an object's counted slots hold a base
abbrev pub references_of : ObjectView → ℕ → ℕ
references_of object base = count_by (λ word. word == base) (counted_words_of object)

references-sum : (objects : ObjectsByBase) (b : ℕ)
    → references_in objects b ≡ sum_by (λ o. references_of o.value b) (based objects)
references-sum objects b =
    count-flat_map (λ word. word == b) (λ (o : Based ObjectView). counted_words_of o.value) (based objects)

pub references-with_entry : (objects : ObjectsByBase) (base : ℕ) (x y : ObjectView) → Begins objects base x → (b : ℕ)
    → references_in (with_entry base (Some y) objects) b + references_of x b
    ≡ references_in objects b + references_of y b
references-with_entry objects base x y begins b =
    let after = references-sum (with_entry base (Some y) objects) b in
    let before = references-sum objects b in
    let sums = sum-set (λ (v : ObjectView). references_of v b) 0 objects (base / 16) x y
    (begins_get objects base x begins) in
    omega arith

module _ {X : Type 0} (g : X → ℕ) where
  sum-clear : (low : ℕ) (entries : List (Option X)) (k : ℕ) (x : X) → slice_get entries k ≡ Some (Some x)
      → sum_by (weight g) (based_from low (slice_set entries k None)) + g x ≡ sum_by (weight g) (based_from low entries)
  sum-clear low [] k x e = cc
  sum-clear low (None ∷ entries) zero x e = cc
  sum-clear low (Some z ∷ entries) zero x e =
      let same : z ≡ x = cc in
      let own : g z ≡ g x = ap g same in
      let rest = based_from (low + 16) entries in
      let b = sum_by-cons (weight g) (record { base = low; value = z }) rest in
      omega arith
  sum-clear low (None ∷ entries) (suc k) x e = sum-clear (low + 16) entries k x e
  sum-clear low (Some z ∷ entries) (suc k) x e =
      let rest = sum-clear (low + 16) entries k x e in
      let a = sum_by-cons (weight g) (record { base = low; value = z })
      (based_from (low + 16) (slice_set entries k None)) in
      let b = sum_by-cons (weight g) (record { base = low; value = z }) (based_from (low + 16) entries) in
      omega arith

-- how many hold a base once an object is left out
pub references-cleared : (objects : ObjectsByBase) (base : ℕ) (x : ObjectView) → Begins objects base x → (b : ℕ)
    → references_in (with_entry base None objects) b + references_of x b ≡ references_in objects b
references-cleared objects base x begins b =
    let after = references-sum (with_entry base None objects) b in
    let before = references-sum objects b in
    let sums = sum-clear (λ (v : ObjectView). references_of v b) 0 objects (base / 16) x
    (begins_get objects base x begins) in
    omega arith

-- none of the words is the base
pub count-other : (words : List ℕ) (base : ℕ) → ((n word : ℕ) → slice_get words n ≡ Some word → word ≢ base)
    → count_by (λ word. word == base) words ≡ 0
count-other [] base other = refl
count-other (word ∷ words) base other =
    let first = sum_by-cons (λ w. cond (w == base) 1 0) word words in
    let rest = count-other words base (λ n. other (suc n)) in
    let apart : (word == base) ≡ false = refuted (word == base) (λ e. other 0 word refl (eqb-true word base e)) in
    let one : ◌≡◌ {A = ℕ} (cond (word == base) 1 0) 0 = ap (λ b. cond b 1 0) apart in
    omega (arith, first, one, rest)

pub sum-zero : {X : Type 0} (f : X → ℕ) (xs : List X) → ((n : ℕ) (x : X) → slice_get xs n ≡ Some x → f x ≡ 0)
    → sum_by f xs ≡ 0
sum-zero f [] none = refl
sum-zero f (x ∷ xs) none =
    let first = sum_by-cons f x xs in
    let rest = sum-zero f xs (λ n. none (suc n)) in
    let here = none 0 x refl in
    omega (arith, first, rest, here)

-- none holds a base that no word of theirs is
pub references-unnamed : (objects : ObjectsByBase) (base : ℕ)
    → ((holder : ℕ) (object : ObjectView) → Begins objects holder object
    → (s word : ℕ) → slice_get (counted_words_of object) s ≡ Some word → word ≢ base)
    → references_in objects base ≡ 0
references-unnamed objects base other =
    references-sum objects base
    ∙ sum-zero (λ (o : Based ObjectView). references_of o.value base) (based objects)
    (λ n o is. count-other (counted_words_of o.value) base (other o.base o.value (begins_at objects n o is)))
