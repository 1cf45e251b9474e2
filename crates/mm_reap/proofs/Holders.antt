-- Which objects hold a base in their counted slots, and how many of these there are.
use Rattle.std.proofs.Common.{◌≡◌, ℕ, suc, ◌+◌, ◌*◌, Bool, true, false, cond, List, [], ◌∷◌, Option, Some, None, refl}
use Rattle.std.proofs.Common.{sym, ap, ◌∙◌, arith}
use Rattle.std.specs.Prelude.{◌==◌, not, slice_get}
use Rattle.std.specs.List.{list_any, sum_by, count_by}
use Rattle.std.specs.Option.{option_map, option_and_then}
use Rattle.std.proofs.lemmas.List.Sums.{sum_by-cons, get_or-le-sum_by}
use Rattle.std.proofs.lemmas.Option.{slice_get_within, get_or_from_slice_get}
use Rattle.mm_model.specs.Phase.{lists}
use Rattle.mm_model.specs.Views.ByBase.{Begins, Based, based, changed_from, changed}
use Rattle.mm_model.specs.Views.ObjectView.{ObjectView, ObjectsByBase, counted_words_of, holds_base, references_in}
use Rattle.mm_model.proofs.Lists.Counts.{none-counted}
use Rattle.mm_model.proofs.Lists.KeyedSums.{count-flat_map}
use Rattle.mm_model.proofs.Lists.Truth.{no_other}
use Rattle.mm_model.proofs.View.ByBase.Entries.{based_at, begins_at, get-changed}
use Rattle.mm_object.specs.Object.{StoredObjects, view_of_stored, views_of}
use Rattle.mm_count.specs.Apart.{unless_dead, without_dead}
use Rattle.mm_reap.proofs.Lists.{same-true, true-same}

-- a list by base without what begins at some bases
abbrev pub without : {X : Type 0} → List ℕ → List (Option X) → List (Option X)
without bases entries = changed (unless_dead bases) entries

views-from : (bases : List ℕ) (low : ℕ) (objects : StoredObjects)
    → views_of (changed_from (unless_dead bases) low objects) ≡ changed_from (unless_dead bases) low (views_of objects)
views-from bases low [] = refl
views-from bases low (None ∷ objects) = ap (λ (vs : ObjectsByBase). None ∷ vs) (views-from bases (low + 16) objects)
views-from bases low (Some x ∷ objects) =
    ap (λ (vs : ObjectsByBase). option_map view_of_stored (unless_dead bases low x) ∷ vs)
    (views-from bases (low + 16) objects)
    ∙ ap (λ (v : Option ObjectView). v ∷ changed_from (unless_dead bases) (low + 16) (views_of objects))
    (own (lists bases low))
  where
    own : (b : Bool) → option_map view_of_stored (cond b None (Some x)) ≡ cond b None (Some (view_of_stored x))
    own true = refl
    own false = refl

-- the model sees the same objects left out
pub views-without : (bases : List ℕ) (objects : StoredObjects)
    → views_of (without_dead bases objects) ≡ without bases (views_of objects)
views-without bases objects = views-from bases 0 objects

module _ {X : Type 0} (bases : List ℕ) (entries : List (Option X)) (base : ℕ) (x : X) where
  pub begins-without : Begins entries base x → lists bases base ≡ false → Begins (without bases entries) base x
  begins-without begins out =
      let k = begins.grain in
      record {
        grain = k;
        aligned = begins.aligned;
        is = get-changed (unless_dead bases) entries k
            ∙ ap (option_map (option_and_then (unless_dead bases (16 * k)))) begins.is
            ∙ ap (λ b. Some (cond b None (Some x))) (ap (lists bases) (sym begins.aligned) ∙ out);
      }

  pub without-begins : Begins (without bases entries) base x → (lists bases base ≡ false) × Begins entries base x
  without-begins begins =
      let k = begins.grain in
      split (slice_get entries k) refl (lists bases base) refl
      (sym (get-changed (unless_dead bases) entries k) ∙ begins.is)
    where
      split : (e : Option (Option X)) → slice_get entries begins.grain ≡ e → (b : Bool) → lists bases base ≡ b
          → option_map (option_and_then (unless_dead bases (16 * begins.grain))) e ≡ Some (Some x)
          → (lists bases base ≡ false) × Begins entries base x
      split None p b t q = cc
      split (Some None) p b t q = cc
      split (Some (Some y)) p true t q =
          let none : cond true None (Some y) ≡ Some x =
          ap (λ b. cond b None (Some y)) (sym t ∙ ap (lists bases) begins.aligned) ∙ some_of q in cc
        where
          some_of : {A : Option X} {B : Option X} → Some A ≡ Some B → A ≡ B
          some_of e = cc
      split (Some (Some y)) p false t q =
          let own : Some y ≡ Some x =
          ap (λ b. cond b None (Some y)) (sym t ∙ ap (lists bases) begins.aligned) ∙ some_of q in
          let same : y ≡ x = cc in
          (t, record { grain = begins.grain; aligned = begins.aligned; is = p ∙ ap (λ (z : X). Some (Some z)) same })
        where
          some_of : {A : Option X} {B : Option X} → Some A ≡ Some B → A ≡ B
          some_of e = cc

sum-none : {X : Type 0} (f : X → ℕ) (xs : List X) → ((n : ℕ) (x : X) → slice_get xs n ≡ Some x → f x ≡ 0)
    → sum_by f xs ≡ 0
sum-none f [] none = refl
sum-none f (x ∷ xs) none =
    let own = none 0 x refl in
    let rest = sum-none f xs (λ n y e. none (suc n) y e) in
    let all = sum_by-cons f x xs in
    omega arith

module _ (objects : ObjectsByBase) (base : ℕ) where
  abbrev held : Based ObjectView → ℕ
  held o = count_by (λ word. word == base) (counted_words_of o.value)

  references-sum : references_in objects base ≡ sum_by held (based objects)
  references-sum =
      count-flat_map (λ word. word == base) (λ (o : Based ObjectView). counted_words_of o.value) (based objects)

  -- a base without references is held by no object
  pub none-holds : references_in objects base ≡ 0 → (by : ℕ) (holder : ObjectView) → Begins objects by holder
      → holds_base (counted_words_of holder) base ≡ false
  none-holds free by holder begins =
      let at = based_at objects by holder begins in
      let o : Based ObjectView = record { base = by; value = holder } in
      let within = slice_get_within (based objects) at.0 o at.1 in
      let part = get_or-le-sum_by held (based objects) at.0 o within in
      let is = get_or_from_slice_get (based objects) at.0 o o at.1 in
      let own = ap held is in
      let all = references-sum in
      let none : held o ≡ 0 = omega arith in
      not-true (list_any (λ word. word == base) (counted_words_of holder))
      (sym (none-counted (λ word. word == base) (counted_words_of holder)) ∙ true-same (held o) 0 none)
    where
      not-true : (b : Bool) → not b ≡ true → b ≡ false
      not-true true e = absurd (no_other refl e)
      not-true false e = refl

  pub no-references : ((by : ℕ) (holder : ObjectView) → Begins objects by holder
      → holds_base (counted_words_of holder) base ≡ false) → references_in objects base ≡ 0
  no-references none =
      references-sum
      ∙ sum-none held (based objects)
      (λ n o e. same-true (held o) 0
      (none-counted (λ word. word == base) (counted_words_of o.value)
      ∙ ap not (none o.base o.value (begins_at objects n o e))))

pub without-alike : {X : Type 0} (bases others : List ℕ) (entries : List (Option X))
    → ((base : ℕ) → lists others base ≡ lists bases base) → without others entries ≡ without bases entries
without-alike {X} bases others entries same = from 0 entries
  where
    from : (low : ℕ) (entries : List (Option X))
        → changed_from (unless_dead others) low entries ≡ changed_from (unless_dead bases) low entries
    from low [] = refl
    from low (None ∷ entries) = ap (λ (xs : List (Option X)). None ∷ xs) (from (low + 16) entries)
    from low (Some x ∷ entries) =
        ap (λ (xs : List (Option X)). unless_dead others low x ∷ xs) (from (low + 16) entries)
        ∙ ap (λ b. cond b None (Some x) ∷ changed_from (unless_dead bases) (low + 16) entries) (same low)

pub without-none : {X : Type 0} (entries : List (Option X)) → without [] entries ≡ entries
without-none {X} entries = from 0 entries
  where
    from : (low : ℕ) (entries : List (Option X)) → changed_from (unless_dead []) low entries ≡ entries
    from low [] = refl
    from low (None ∷ entries) = ap (λ (xs : List (Option X)). None ∷ xs) (from (low + 16) entries)
    from low (Some x ∷ entries) = ap (λ (xs : List (Option X)). Some x ∷ xs) (from (low + 16) entries)
