-- What begins where in a list by base, once one entry of it is another.
use Rattle.std.proofs.Common.{◌≡◌, ℕ, zero, suc, ◌*◌, ◌/◌, ◌⊎◌, List, [], ◌∷◌, Option, Some, inl, inr, refl, sym, ap}
use Rattle.std.proofs.Common.{subst, ◌∙◌, ⊎_elim, arith}
use Rattle.std.specs.Prelude.{slice_get, slice_set}
use Rattle.std.proofs.lemmas.Bool.{cases_eq}
use Rattle.mm_model.specs.Views.ByBase.{Begins, with_entry}
use Rattle.mm_model.proofs.Lists.Replaced.{get-set_same, get-set_other, get-set_cases}

grain_of : (base k : ℕ) → base ≡ 16 * k → base / 16 ≡ k
grain_of base k e = omega arith

-- the new entry begins at its base
pub begins-entry : {X : Type 0} (entries : List (Option X)) (base k : ℕ) (old : Option X) (x : X) → base ≡ 16 * k
    → slice_get entries k ≡ Some old → Begins (with_entry base (Some x) entries) base x
begins-entry {X} entries base k old x aligned e =
    record {
      grain = k;
      aligned = aligned;
      is =
          ap (λ (n : ℕ). slice_get (slice_set entries n (Some x)) k) (grain_of base k aligned)
          ∙ get-set_same entries k old (Some x) e;
    }

-- what begins elsewhere begins there still
pub begins-other_entry : {X : Type 0} (entries : List (Option X)) (other k : ℕ) (entry : Option X) (base : ℕ) (x : X)
    → other ≡ 16 * k → Begins entries base x → (base ≡ other → ⊥) → Begins (with_entry other entry entries) base x
begins-other_entry {X} entries other k entry base x at h apart =
    let aligned = h.aligned in
    let distinct : h.grain ≡ k → ⊥ = λ same. apart (omega arith) in
    record {
      grain = h.grain;
      aligned = h.aligned;
      is =
          ap (λ (n : ℕ). slice_get (slice_set entries n entry) h.grain) (grain_of other k at)
          ∙ get-set_other entries k h.grain entry distinct ∙ h.is;
    }

-- another place of the list
pub get-other_entry : {X : Type 0} (entries : List (Option X)) (other j k : ℕ) (entry : Option X) → other ≡ 16 * j
    → (k ≡ j → ⊥) → slice_get (with_entry other entry entries) k ≡ slice_get entries k
get-other_entry {X} entries other j k entry at apart =
    ap (λ (n : ℕ). slice_get (slice_set entries n entry) k) (grain_of other j at)
    ∙ get-set_other entries j k entry apart

-- it began there before, and not at the base of the new entry
pub record IsOld {X : Type 0} (entries : List (Option X)) (other base : ℕ) (x : X) : Type 0 where
  pub begins : Begins entries base x
  pub apart : base ≡ other → ⊥

own_entry : {X : Type 0} (entries : List (Option X)) (k : ℕ) (y x : X)
    → slice_get (slice_set entries k (Some y)) k ≡ Some (Some x) → y ≡ x
own_entry {X} entries k y x e =
    ⊎_elim
    (λ (new : (k ≡ k) × (◌≡◌ {A = Option X} (Some y) (Some x))). let same = new.1 in cc)
    (λ (old : slice_get entries k ≡ Some (Some x)).
    let there = get-set_same entries k (Some x) (Some y) old in
    let both : ◌≡◌ {A = Option (Option X)} (Some (Some y)) (Some (Some x)) = sym there ∙ e in
    cc)
    (get-set_cases entries k k (Some y) (Some x) e)

-- what begins in the new list is the new entry, or is old
pub begins-entry_cases : {X : Type 0} (entries : List (Option X)) (other k : ℕ) (y : X) (base : ℕ) (x : X)
    → other ≡ 16 * k → Begins (with_entry other (Some y) entries) base x
    → ((base ≡ other) × (y ≡ x)) ⊎ IsOld entries other base x
begins-entry_cases {X} entries other k y base x at h =
    let aligned = h.aligned in
    let is : slice_get (slice_set entries k (Some y)) h.grain ≡ Some (Some x) =
    sym (ap (λ (n : ℕ). slice_get (slice_set entries n (Some y)) h.grain) (grain_of other k at)) ∙ h.is in
    elim (cases_eq h.grain k) [
      | inl same ↦
          inl (
            omega arith,
            own_entry entries k y x
                (subst (λ (n : ℕ). slice_get (slice_set entries k (Some y)) n ≡ Some (Some x)) same is),
          )
      | inr distinct ↦
          inr (record {
            begins =
                record {
                  grain = h.grain;
                  aligned = h.aligned;
                  is = sym (get-set_other entries k h.grain (Some y) distinct) ∙ is;
                };
            apart = λ same. distinct (omega arith);
          })
    ]

set-set : {X : Type 0} (xs : List X) (i : ℕ) (x y : X) → slice_set (slice_set xs i y) i x ≡ slice_set xs i x
set-set [] i x y = refl
set-set (z ∷ zs) zero x y = refl
set-set (z ∷ zs) (suc i) x y = ap (λ ws. z ∷ ws) (set-set zs i x y)

-- the last of two entries at a base stands
pub with_entry-twice : {X : Type 0} (entries : List (Option X)) (base : ℕ) (x y : Option X)
    → with_entry base x (with_entry base y entries) ≡ with_entry base x entries
with_entry-twice entries base x y = set-set entries (base / 16) x y
