-- What tests over lists and over numbers say.
use Rattle.std.proofs.Common.{◌≡◌, ℕ, zero, suc, ◌+◌, ◌-◌, ◌<◌, ◌≤◌, Bool, true, false, ◌||◌, List, [], ◌∷◌, Option}
use Rattle.std.proofs.Common.{Some, None, refl, sym, ap, ◌∙◌, subst, ◌⊎◌, ⊎_elim, inl, inr, arith}
use Rattle.std.proofs.lemmas.Bool.{cases_lt}
use Rattle.std.specs.List.{list_any, AllByRecursion}
use Rattle.mm_model.specs.Places.Place.{first_from}

-- a test in between two others
pub same_tests : (a b : Bool) → (a ≡ true → b ≡ true) → (b ≡ true → a ≡ true) → a ≡ b
same_tests true true f g = refl
same_tests true false f g = sym (f refl)
same_tests false true f g = g refl
same_tests false false f g = refl

module _ {X : Type 0} (test : X → Bool) where
  -- none passes
  pub none_passes : (xs : List X) → list_any test xs ≡ false → AllByRecursion (λ x. test x ≡ false) xs
  none_passes [] e = tt
  none_passes (x ∷ xs) e =
      let split : (b : Bool) → test x ≡ b → (b || list_any test xs) ≡ false
      → (test x ≡ false) × AllByRecursion (λ x. test x ≡ false) xs =
      elim [ true ↦ λ p q. cc | false ↦ λ p q. (p, none_passes xs q) ] in
      split (test x) refl e

eq_or_lt : (m n : ℕ) → m ≤ n → (m ≡ n) ⊎ (m < n)
eq_or_lt m n l = ⊎_elim (λ (h : m < n). inr h) (λ (h : n ≤ m). inl (omega arith)) (cases_lt m n)

module _ (test : ℕ → Bool) where
  -- what the first number that passes is
  pub record IsFirst (from count n : ℕ) : Type 0 where
    pub least : from ≤ n
    pub below : n < from + count
    pub passes : test n ≡ true
    pub none_before : (k : ℕ) → from ≤ k → k < n → test k ≡ false

  pub first_from-Some : (from count n : ℕ) → first_from test from count ≡ Some n → IsFirst from count n
  first_from-Some from zero n e = cc
  first_from-Some from (suc count) n e =
      let split : (b : Bool) → test from ≡ b
      → (elim b [ true ↦ Some from | false ↦ first_from test (from + 1) count ]) ≡ Some n
      → IsFirst from (suc count) n =
      elim [
        | true ↦ λ p q.
            let same : from ≡ n = cc in
            record {
              least = omega arith;
              below = omega arith;
              passes = subst (λ m. test m ≡ true) same p;
              none_before = λ k l h. absurd (omega arith);
            }
        | false ↦ λ p q.
            let rest = first_from-Some (from + 1) count n q in
            record {
              least = omega arith;
              below = omega arith;
              passes = rest.passes;
              none_before = λ k l h.
                  ⊎_elim (λ (same : from ≡ k). subst (λ j. test j ≡ false) same p)
                  (λ (less : from < k). rest.none_before k (omega arith) h) (eq_or_lt from k l);
            }
      ] in
      split (test from) refl e

  pub first_from-None : (from count : ℕ) → first_from test from count ≡ None → (k : ℕ) → from ≤ k → k < from + count
      → test k ≡ false
  first_from-None from zero e k l h = absurd (omega arith)
  first_from-None from (suc count) e k l h =
      let split : (b : Bool) → test from ≡ b → ◌≡◌ {A = Option ℕ}
      (elim b [ true ↦ Some from | false ↦ first_from test (from + 1) count ]) None → test k ≡ false =
      elim [
        | true ↦ λ p q. cc
        | false ↦ λ p q.
            ⊎_elim (λ (same : from ≡ k). subst (λ j. test j ≡ false) same p)
            (λ (less : from < k). first_from-None (from + 1) count q k (omega arith) (omega arith))
            (eq_or_lt from k l)
      ] in
      split (test from) refl e

  -- a search that goes on, and one that ends
  pub first_from-next : (from count : ℕ) → 0 < count → test from ≡ false
      → first_from test from count ≡ first_from test (from + 1) (count - 1)
  first_from-next from zero some e = absurd (omega arith)
  first_from-next from (suc count) some e =
      let rest : suc count - 1 ≡ count = omega arith in
      ap (λ b. elim b [ true ↦ Some from | false ↦ first_from test (from + 1) count ]) e
      ∙ ap (first_from test (from + 1)) (sym rest)

  pub first_from-here : (from count : ℕ) → 0 < count → test from ≡ true → first_from test from count ≡ Some from
  first_from-here from zero some e = absurd (omega arith)
  first_from-here from (suc count) some e =
      ap (λ b. elim b [ true ↦ Some from | false ↦ first_from test (from + 1) count ]) e
