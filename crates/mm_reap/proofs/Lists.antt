-- Lists of bases that grow at the end.
use Rattle.std.proofs.Common.{◌≡◌, ◌≢◌, ◌⊎◌, ⊎_elim, inl, inr, ℕ, ◌≤◌, Bool, true, false, cond, List, [], ◌∷◌, ◌++◌}
use Rattle.std.proofs.Common.{refl, sym, ap, ◌∙◌, arith}
use Rattle.std.specs.Prelude.{◌==◌, ◌||◌, not}
use Rattle.std.specs.List.{count_by}
use Rattle.std.proofs.lemmas.Bool.Decides.{nat_tests}
use Rattle.std.proofs.lemmas.List.Folds.{list_any-append}
use Rattle.std.proofs.lemmas.List.Sums.{sum_by_push}
use Rattle.mm_model.specs.Phase.{lists}
use Rattle.mm_model.proofs.Lists.Counts.{none-counted}
use Rattle.mm_model.proofs.Lists.Truth.{no_other}

pub same-true : (a b : ℕ) → (a == b) ≡ true → a ≡ b
same-true a b e = grind (arith, nat_tests)

pub true-same : (a b : ℕ) → a ≡ b → (a == b) ≡ true
true-same a b e = grind (arith, nat_tests)

either-true : (a b : Bool) → (a || b) ≡ true → (a ≡ true) ⊎ (b ≡ true)
either-true true b e = inl refl
either-true false b e = inr e

left-true : (a b : Bool) → a ≡ true → (a || b) ≡ true
left-true a b e = ap (λ x. x || b) e

right-true : (a b : Bool) → b ≡ true → (a || b) ≡ true
right-true true b e = refl
right-true false b e = e

left-false : (a b : Bool) → (a || b) ≡ false → a ≡ false
left-false true b e = e
left-false false b e = refl

pub not-lists : (bases : List ℕ) (base : ℕ) → (lists bases base ≡ true → ⊥) → lists bases base ≡ false
not-lists bases base never = split (lists bases base) refl
  where
    split : (b : Bool) → lists bases base ≡ b → b ≡ false
    split true e = absurd (never e)
    split false e = refl

module _ (bases : List ℕ) (last : ℕ) where
  abbrev more : List ℕ
  more = bases ++ last ∷ []

  more-is : (base : ℕ) → lists more base ≡ (lists bases base || ((last == base) || false))
  more-is base = list_any-append (λ b. b == base) bases (last ∷ [])

  pub lists-more : (base : ℕ) → lists more base ≡ true → (lists bases base ≡ true) ⊎ (base ≡ last)
  lists-more base e =
      ⊎_elim (λ (p : lists bases base ≡ true). inl p)
      (λ (p : ((last == base) || false) ≡ true).
      ⊎_elim (λ (q : (last == base) ≡ true). inr (sym (same-true last base q)))
      (λ (q : false ≡ true). absurd (no_other refl q)) (either-true (last == base) false p))
      (either-true (lists bases base) ((last == base) || false) (sym (more-is base) ∙ e))

  pub lists-before : (base : ℕ) → lists bases base ≡ true → lists more base ≡ true
  lists-before base e = more-is base ∙ left-true (lists bases base) ((last == base) || false) e

  pub lists-last : lists more last ≡ true
  lists-last =
      more-is last
      ∙ right-true (lists bases last) ((last == last) || false)
      (left-true (last == last) false (true-same last last refl))

  pub none-before : (base : ℕ) → lists more base ≡ false → lists bases base ≡ false
  none-before base e = left-false (lists bases base) ((last == base) || false) (sym (more-is base) ∙ e)

  pub none-last : (base : ℕ) → lists more base ≡ false → base ≢ last
  none-last base e same = no_other e (ap (lists more) same ∙ lists-last)

  pub once-more : lists bases last ≡ false → ((base : ℕ) → count_by (λ b. b == base) bases ≤ 1)
      → (base : ℕ) → count_by (λ b. b == base) more ≤ 1
  once-more out once base = split (last == base) refl
    where
      split : (t : Bool) → (last == base) ≡ t → count_by (λ b. b == base) more ≤ 1
      split true e =
          let push = sum_by_push (λ b. cond (b == base) 1 0) bases last in
          let own : cond {A = ℕ} (last == base) 1 0 ≡ 1 = ap (λ t. cond t 1 0) e in
          let none : count_by (λ b. b == base) bases ≡ 0 = same-true (count_by (λ b. b == base) bases) 0
          (none-counted (λ b. b == base) bases
          ∙ ap not (ap (lists bases) (sym (same-true last base e)) ∙ out)) in
          omega arith
      split false e =
          let push = sum_by_push (λ b. cond (b == base) 1 0) bases last in
          let own : cond {A = ℕ} (last == base) 1 0 ≡ 0 = ap (λ t. cond t 1 0) e in
          let old = once base in
          omega arith

pub lists-none : (base : ℕ) → lists [] base ≡ true → ⊥
lists-none base e = no_other refl e
