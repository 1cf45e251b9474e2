-- How many elements of a list pass a test.
use Rattle.std.proofs.Common.{◌≡◌, ℕ, zero, suc, ◌+◌, Bool, true, false, cond, not, ◌||◌, List, [], ◌∷◌, Some, refl, ap}
use Rattle.std.proofs.Common.{◌∙◌, eqb-true, zero-add, arith}
use Rattle.std.proofs.lemmas.List.Sums.{sum_by-cons}
use Rattle.std.specs.Prelude.{◌==◌, slice_get}
use Rattle.std.specs.List.{list_any, sum_by, count_by}
use Rattle.mm_model.proofs.Lists.Keyed.{refuted}

-- none passes where there are 0
pub none-counted : {X : Type 0} (test : X → Bool) (xs : List X) → (count_by test xs == 0) ≡ not (list_any test xs)
none-counted test [] = refl
none-counted test (x ∷ xs) =
    let rest = none-counted test xs in
    let split : (b : Bool) → (cond b 1 0 + count_by test xs == 0) ≡ not (b || list_any test xs) =
    elim [
      | true ↦ refuted (1 + count_by test xs == 0) (λ e. some (eqb-true (1 + count_by test xs) 0 e))
      | false ↦ ap (λ n. n == 0) (zero-add (count_by test xs)) ∙ rest
    ] in
    ap (λ n. n == 0) (sum_by-cons (λ y. cond (test y) 1 0) x xs) ∙ split (test x)
  where
    some : 1 + count_by test xs ≡ 0 → ⊥
    some e = omega arith

pub count-none_passes : {X : Type 0} (test : X → Bool) (xs : List X)
    → ((i : ℕ) (x : X) → slice_get xs i ≡ Some x → test x ≡ true → ⊥) → count_by test xs ≡ 0
count-none_passes test [] none = refl
count-none_passes test (x ∷ xs) none =
    let rest = count-none_passes test xs (λ i y e. none (suc i) y e) in
    let own : test x ≡ false = refuted (test x) (none 0 x refl) in
    sum_by-cons (λ y. cond (test y) 1 0) x xs ∙ ap (λ b. cond b 1 0 + count_by test xs) own
    ∙ zero-add (count_by test xs) ∙ rest

-- one alone passes
pub count-one_passes : {X : Type 0} (test : X → Bool) (xs : List X) (i : ℕ) (x : X) → slice_get xs i ≡ Some x
    → test x ≡ true → ((j : ℕ) (y : X) → slice_get xs j ≡ Some y → test y ≡ true → j ≡ i) → count_by test xs ≡ 1
count-one_passes test [] i x is passes only = cc
count-one_passes test (y ∷ ys) zero x is passes only =
    let same : y ≡ x = cc in
    let rest = count-none_passes test ys (λ j z e t. let next = only (suc j) z e t in omega arith) in
    sum_by-cons (λ z. cond (test z) 1 0) y ys ∙ ap (λ z. cond (test z) 1 0 + count_by test ys) same
    ∙ ap (λ b. cond b 1 0 + count_by test ys) passes ∙ ap (λ n. 1 + n) rest
count-one_passes test (y ∷ ys) (suc i) x is passes only =
    let rest = count-one_passes test ys i x is passes (λ j z e t. let next = only (suc j) z e t in omega arith) in
    let own : test y ≡ false = refuted (test y) (λ t. let first = only 0 y refl t in omega arith) in
    sum_by-cons (λ z. cond (test z) 1 0) y ys ∙ ap (λ b. cond b 1 0 + count_by test ys) own
    ∙ zero-add (count_by test ys) ∙ rest

-- a sum of sums
pub sum_by-split : {X : Type 0} (f g h : X → ℕ) → ((x : X) → f x ≡ g x + h x) → (xs : List X)
    → sum_by f xs ≡ sum_by g xs + sum_by h xs
sum_by-split f g h same [] = refl
sum_by-split f g h same (x ∷ xs) =
    let rest = sum_by-split f g h same xs in
    let own = same x in
    let all_f = sum_by-cons f x xs in
    let all_g = sum_by-cons g x xs in
    let all_h = sum_by-cons h x xs in
    omega arith
