-- Lists in which each element stands under a number of its own, and what tests over them see.
use Rattle.std.proofs.Common.{◌≡◌, ℕ, zero, suc, Bool, true, false, ◌||◌, List, [], ◌∷◌, ◌++◌, map, Option, Some, None}
use Rattle.std.proofs.Common.{refl, sym, ap, ◌∙◌, subst, arith}
use Rattle.std.specs.Prelude.{nat_eq, slice_get}
use Rattle.std.specs.List.{list_any, find, AllByRecursion, IsDistinct}
use Rattle.std.specs.Option.{option_map}
use Rattle.std.proofs.lemmas.Bool.Decides.{nat_tests}
use Rattle.std.proofs.Common.{cond, eqb-true}
use Rattle.std.proofs.lemmas.Bool.{eq-eqb}
use Rattle.mm_model.proofs.Lists.Truth.{or_true}
use Rattle.mm_model.proofs.Lists.Tests.{same_tests}

pub refuted : (b : Bool) → (b ≡ true → ⊥) → b ≡ false
refuted true f = absurd (f refl)
refuted false f = refl

module _ {X : Type 0} (key : X → ℕ) where
  -- the first element under a number
  abbrev pub at : List X → ℕ → Option X
  at xs k = find (λ x. nat_eq (key x) k) xs

  -- each number stands once
  abbrev pub IsKeyed : List X → Type 0
  IsKeyed xs = IsDistinct nat_eq (map key xs)

  -- what is found passes the tests that it passes
  pub any_from_at : (test : X → Bool) (xs : List X) (k : ℕ) (x : X) → at xs k ≡ Some x → test x ≡ true
      → list_any test xs ≡ true
  any_from_at test [] k x e t = cc
  any_from_at test (y ∷ ys) k x e t =
      let split : (b : Bool) → nat_eq (key y) k ≡ b → cond b (Some y) (at ys k) ≡ Some x
      → (test y || list_any test ys) ≡ true =
      elim [
        | true ↦ λ p q.
            let same : x ≡ y = cc in
            let here : test y ≡ true = subst (λ z. test z ≡ true) same t in
            ap (λ b. b || list_any test ys) here
        | false ↦ λ p q. or_true (test y) (list_any test ys) (any_from_at test ys k x q t)
      ] in
      split (nat_eq (key y) k) refl e

  -- and what passes a test is found under its own number
  pub record Passes (test : X → Bool) (xs : List X) : Type 0 where
    pub under : ℕ
    pub found : X
    pub is : at xs under ≡ Some found
    pub passes : test found ≡ true

  pub found_key : (xs : List X) (k : ℕ) (x : X) → at xs k ≡ Some x → key x ≡ k
  found_key [] k x e = cc
  found_key (y ∷ ys) k x e =
      let split : (b : Bool) → nat_eq (key y) k ≡ b → cond b (Some y) (at ys k) ≡ Some x → key x ≡ k =
      elim [
        | true ↦ λ p q.
            let same : x ≡ y = cc in
            let here : key y ≡ k = eqb-true _ _ p in
            ap key same ∙ here
        | false ↦ λ p q. found_key ys k x q
      ] in
      split (nat_eq (key y) k) refl e

  -- a number that none of them has finds nothing
  pub not_found : (xs : List X) (k : ℕ) → AllByRecursion (λ n. nat_eq k n ≡ false) (map key xs) → (x : X)
      → at xs k ≡ Some x → ⊥
  not_found [] k none x e = cc
  not_found (y ∷ ys) k none x e =
      let split : (b : Bool) → nat_eq (key y) k ≡ b → cond b (Some y) (at ys k) ≡ Some x → ⊥ =
      elim [
        | true ↦ λ p q.
            let here : key y ≡ k = eqb-true _ _ p in
            let other : nat_eq k (key y) ≡ false = none.0 in
            grind (arith, nat_tests)
        | false ↦ λ p q. not_found ys k none.1 x q
      ] in
      split (nat_eq (key y) k) refl e

  -- what stands in the list is found under its number
  pub keyed-get : (xs : List X) → IsKeyed xs → (i : ℕ) (x : X) → slice_get xs i ≡ Some x → at xs (key x) ≡ Some x
  unfolding IsDistinct
  keyed-get [] d i x e = cc
  keyed-get (y ∷ ys) d zero x e =
      let same : y ≡ x = cc in
      ap (λ (z : X). cond (nat_eq (key z) (key x)) (Some z) (at ys (key x))) same
      ∙ ap (λ b. cond b (Some x) (at ys (key x))) (eq-eqb (key x) (key x) refl)
  keyed-get (y ∷ ys) d (suc i) x e =
      let rest = keyed-get ys d.1 i x e in
      let other : nat_eq (key y) (key x) ≡ false =
      refuted _ (λ h. not_found ys (key y) d.0 x (ap (at ys) (eqb-true _ _ h) ∙ rest)) in
      ap (λ b. cond b (Some y) (at ys (key x))) other ∙ rest

  pub at_from_any : (test : X → Bool) (xs : List X) → IsKeyed xs → list_any test xs ≡ true → Passes test xs
  unfolding IsDistinct
  at_from_any test [] d e = cc
  at_from_any test (y ∷ ys) d e =
      let split : (b : Bool) → test y ≡ b → (b || list_any test ys) ≡ true → Passes test (y ∷ ys) =
      elim [
        | true ↦ λ p q. record {
          under = key y;
          found = y;
          is = ap (λ b. cond b (Some y) (at ys (key y))) (eq-eqb (key y) (key y) refl);
          passes = p;
        }
        | false ↦ λ p q.
            let rest = at_from_any test ys d.1 q in
            let other : nat_eq (key y) rest.under ≡ false =
            refuted _ (λ h. not_found ys (key y) d.0 rest.found (ap (at ys) (eqb-true _ _ h) ∙ rest.is)) in
            record {
              under = rest.under;
              found = rest.found;
              is = ap (λ b. cond b (Some y) (at ys rest.under)) other ∙ rest.is;
              passes = rest.passes;
            }
      ] in
      split (test y) refl e

  -- one more element, under a number that none has
  pub keyed-push : (xs : List X) (y : X) → IsKeyed xs → at xs (key y) ≡ None → IsKeyed (xs ++ y ∷ [])
  unfolding IsDistinct
  keyed-push [] y d none = (tt, tt)
  keyed-push (x ∷ xs) y d none =
      let split : (b : Bool) → nat_eq (key x) (key y) ≡ b → ◌≡◌ {A = Option X} (cond b (Some x) (at xs (key y))) None
      → IsKeyed (x ∷ xs ++ y ∷ []) =
      elim [
        | true ↦ λ p q. cc
        | false ↦ λ p q. (others xs (key x) d.0 p, keyed-push xs y d.1 q)
      ] in
      split (nat_eq (key x) (key y)) refl none
    where
      others : (zs : List X) (k : ℕ) → AllByRecursion (λ n. nat_eq k n ≡ false) (map key zs)
          → nat_eq k (key y) ≡ false
          → AllByRecursion (λ n. nat_eq k n ≡ false) (map key (zs ++ y ∷ []))
      others [] k h e = (e, tt)
      others (z ∷ zs) k h e = (h.0, others zs k h.1 e)

pub any-map : {X P : Type 0} (f : X → P) (test : P → Bool) (xs : List X)
    → list_any test (map f xs) ≡ list_any (λ x. test (f x)) xs
any-map f test [] = refl
any-map f test (x ∷ xs) = ap (λ b. test (f x) || b) (any-map f test xs)

module _ {X Y P : Type 0} (xkey : X → ℕ) (ykey : Y → ℕ) (f : X → P) (g : Y → P) where
  seen : (xs : List X) (ys : List Y) → IsKeyed xkey xs
      → ((k : ℕ) → option_map f (at xkey xs k) ≡ option_map g (at ykey ys k))
      → (test : P → Bool) → list_any (λ x. test (f x)) xs ≡ true → list_any (λ y. test (g y)) ys ≡ true
  seen xs ys dx alike test e =
      let p = at_from_any xkey (λ x. test (f x)) xs dx e in
      let image : Some (f p.found) ≡ option_map g (at ykey ys p.under) = ap (option_map f) (sym p.is) ∙ alike p.under in
      let split : (o : Option Y) → at ykey ys p.under ≡ o → Some (f p.found) ≡ option_map g o
      → list_any (λ y. test (g y)) ys ≡ true =
      elim [
        | None ↦ λ is h. cc
        | Some y ↦ λ is h.
            let same : f p.found ≡ g y = cc in
            any_from_at ykey (λ y. test (g y)) ys p.under y is (subst (λ q. test q ≡ true) same p.passes)
      ] in
      split (at ykey ys p.under) refl image

module _ {X Y P : Type 0} (xkey : X → ℕ) (ykey : Y → ℕ) (f : X → P) (g : Y → P) where
  -- Two lists that look alike under each number are seen alike by each test.
  pub seen_alike : (xs : List X) (ys : List Y) → IsKeyed xkey xs → IsKeyed ykey ys →
      ((k : ℕ) → option_map f (at xkey xs k) ≡ option_map g (at ykey ys k)) → (test : P → Bool) →
      list_any test (map f xs) ≡ list_any test (map g ys)
  seen_alike xs ys dx dy alike test =
      any-map f test xs
      ∙ same_tests _ _ (seen xkey ykey f g xs ys dx alike test) (seen ykey xkey g f ys xs dy (λ k. sym (alike k)) test)
      ∙ sym (any-map g test ys)
