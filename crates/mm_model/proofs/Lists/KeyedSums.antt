-- Sums over lists that look alike under each number.
use Rattle.std.proofs.Common.{◌≡◌, ℕ, ◌+◌, Bool, true, false, not, cond, eqb-true, List, [], ◌∷◌, map, Option, Some}
use Rattle.std.proofs.Common.{None, refl, sym, ap, ◌∙◌, subst, arith}
use Rattle.std.proofs.lemmas.Bool.{eq-eqb}
use Rattle.std.proofs.lemmas.List.Sums.{sum_by-cons, sum_by-append}
use Rattle.std.specs.Prelude.{nat_eq}
use Rattle.std.specs.List.{filter, sum_by, count_by, flat_map, AllByRecursion, IsDistinct}
use Rattle.std.specs.Option.{option_map}
use Rattle.mm_model.proofs.Lists.Keyed.{at, IsKeyed, refuted, not_found}

module _ {X : Type 0} (key : X → ℕ) where
  -- the list without what stands under a number
  abbrev pub without : ℕ → List X → List X
  without k xs = filter (λ x. not (nat_eq (key x) k)) xs

  pub at-without_same : (k : ℕ) (xs : List X) → at key (without k xs) k ≡ None
  at-without_same k [] = refl
  at-without_same k (x ∷ xs) =
      let rest = at-without_same k xs in
      let split : (b : Bool) → nat_eq (key x) k ≡ b
      → at key (cond (not b) (x ∷ without k xs) (without k xs)) k ≡ None =
      elim [
        | true ↦ λ e. rest
        | false ↦ λ e. ap (λ b. cond b (Some x) (at key (without k xs) k)) e ∙ rest
      ] in
      split (nat_eq (key x) k) refl

  pub at-without_other : (k : ℕ) (xs : List X) (j : ℕ) → (j ≡ k → ⊥) → at key (without k xs) j ≡ at key xs j
  at-without_other k [] j other = refl
  at-without_other k (x ∷ xs) j other =
      let rest = at-without_other k xs j other in
      let split : (b : Bool) → nat_eq (key x) k ≡ b
      → at key (cond (not b) (x ∷ without k xs) (without k xs)) j
      ≡ cond (nat_eq (key x) j) (Some x) (at key xs j) =
      elim [
        | true ↦ λ e.
            let is : key x ≡ k = eqb-true _ _ e in
            let none : nat_eq (key x) j ≡ false = refuted _ (λ h. other (sym (eqb-true _ _ h) ∙ is)) in
            rest ∙ sym (ap (λ b. cond b (Some x) (at key xs j)) none)
        | false ↦ λ e. ap (cond (nat_eq (key x) j) (Some x)) rest
      ] in
      split (nat_eq (key x) k) refl

  each_without : (P : ℕ → Type 0) (k : ℕ) (xs : List X) → AllByRecursion P (map key xs)
      → AllByRecursion P (map key (without k xs))
  each_without P k [] h = tt
  each_without P k (x ∷ xs) h =
      let rest = each_without P k xs h.1 in
      let split : (b : Bool) → AllByRecursion P (map key (cond b (x ∷ without k xs) (without k xs))) =
      elim [ true ↦ (h.0, rest) | false ↦ rest ] in
      split (not (nat_eq (key x) k))

  pub keyed-without : (k : ℕ) (xs : List X) → IsKeyed key xs → IsKeyed key (without k xs)
  unfolding IsDistinct
  keyed-without k [] d = tt
  keyed-without k (x ∷ xs) d =
      let rest = keyed-without k xs d.1 in
      let others = each_without (λ n. nat_eq (key x) n ≡ false) k xs d.0 in
      let split : (b : Bool) → IsKeyed key (cond b (x ∷ without k xs) (without k xs)) =
      elim [ true ↦ (others, rest) | false ↦ rest ] in
      split (not (nat_eq (key x) k))

  -- nothing else stands under its number
  without_none : (k : ℕ) (xs : List X) → AllByRecursion (λ n. nat_eq k n ≡ false) (map key xs) → without k xs ≡ xs
  without_none k [] h = refl
  without_none k (x ∷ xs) h =
      let other : nat_eq (key x) k ≡ false = refuted _ (λ e. clash (sym h.0 ∙ eq-eqb _ _ (sym (eqb-true _ _ e)))) in
      ap (λ b. cond (not b) (x ∷ without k xs) (without k xs)) other ∙ ap (λ ys. x ∷ ys) (without_none k xs h.1)
    where
      clash : false ≡ true → ⊥
      clash e = cc

  pub sum-without : (f : X → ℕ) (k : ℕ) (xs : List X) (x : X) → IsKeyed key xs → at key xs k ≡ Some x
      → sum_by f xs ≡ f x + sum_by f (without k xs)
  unfolding IsDistinct
  sum-without f k [] x d e = cc
  sum-without f k (y ∷ ys) x d e =
      let rest = sum-without f k ys x d.1 in
      let split : (b : Bool) → nat_eq (key y) k ≡ b → cond b (Some y) (at key ys k) ≡ Some x
      → f y + sum_by f ys ≡ f x + sum_by f (cond (not b) (y ∷ without k ys) (without k ys)) =
      elim [
        | true ↦ λ p q.
            let same : y ≡ x = cc in
            let is : key y ≡ k = eqb-true _ _ p in
            let none : without k ys ≡ ys =
            without_none k ys (subst (λ n. AllByRecursion (λ m. nat_eq n m ≡ false) (map key ys)) is d.0) in
            ap (λ z. f z + sum_by f ys) same ∙ ap (λ zs. f x + sum_by f zs) (sym none)
        | false ↦ λ p q.
            let more = rest q in
            let own = sum_by-cons f y (without k ys) in
            omega arith
      ] in
      sum_by-cons f y ys ∙ split (nat_eq (key y) k) refl e

module _ {X Y P : Type 0} (xkey : X → ℕ) (ykey : Y → ℕ) (f : X → P) (g : Y → P) where
  -- Two lists that look alike under each number have one sum.
  pub sums_alike : (xs : List X) (ys : List Y) → IsKeyed xkey xs → IsKeyed ykey ys
      → ((k : ℕ) → option_map f (at xkey xs k) ≡ option_map g (at ykey ys k)) → (h : P → ℕ)
      → sum_by (λ x. h (f x)) xs ≡ sum_by (λ y. h (g y)) ys
  unfolding IsDistinct
  sums_alike [] [] dx dy alike h = refl
  sums_alike [] (y ∷ ys) dx dy alike h =
      let here : at ykey (y ∷ ys) (ykey y) ≡ Some y =
      ap (λ b. cond b (Some y) (at ykey ys (ykey y))) (eq-eqb (ykey y) (ykey y) refl) in
      let none = alike (ykey y) ∙ ap (option_map g) here in
      cc
  sums_alike (x ∷ xs) ys dx dy alike h =
      let k = xkey x in
      let here : at xkey (x ∷ xs) k ≡ Some x = ap (λ b. cond b (Some x) (at xkey xs k)) (eq-eqb k k refl) in
      let image : Some (f x) ≡ option_map g (at ykey ys k) = ap (option_map f) (sym here) ∙ alike k in
      let rest : ((j : ℕ) → option_map f (at xkey xs j) ≡ option_map g (at ykey (without ykey k ys) j))
      → sum_by (λ x. h (f x)) xs ≡ sum_by (λ y. h (g y)) (without ykey k ys) =
      λ same. sums_alike xs (without ykey k ys) dx.1 (keyed-without ykey k ys dy) same h in
      split (at ykey ys k) refl image (rest (others here))
    where
      others : at xkey (x ∷ xs) (xkey x) ≡ Some x → (j : ℕ)
          → option_map f (at xkey xs j) ≡ option_map g (at ykey (without ykey (xkey x) ys) j)
      others here j =
          let by : (b : Bool) → nat_eq (xkey x) j ≡ b
          → option_map f (at xkey xs j) ≡ option_map g (at ykey (without ykey (xkey x) ys) j) =
          elim [
            | true ↦ λ e.
                let is : xkey x ≡ j = eqb-true _ _ e in
                ap (λ n. option_map f (at xkey xs n)) (sym is) ∙ none (at xkey xs (xkey x)) refl
                ∙ sym (ap (option_map g) (at-without_same ykey (xkey x) ys))
                ∙ ap (λ n. option_map g (at ykey (without ykey (xkey x) ys) n)) is
            | false ↦ λ e.
                let apart : j ≡ xkey x → ⊥ = λ p. clash (sym (eq-eqb _ _ (sym p)) ∙ e) in
                ap (option_map f) (sym (ap (λ b. cond b (Some x) (at xkey xs j)) e)) ∙ alike j
                ∙ sym (ap (option_map g) (at-without_other ykey (xkey x) ys j apart))
          ] in
          by (nat_eq (xkey x) j) refl
        where
          clash : true ≡ false → ⊥
          clash e = cc

          none : (found : Option X) → at xkey xs (xkey x) ≡ found → option_map f found ≡ None
          none None e = refl
          none (Some z) e = absurd (not_found xkey xs (xkey x) dx.0 z e)

      split : (found : Option Y) → at ykey ys (xkey x) ≡ found → Some (f x) ≡ option_map g found
          → sum_by (λ x. h (f x)) xs ≡ sum_by (λ y. h (g y)) (without ykey (xkey x) ys)
          → sum_by (λ x. h (f x)) (x ∷ xs) ≡ sum_by (λ y. h (g y)) ys
      split None e p q = cc
      split (Some y) e p q =
          let same : f x ≡ g y = cc in
          sum_by-cons (λ x. h (f x)) x xs ∙ ap (λ n. h (f x) + n) q
          ∙ ap (λ z. h z + sum_by (λ y. h (g y)) (without ykey (xkey x) ys)) same
          ∙ sym (sum-without ykey (λ y. h (g y)) (xkey x) ys y dy e)

-- a count over joined lists is the sum of the counts
pub count-flat_map : {X : Type 0} (p : ℕ → Bool) (words : X → List ℕ) (xs : List X)
    → count_by p (flat_map words xs) ≡ sum_by (λ x. count_by p (words x)) xs
count-flat_map p words [] = refl
count-flat_map p words (x ∷ xs) =
    sum_by-append (λ w. cond (p w) 1 0) (words x) (flat_map words xs)
    ∙ ap (λ n. count_by p (words x) + n) (count-flat_map p words xs)
    ∙ sym (sum_by-cons (λ x. count_by p (words x)) x xs)
