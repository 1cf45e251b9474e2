-- What tests find in lists that are joined, cut, filtered and flattened.
use Rattle.std.proofs.Common.{◌≡◌, ℕ, zero, suc, Bool, true, false, ◌||◌, cond, List, [], ◌∷◌, ◌++◌, length, take, drop}
use Rattle.std.proofs.Common.{Some, refl, sym, ap, ◌∙◌, subst}
use Rattle.std.specs.Prelude.{slice_get}
use Rattle.std.specs.List.{list_any, filter, flat_map, count_by}
use Rattle.std.proofs.lemmas.List.Folds.{list_any-append}
use Rattle.std.proofs.lemmas.List.Sums.{length-filter}
use Rattle.mm_model.specs.Value.{Value}
use Rattle.mm_model.specs.Words.{if_scanned}
use Rattle.mm_model.proofs.Lists.Truth.{or_true}
use Rattle.mm_model.proofs.Lists.Keyed.{any-map}

module _ {X : Type 0} (test : X → Bool) where
  pub any-front : (xs ys : List X) → list_any test xs ≡ true → list_any test (xs ++ ys) ≡ true
  any-front [] ys e = cc
  any-front (x ∷ xs) ys e =
      let split : (b : Bool) → (b || list_any test xs) ≡ true → (b || list_any test (xs ++ ys)) ≡ true =
      elim [ true ↦ λ q. refl | false ↦ λ q. any-front xs ys q ] in
      split (test x) e

  pub any-back : (xs ys : List X) → list_any test ys ≡ true → list_any test (xs ++ ys) ≡ true
  any-back [] ys e = e
  any-back (x ∷ xs) ys e = or_true (test x) (list_any test (xs ++ ys)) (any-back xs ys e)

  pub any-take : (n : ℕ) (xs : List X) → list_any test (take n xs) ≡ true → list_any test xs ≡ true
  any-take zero xs e = cc
  any-take (suc n) [] e = cc
  any-take (suc n) (x ∷ xs) e =
      let split : (b : Bool) → (b || list_any test (take n xs)) ≡ true → (b || list_any test xs) ≡ true =
      elim [ true ↦ λ q. refl | false ↦ λ q. any-take n xs q ] in
      split (test x) e

  pub any-drop : (n : ℕ) (xs : List X) → list_any test (drop n xs) ≡ true → list_any test xs ≡ true
  any-drop zero xs e = e
  any-drop (suc n) [] e = cc
  any-drop (suc n) (x ∷ xs) e = or_true (test x) (list_any test xs) (any-drop n xs e)

  -- where none is counted, none passes
  none_kept : (xs : List X) → length (filter test xs) ≡ 0 → list_any test xs ≡ false
  none_kept [] e = refl
  none_kept (x ∷ xs) e =
      let split : (b : Bool) → length (cond b (x ∷ filter test xs) (filter test xs)) ≡ 0
      → (b || list_any test xs) ≡ false =
      elim [ true ↦ λ q. cc | false ↦ λ q. none_kept xs q ] in
      split (test x) e

  pub any-none_counted : (xs : List X) → count_by test xs ≡ 0 → list_any test xs ≡ false
  any-none_counted xs e = none_kept xs (length-filter test xs ∙ e)

-- what an element gives is part of what they all give
pub any-flat_map_get : {X A : Type 0} (f : X → List A) (test : A → Bool) (xs : List X) (i : ℕ) (x : X)
    → slice_get xs i ≡ Some x → list_any test (f x) ≡ true → list_any test (flat_map f xs) ≡ true
any-flat_map_get f test [] i x e t = cc
any-flat_map_get f test (y ∷ ys) zero x e t =
    let same : x ≡ y = cc in
    any-front test (f y) (flat_map f ys) (subst (λ z. list_any test (f z) ≡ true) same t)
any-flat_map_get f test (y ∷ ys) (suc i) x e t =
    any-back test (f y) (flat_map f ys) (any-flat_map_get f test ys i x e t)

-- what an element that is kept gives is part of what they all give
module _ {X A : Type 0} (f : X → List A) (keep : X → Bool) (test : A → Bool) where
  pub any-flat_map : (xs : List X) (i : ℕ) (x : X) → slice_get xs i ≡ Some x → keep x ≡ true
      → list_any test (f x) ≡ true → list_any test (flat_map f (filter keep xs)) ≡ true
  any-flat_map [] i x e k t = cc
  any-flat_map (y ∷ ys) zero x e k t =
      let same : x ≡ y = cc in
      let split : (b : Bool) → b ≡ true → list_any test (flat_map f (cond b (y ∷ filter keep ys) (filter keep ys)))
      ≡ true =
      elim [
        | true ↦ λ q. any-front test (f y) (flat_map f (filter keep ys))
            (subst (λ z. list_any test (f z) ≡ true) same t)
        | false ↦ λ q. cc
      ] in
      split (keep y) (subst (λ z. keep z ≡ true) same k)
  any-flat_map (y ∷ ys) (suc i) x e k t =
      let rest = any-flat_map ys i x e k t in
      let split : (b : Bool) → list_any test (flat_map f (cond b (y ∷ filter keep ys) (filter keep ys))) ≡ true =
      elim [ true ↦ any-back test (f y) (flat_map f (filter keep ys)) rest | false ↦ rest ] in
      split (keep y)

pub any-weaker : {X : Type 0} (p q : X → Bool) → ((x : X) → p x ≡ true → q x ≡ true) → (xs : List X)
    → list_any p xs ≡ true → list_any q xs ≡ true
any-weaker p q f [] e = cc
any-weaker p q f (x ∷ xs) e =
    let split : (b : Bool) → p x ≡ b → (b || list_any p xs) ≡ true → (q x || list_any q xs) ≡ true =
    elim [
      | true ↦ λ h _. ap (λ b. b || list_any q xs) (f x h)
      | false ↦ λ _ h. or_true (q x) (list_any q xs) (any-weaker p q f xs h)
    ] in
    split (p x) refl e

-- what passes in a piece of one list passes in the piece of the other
pub any-flat_map-weaker : {X A : Type 0} (f g : X → List A) (test : A → Bool)
    → ((x : X) → list_any test (f x) ≡ true → list_any test (g x) ≡ true) → (xs : List X)
    → list_any test (flat_map f xs) ≡ true → list_any test (flat_map g xs) ≡ true
any-flat_map-weaker f g test w [] e = cc
any-flat_map-weaker f g test w (x ∷ xs) e =
    let split : (b : Bool) → list_any test (f x) ≡ b → (b || list_any test (flat_map f xs)) ≡ true
    → list_any test (g x ++ flat_map g xs) ≡ true =
    elim [
      | true ↦ λ h _. any-front test (g x) (flat_map g xs) (w x h)
      | false ↦ λ _ h. any-back test (g x) (flat_map g xs) (any-flat_map-weaker f g test w xs h)
    ] in
    split (list_any test (f x)) refl (sym (list_any-append test (f x) (flat_map f xs)) ∙ e)

-- the words of a part of some values are among the words of them all
pub any-words_take : (test : ℕ → Bool) (scanned : Bool) (n : ℕ) (values : List Value)
    → list_any test (if_scanned scanned (take n values)) ≡ true → list_any test (if_scanned scanned values) ≡ true
any-words_take test false n values e = e
any-words_take test true n values e =
    any-map (λ value. value.word) test values
    ∙ any-take (λ value. test value.word) n values (sym (any-map (λ value. value.word) test (take n values)) ∙ e)

pub any-words_drop : (test : ℕ → Bool) (scanned : Bool) (n : ℕ) (values : List Value)
    → list_any test (if_scanned scanned (drop n values)) ≡ true → list_any test (if_scanned scanned values) ≡ true
any-words_drop test false n values e = e
any-words_drop test true n values e =
    any-map (λ value. value.word) test values
    ∙ any-drop (λ value. test value.word) n values (sym (any-map (λ value. value.word) test (drop n values)) ∙ e)
