-- Live objects with their birth numbers, and tests over lists of them.
use Rattle.std.proofs.Common.{◌≡◌, ℕ, zero, suc, ◌+◌, ◌==◌, Bool, true, false, cond, if◌then◌else◌, List, [], ◌∷◌, Some}
use Rattle.std.proofs.Common.{slice_get, sym, refl, subst, ⊎_elim, eqb-true, add-zero, zero-add, arith}
use Rattle.std.specs.List.{list_any, list_all, AllByRecursion}
use Rattle.std.proofs.lemmas.Bool.{and_parts, and_from, or_cases, or_left, or_right}
use Rattle.mm_model.specs.Object.{Object, is_live}
use Rattle.mm_model.specs.State.{State, Lives}

-- an object with its birth number
pub record Numbered : Type 0 where
  pub birth : ℕ
  pub object : Object

abbrev pub numbered : ℕ → Object → Numbered
numbered birth object = record { birth = birth; object = object }

-- the live ones of some objects, the first of which has this birth number
abbrev pub living_from : ℕ → List Object → List Numbered
living_from birth [] = []
living_from birth (object ∷ objects) =
    if is_live object then numbered birth object ∷ living_from (birth + 1) objects
    else living_from (birth + 1) objects

abbrev pub living : State → List Numbered
living a = living_from 0 a.objects

abbrev pub has_birth : List Numbered → ℕ → Bool
has_birth members birth = list_any (λ m. m.birth == birth) members

module _ {X : Type 0} where
  pub each_from_all : (test : X → Bool) (xs : List X) → list_all test xs ≡ true
      → AllByRecursion (λ x. test x ≡ true) xs
  each_from_all test [] e = tt
  each_from_all test (x ∷ xs) e =
      let parts = and_parts (test x) (list_all test xs) e in
      (parts.0, each_from_all test xs parts.1)

  pub all_from_each : (test : X → Bool) (xs : List X) → AllByRecursion (λ x. test x ≡ true) xs
      → list_all test xs ≡ true
  all_from_each test [] h = refl
  all_from_each test (x ∷ xs) h = and_from (test x) (list_all test xs) h.0 (all_from_each test xs h.1)

  -- what follows from each element that passes follows where one does
  pub from_any : (test : X → Bool) (R : Type 0) (xs : List X) → list_any test xs ≡ true
      → AllByRecursion (λ x. test x ≡ true → R) xs → R
  from_any test R [] e h = cc
  from_any test R (x ∷ xs) e h =
      ⊎_elim (λ (p : test x ≡ true). h.0 p) (λ (p : list_any test xs ≡ true). from_any test R xs p h.1)
      (or_cases (test x) (list_any test xs) e)

  pub each_implied : (P Q : X → Type 0) → ((x : X) → P x → Q x) → (xs : List X) → AllByRecursion P xs
      → AllByRecursion Q xs
  each_implied P Q f [] h = tt
  each_implied P Q f (x ∷ xs) h = (f x h.0, each_implied P Q f xs h.1)

  pub any_implied : (test other : X → Bool) (xs : List X)
      → AllByRecursion (λ x. test x ≡ true → other x ≡ true) xs → list_any test xs ≡ true
      → list_any other xs ≡ true
  any_implied test other [] h e = e
  any_implied test other (x ∷ xs) h e =
      ⊎_elim (λ (p : test x ≡ true). or_left (other x) (list_any other xs) (h.0 p))
      (λ (p : list_any test xs ≡ true). or_right (other x) (list_any other xs) (any_implied test other xs h.1 p))
      (or_cases (test x) (list_any test xs) e)

module _ (P : Numbered → Type 0) where
  -- what holds of each live one holds at the place of a live object
  each_at : (birth : ℕ) (objects : List Object) → AllByRecursion P (living_from birth objects)
      → (i : ℕ) (object : Object) → slice_get objects i ≡ Some object → is_live object ≡ true
      → P (numbered (birth + i) object)
  each_at birth [] h i object e live = cc
  each_at birth (o ∷ os) h zero object e live =
      let same : o ≡ object = cc in
      let lives : is_live o ≡ true = subst (λ x. is_live x ≡ true) (sym same) live in
      let front = subst
      (λ b. AllByRecursion P (cond b (numbered birth o ∷ living_from (birth + 1) os) (living_from (birth + 1) os)))
      lives h in
      let here : P (numbered birth object) = subst (λ x. P (numbered birth x)) same front.0 in
      subst (λ n. P (numbered n object)) (sym (add-zero birth)) here
  each_at birth (o ∷ os) h (suc i) object e live =
      let later : (b : Bool)
      → AllByRecursion P (cond b (numbered birth o ∷ living_from (birth + 1) os) (living_from (birth + 1) os))
      → AllByRecursion P (living_from (birth + 1) os) =
      elim [ true ↦ λ q. q.1 | false ↦ λ q. q ] in
      let next : birth + 1 + i ≡ birth + suc i = omega arith in
      subst (λ n. P (numbered n object)) next (each_at (birth + 1) os (later (is_live o) h) i object e live)

  each_living_from : (birth : ℕ) (objects : List Object)
      → ((i : ℕ) (object : Object) → slice_get objects i ≡ Some object → is_live object ≡ true
      → P (numbered (birth + i) object))
      → AllByRecursion P (living_from birth objects)
  each_living_from birth [] f = tt
  each_living_from birth (o ∷ os) f =
      let later = each_living_from (birth + 1) os
      (λ i object e live.
      let next : birth + suc i ≡ birth + 1 + i = omega arith in
      subst (λ n. P (numbered n object)) next (f (suc i) object e live)) in
      let split : (b : Bool) → is_live o ≡ b
      → AllByRecursion P (cond b (numbered birth o ∷ living_from (birth + 1) os) (living_from (birth + 1) os)) =
      elim [
        | true ↦ λ p. (subst (λ n. P (numbered n o)) (add-zero birth) (f 0 o refl p), later)
        | false ↦ λ p. later
      ] in
      split (is_live o) refl

  pub at_live : (a : State) → AllByRecursion P (living a) → (birth : ℕ) (object : Object) → Lives a birth object
      → P (numbered birth object)
  at_live a h birth object lives =
      subst (λ n. P (numbered n object)) (zero-add birth) (each_at 0 a.objects h birth object lives.is lives.live)

  pub each_living : (a : State) → ((birth : ℕ) (object : Object) → Lives a birth object → P (numbered birth object))
      → AllByRecursion P (living a)
  each_living a f =
      each_living_from 0 a.objects
      (λ i object e live.
      subst (λ n. P (numbered n object)) (sym (zero-add i)) (f i object (record { is = e; live = live })))

-- the listed objects live, and their births are in a set
pub record IsMember (a : State) (In : ℕ → Type 0) (m : Numbered) : Type 0 where
  pub lives : Lives a m.birth m.object
  pub in_set : In m.birth

pub in_from_has_birth : (a : State) (In : ℕ → Type 0) (members : List Numbered) (birth : ℕ)
    → AllByRecursion (IsMember a In) members → has_birth members birth ≡ true → In birth
in_from_has_birth a In members birth h e =
    from_any (λ m. m.birth == birth) (In birth) members e
    (each_implied (IsMember a In) (λ m. (m.birth == birth) ≡ true → In birth)
    (λ m is same. subst In (eqb-true m.birth birth same) is.in_set) members h)
