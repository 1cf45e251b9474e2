-- Lists that grow at the end.
use Rattle.std.proofs.Common.{◌≡◌, ℕ, zero, suc, ◌+◌, ◌-◌, ◌≤◌, Bool, true, false, cond, List, [], ◌∷◌, ◌++◌}
use Rattle.std.proofs.Common.{length, Option, Some, None, refl, ap, ◌∙◌, subst, ◌⊎◌, ⊎_elim, inl, inr, ◌||◌}
use Rattle.std.proofs.Common.{eqb-true, zero-add, arith}
use Rattle.std.proofs.lemmas.List.Sums.{sum_by-cons}
use Rattle.std.specs.Prelude.{slice_get, ◌==◌}
use Rattle.std.specs.List.{find, position_from, list_any, count_by, AllByRecursion}
use Rattle.mm_model.proofs.Lists.Keyed.{refuted}

-- what a test finds stands at some place
pub record Found {X : Type 0} (test : X → Bool) (xs : List X) (x : X) : Type 0 where
  pub place : ℕ
  pub is : slice_get xs place ≡ Some x
  pub passes : test x ≡ true

pub find-Some : {X : Type 0} (test : X → Bool) (xs : List X) (x : X) → find test xs ≡ Some x → Found test xs x
find-Some test [] x e = cc
find-Some {X} test (y ∷ ys) x e =
    let split : (b : Bool) → test y ≡ b → cond b (Some y) (find test ys) ≡ Some x → Found test (y ∷ ys) x =
    elim [
      | true ↦ λ p q.
          let same : y ≡ x = cc in
          record { place = 0; is = ap (λ (z : X). Some z) same; passes = subst (λ z. test z ≡ true) same p }
      | false ↦ λ p q.
          let rest = find-Some test ys x q in
          record { place = suc rest.place; is = rest.is; passes = rest.passes }
    ] in
    split (test y) refl e

pub find-None : {X : Type 0} (test : X → Bool) (xs : List X) → find test xs ≡ None
    → AllByRecursion (λ x. test x ≡ false) xs
find-None test [] e = tt
find-None {X} test (x ∷ xs) e =
    let split : (b : Bool) → test x ≡ b → ◌≡◌ {A = Option X} (cond b (Some x) (find test xs)) None
    → AllByRecursion (λ y. test y ≡ false) (x ∷ xs) =
    elim [ true ↦ λ p q. cc | false ↦ λ p q. (p, find-None test xs q) ] in
    split (test x) refl e

pub get-front : {X : Type 0} (xs ys : List X) (i : ℕ) (x : X) → slice_get xs i ≡ Some x
    → slice_get (xs ++ ys) i ≡ Some x
get-front [] ys i x e = cc
get-front (z ∷ xs) ys zero x e = e
get-front (z ∷ xs) ys (suc i) x e = get-front xs ys i x e

-- what stands in a list with one more element stood there before, or is the last
pub get-push : {X : Type 0} (xs : List X) (y : X) (i : ℕ) (z : X) → slice_get (xs ++ y ∷ []) i ≡ Some z
    → (slice_get xs i ≡ Some z) ⊎ ((i ≡ length xs) × (y ≡ z))
get-push [] y zero z e = inr (refl, cc)
get-push [] y (suc i) z e = cc
get-push (x ∷ xs) y zero z e = inl e
get-push (x ∷ xs) y (suc i) z e =
    ⊎_elim (λ (old : slice_get xs i ≡ Some z). inl old)
    (λ (last : (i ≡ length xs) × (y ≡ z)). inr (ap suc last.0, last.1)) (get-push xs y i z e)

pub get-last : {X : Type 0} (xs : List X) (y : X) → slice_get (xs ++ y ∷ []) (length xs) ≡ Some y
get-last [] y = refl
get-last (x ∷ xs) y = get-last xs y

-- some element passes
pub any_get : {X : Type 0} (test : X → Bool) (xs : List X) → list_any test xs ≡ true
    → (i : ℕ) × (x : X) × (slice_get xs i ≡ Some x) × (test x ≡ true)
any_get test [] e = cc
any_get {X} test (x ∷ xs) e =
    let split : (b : Bool) → test x ≡ b → (b || list_any test xs) ≡ true
    → (i : ℕ) × (y : X) × (slice_get (x ∷ xs) i ≡ Some y) × (test y ≡ true) =
    elim [
      | true ↦ λ p q. (0, x, refl, p)
      | false ↦ λ p q. let rest = any_get test xs q in (suc rest.0, rest.1, rest.2, rest.3)
    ] in
    split (test x) refl e

pub any_from_get : {X : Type 0} (test : X → Bool) (xs : List X) (i : ℕ) (x : X) → slice_get xs i ≡ Some x
    → test x ≡ true → list_any test xs ≡ true
any_from_get test [] i x e t = cc
any_from_get {X} test (y ∷ xs) zero x e t =
    let same : y ≡ x = cc in ap (λ z. test z || list_any test xs) same ∙ ap (λ b. b || list_any test xs) t
any_from_get test (y ∷ xs) (suc i) x e t =
    let rest = any_from_get test xs i x e t in
    let split : (b : Bool) → (b || list_any test xs) ≡ true = elim [ true ↦ refl | false ↦ rest ] in
    split (test y)

-- a count where nothing passes
pub count-none : (x : ℕ) (words : List ℕ) → AllByRecursion (λ w. w ≡ x → ⊥) words
    → count_by (λ w. w == x) words ≡ 0
count-none x [] h = refl
count-none x (w ∷ ws) h =
    let other : (w == x) ≡ false = refuted (w == x) (λ e. h.0 (eqb-true _ _ e)) in
    sum_by-cons (λ w. cond (w == x) 1 0) w ws
    ∙ ap (λ b. cond b 1 0 + count_by (λ w. w == x) ws) other ∙ zero-add _ ∙ count-none x ws h.1

pub each_push : {X : Type 0} (P : X → Type 0) (xs : List X) (y : X) → AllByRecursion P xs → P y
    → AllByRecursion P (xs ++ y ∷ [])
each_push P [] y h p = (p, tt)
each_push P (x ∷ xs) y h p = (h.0, each_push P xs y h.1 p)

-- a test that one element alone passes finds it
pub find-only : {X : Type 0} (test : X → Bool) (xs : List X) (i : ℕ) (x : X) → slice_get xs i ≡ Some x
    → test x ≡ true → ((j : ℕ) (y : X) → slice_get xs j ≡ Some y → test y ≡ true → y ≡ x) → find test xs ≡ Some x
find-only test [] i x is passes only = cc
find-only {X} test (y ∷ ys) zero x is passes only =
    let same : y ≡ x = cc in
    ap (λ (z : X). cond (test z) (Some z) (find test ys)) same ∙ ap (λ b. cond b (Some x) (find test ys)) passes
find-only {X} test (y ∷ ys) (suc i) x is passes only =
    let rest = find-only test ys i x is passes (λ j z e. only (suc j) z e) in
    let split : (b : Bool) → test y ≡ b → cond b (Some y) (find test ys) ≡ Some x =
    elim [ true ↦ λ p. ap (λ (z : X). Some z) (only 0 y refl p) | false ↦ λ p. rest ] in
    split (test y) refl

pub position_from-least : {X : Type 0} (test : X → Bool) (low : ℕ) (xs : List X) (n : ℕ)
    → position_from test low xs ≡ Some n → low ≤ n
position_from-least test low [] n e = cc
position_from-least test low (x ∷ xs) n e =
    let rest = position_from-least test (low + 1) xs n in
    let split : (b : Bool) → cond b (Some low) (position_from test (low + 1) xs) ≡ Some n → low ≤ n =
    elim [ true ↦ λ q. let same : low ≡ n = cc in omega arith | false ↦ λ q. let above = rest q in omega arith ] in
    split (test x) e

position_from-none : {X : Type 0} (test : X → Bool) (low : ℕ) (xs : List X) (i : ℕ) (x : X)
    → position_from test low xs ≡ None → slice_get xs i ≡ Some x → test x ≡ true → ⊥
position_from-none test low [] i x none is passes = cc
position_from-none {X} test low (y ∷ ys) zero x none is passes =
    let same : y ≡ x = cc in
    let here = ap (λ (z : X). cond (test z) (Some low) (position_from test (low + 1) ys)) same
    ∙ ap (λ b. cond b (Some low) (position_from test (low + 1) ys)) passes in
    cc
position_from-none test low (y ∷ ys) (suc i) x none is passes =
    let rest = λ (q : position_from test (low + 1) ys ≡ None). position_from-none test (low + 1) ys i x q is passes in
    let split : (b : Bool) → ◌≡◌ {A = Option ℕ} (cond b (Some low) (position_from test (low + 1) ys)) None → ⊥ =
    elim [ true ↦ λ q. cc | false ↦ λ q. rest q ] in
    split (test y) none

-- what stands at the first position that passes
pub position_from-Some : {X : Type 0} (test : X → Bool) (xs : List X) (n : ℕ) → position_from test 0 xs ≡ Some n
    → (x : X) × (slice_get xs n ≡ Some x) × (test x ≡ true)
position_from-Some {X} test xs n e =
    let one = from 0 xs n e in
    let whole : n ≡ n - 0 = omega arith in
    (one.0, ap (slice_get xs) whole ∙ one.1, one.2)
  where
    from : (low : ℕ) (xs : List X) (n : ℕ) → position_from test low xs ≡ Some n
        → (x : X) × (slice_get xs (n - low) ≡ Some x) × (test x ≡ true)
    from low [] n e = cc
    from low (x ∷ xs) n e =
        let rest = from (low + 1) xs n in
        let above = position_from-least test (low + 1) xs n in
        let split : (b : Bool) → test x ≡ b → cond b (Some low) (position_from test (low + 1) xs) ≡ Some n
        → (y : X) × (slice_get (x ∷ xs) (n - low) ≡ Some y) × (test y ≡ true) =
        elim [
          | true ↦ λ p q.
              let same : low ≡ n = cc in
              let here : n - low ≡ 0 = omega arith in
              (x, ap (slice_get (x ∷ xs)) here, p)
          | false ↦ λ p q.
              let past = above q in
              let more = rest q in
              let next : n - low ≡ suc (n - (low + 1)) = omega arith in
              (more.0, ap (slice_get (x ∷ xs)) next ∙ more.1, more.2)
        ] in
        split (test x) refl e

-- a position that one element alone can have
pub position_from-get : {X : Type 0} (test : X → Bool) (xs : List X) (i : ℕ) (x : X) → slice_get xs i ≡ Some x
    → test x ≡ true → ((j : ℕ) (y : X) → slice_get xs j ≡ Some y → test y ≡ true → j ≡ i)
    → position_from test 0 xs ≡ Some i
position_from-get {X} test xs i x is passes only = split (position_from test 0 xs) refl
  where
    split : (found : Option ℕ) → position_from test 0 xs ≡ found → found ≡ Some i
    split None e = absurd (position_from-none test 0 xs i x e is passes)
    split (Some n) e =
        let one = position_from-Some test xs n e in
        ap (λ (m : ℕ). Some m) (only n one.0 one.1 one.2)
