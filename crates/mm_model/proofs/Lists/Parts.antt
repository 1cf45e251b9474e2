-- Lists of which some elements are left out.
use Rattle.std.proofs.Common.{◌≡◌, ℕ, zero, suc, ◌≤◌, Bool, true, false, cond, List, [], ◌∷◌, ◌++◌, drop, map, Some}
use Rattle.std.proofs.Common.{refl, sym, ap, ◌∙◌, subst, arith}
use Rattle.std.proofs.lemmas.List.Sums.{sum_by-append}
use Rattle.std.specs.Prelude.{slice_get}
use Rattle.std.specs.List.{flat_map, count_by, AllByRecursion}
use Rattle.mm_model.specs.Object.{Object, is_live, live_objects}
use Rattle.mm_model.specs.Places.Place.{Piece}
use Rattle.mm_model.specs.Good.{AreApart, AreAllApart}
use Rattle.mm_model.proofs.Good.Living.{each_before, each_after, each_append}

pub each_drop : {X : Type 0} (P : X → Type 0) (k : ℕ) (xs : List X) → AllByRecursion P xs → AllByRecursion P (drop k xs)
each_drop P zero xs h = h
each_drop P (suc k) [] h = tt
each_drop P (suc k) (x ∷ xs) h = each_drop P k xs h.1

-- the first list is the second one with elements left out
pub data IsPart {X : Type 0} : List X → List X → Type 0 where
  whole : IsPart [] []
  kept : {xs ys : List X} → (x : X) → IsPart xs ys → IsPart (x ∷ xs) (x ∷ ys)
  left_out : {xs ys : List X} → (y : X) → IsPart xs ys → IsPart xs (y ∷ ys)

pub each-part : {X : Type 0} (P : X → Type 0) (xs ys : List X) → IsPart xs ys → AllByRecursion P ys
    → AllByRecursion P xs
each-part P xs ys whole h = tt
each-part P xs ys (kept {xs = zs} {ys = ws} x part) h = (h.0, each-part P zs ws part h.1)
each-part P xs ys (left_out {xs = zs} {ys = ws} y part) h = each-part P zs ws part h.1

pub all_apart-part : (ps qs : List Piece) → IsPart ps qs → AreAllApart qs → AreAllApart ps
all_apart-part ps qs whole h = tt
all_apart-part ps qs (kept {xs = zs} {ys = ws} p part) h =
    (each-part (AreApart p) zs ws part h.0, all_apart-part zs ws part h.1)
all_apart-part ps qs (left_out {xs = zs} {ys = ws} q part) h = all_apart-part zs ws part h.1

pub part-behind : {X : Type 0} (front xs ys : List X) → IsPart xs ys → IsPart (front ++ xs) (front ++ ys)
part-behind [] xs ys part = part
part-behind (x ∷ front) xs ys part = kept x (part-behind front xs ys part)

-- what holds of each word that elements give
pub each_of-get : {X : Type 0} (P : ℕ → Type 0) (f : X → List ℕ) (xs : List X) → AllByRecursion P (flat_map f xs)
    → (i : ℕ) (x : X) → slice_get xs i ≡ Some x → AllByRecursion P (f x)
each_of-get P f [] h i x e = cc
each_of-get P f (y ∷ ys) h zero x e =
    let same : y ≡ x = cc in
    subst (λ z. AllByRecursion P (f z)) same (each_before P (f y) (flat_map f ys) h)
each_of-get P f (y ∷ ys) h (suc i) x e = each_of-get P f ys (each_after P (f y) (flat_map f ys) h) i x e

-- what holds of each word of the live objects
pub each_of-live : (P : ℕ → Type 0) (f : Object → List ℕ) (objects : List Object)
    → AllByRecursion P (flat_map f (live_objects objects)) → (i : ℕ) (o : Object) → slice_get objects i ≡ Some o
    → is_live o ≡ true → AllByRecursion P (f o)
each_of-live P f [] h i o e l = cc
each_of-live P f (x ∷ xs) h zero o e l =
    let same : x ≡ o = cc in
    let split : (b : Bool) → b ≡ true → AllByRecursion P (flat_map f (cond b (x ∷ live_objects xs) (live_objects xs)))
    → AllByRecursion P (f x) =
    elim [ true ↦ λ p k. each_before P (f x) (flat_map f (live_objects xs)) k | false ↦ λ p k. cc ] in
    subst (λ y. AllByRecursion P (f y)) same (split (is_live x) (ap is_live same ∙ l) h)
each_of-live P f (x ∷ xs) h (suc i) o e l =
    let split : (b : Bool) → AllByRecursion P (flat_map f (cond b (x ∷ live_objects xs) (live_objects xs)))
    → AllByRecursion P (flat_map f (live_objects xs)) =
    elim [ true ↦ λ k. each_after P (f x) (flat_map f (live_objects xs)) k | false ↦ λ k. k ] in
    each_of-live P f xs (split (is_live x) h) i o e l

pub each_live-of : (P : ℕ → Type 0) (f : Object → List ℕ) (objects : List Object)
    → ((i : ℕ) (o : Object) → slice_get objects i ≡ Some o → is_live o ≡ true → AllByRecursion P (f o))
    → AllByRecursion P (flat_map f (live_objects objects))
each_live-of P f [] h = tt
each_live-of P f (x ∷ xs) h =
    let rest = each_live-of P f xs (λ i o e l. h (suc i) o e l) in
    let split : (b : Bool) → is_live x ≡ b
    → AllByRecursion P (flat_map f (cond b (x ∷ live_objects xs) (live_objects xs))) =
    elim [ true ↦ λ p. each_append P (f x) _ (h 0 x refl p) rest | false ↦ λ p. rest ] in
    split (is_live x) refl

-- A change of each object that makes none live, and keeps what a function tells of those that go on to live.
module _ (change : Object → Object) (lives : (o : Object) → is_live (change o) ≡ true → is_live o ≡ true) where
  pub map_live-part : {P : Type 0} (f : Object → P)
      → ((o : Object) → is_live (change o) ≡ true → f (change o) ≡ f o) → (objects : List Object)
      → IsPart (map f (live_objects (map change objects))) (map f (live_objects objects))
  map_live-part f same [] = whole
  map_live-part {P} f same (o ∷ os) =
      let rest = map_live-part f same os in
      let split : (b c : Bool) → (b ≡ true → c ≡ true) → (b ≡ true → f (change o) ≡ f o)
      → IsPart (map f (cond b (change o ∷ live_objects (map change os)) (live_objects (map change os))))
      (map f (cond c (o ∷ live_objects os) (live_objects os))) =
      elim [
        | true ↦ elim [
          | true ↦ λ p q. subst (λ x. IsPart (x ∷ map f (live_objects (map change os))) (f o ∷ map f (live_objects os)))
              (sym (q refl)) (kept (f o) rest)
          | false ↦ λ p q. let clash = p refl in cc
        ]
        | false ↦ elim [ true ↦ λ p q. left_out (f o) rest | false ↦ λ p q. rest ]
      ] in
      split (is_live (change o)) (is_live o) (lives o) (same o)

  -- so a count over the words of the live objects doesn't rise
  pub count_live-part : (p : ℕ → Bool) (f : Object → List ℕ)
      → ((o : Object) → is_live (change o) ≡ true → f (change o) ≡ f o) → (objects : List Object)
      → count_by p (flat_map f (live_objects (map change objects))) ≤ count_by p (flat_map f (live_objects objects))
  count_live-part p f same [] = omega arith
  count_live-part p f same (o ∷ os) =
      let rest = count_live-part p f same os in
      let word : ℕ → ℕ = λ w. cond (p w) 1 0 in
      let joined = sum_by-append word (f o) (flat_map f (live_objects os)) in
      let joined_after = sum_by-append word (f (change o)) (flat_map f (live_objects (map change os))) in
      let split : (b c : Bool) → (b ≡ true → c ≡ true) → (b ≡ true → f (change o) ≡ f o)
      → count_by p (flat_map f (cond b (change o ∷ live_objects (map change os)) (live_objects (map change os))))
      ≤ count_by p (flat_map f (cond c (o ∷ live_objects os) (live_objects os))) =
      elim [
        | true ↦ elim [
          | true ↦ λ q r. let own = ap (count_by p) (r refl) in omega (arith, joined, joined_after, own, rest)
          | false ↦ λ q r. let clash = q refl in cc
        ]
        | false ↦ elim [ true ↦ λ q r. omega (arith, joined, rest) | false ↦ λ q r. rest ]
      ] in
      split (is_live (change o)) (is_live o) (lives o) (same o)
