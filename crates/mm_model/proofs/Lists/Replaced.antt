-- Lists of which one element becomes another.
use Rattle.std.proofs.Common.{◌≡◌, ℕ, zero, suc, ◌+◌, ◌<◌, Bool, true, false, cond, ◌||◌, List, [], ◌∷◌, ◌++◌, map}
use Rattle.std.proofs.Common.{take, Some, refl, sym, ap, ◌∙◌, ◌⊎◌, ⊎_elim, inl, inr, arith}
use Rattle.std.specs.Prelude.{slice_get, slice_set}
use Rattle.std.specs.List.{list_any, flat_map, position_from}
use Rattle.std.specs.Option.{option_map}
use Rattle.mm_model.specs.Object.{Object, is_live, live_objects}

pub get-set_same : {X : Type 0} (xs : List X) (i : ℕ) (x y : X) → slice_get xs i ≡ Some x
    → slice_get (slice_set xs i y) i ≡ Some y
get-set_same [] i x y e = cc
get-set_same (z ∷ zs) zero x y e = refl
get-set_same (z ∷ zs) (suc i) x y e = get-set_same zs i x y e

pub get-set_other : {X : Type 0} (xs : List X) (i j : ℕ) (y : X) → (j ≡ i → ⊥)
    → slice_get (slice_set xs i y) j ≡ slice_get xs j
get-set_other [] i j y other = refl
get-set_other (z ∷ zs) zero zero y other = absurd (other refl)
get-set_other (z ∷ zs) zero (suc j) y other = refl
get-set_other (z ∷ zs) (suc i) zero y other = refl
get-set_other (z ∷ zs) (suc i) (suc j) y other = get-set_other zs i j y (λ e. other (ap suc e))

-- what a function tells of each element stays where it tells the same of the new one
pub map-set_alike : {X P : Type 0} (f : X → P) (xs : List X) (i : ℕ) (x y : X) → slice_get xs i ≡ Some x → f y ≡ f x
    → map f (slice_set xs i y) ≡ map f xs
map-set_alike f [] i x y e same = cc
map-set_alike {X} f (z ∷ zs) zero x y e same = let own : z ≡ x = cc in ap (λ p. p ∷ map f zs) (same ∙ sym (ap f own))
map-set_alike f (z ∷ zs) (suc i) x y e same = ap (λ ps. f z ∷ ps) (map-set_alike f zs i x y e same)

pub map-set : {X P : Type 0} (f : X → P) (xs : List X) (i : ℕ) (y : X)
    → map f (slice_set xs i y) ≡ slice_set (map f xs) i (f y)
map-set f [] i y = refl
map-set f (z ∷ zs) zero y = refl
map-set f (z ∷ zs) (suc i) y = ap (λ ps. f z ∷ ps) (map-set f zs i y)

pub any-set_alike : {X : Type 0} (test : X → Bool) (xs : List X) (i : ℕ) (x y : X) → slice_get xs i ≡ Some x
    → test y ≡ test x → list_any test (slice_set xs i y) ≡ list_any test xs
any-set_alike test [] i x y e same = cc
any-set_alike {X} test (z ∷ zs) zero x y e same =
    let own : z ≡ x = cc in ap (λ b. b || list_any test zs) (same ∙ sym (ap test own))
any-set_alike test (z ∷ zs) (suc i) x y e same = ap (λ b. test z || b) (any-set_alike test zs i x y e same)

pub position_from-set_alike : {X : Type 0} (test : X → Bool) (low : ℕ) (xs : List X) (i : ℕ) (x y : X)
    → slice_get xs i ≡ Some x → test y ≡ test x
    → position_from test low (slice_set xs i y) ≡ position_from test low xs
position_from-set_alike test low [] i x y e same = cc
position_from-set_alike {X} test low (z ∷ zs) zero x y e same =
    let own : z ≡ x = cc in
    ap (λ b. cond b (Some low) (position_from test (low + 1) zs)) (same ∙ sym (ap test own))
position_from-set_alike test low (z ∷ zs) (suc i) x y e same =
    ap (cond (test z) (Some low)) (position_from-set_alike test (low + 1) zs i x y e same)

-- the same of the objects that live
pub map_live-set : {P : Type 0} (f : Object → P) (objects : List Object) (i : ℕ) (x y : Object)
    → slice_get objects i ≡ Some x → is_live y ≡ is_live x → f y ≡ f x
    → map f (live_objects (slice_set objects i y)) ≡ map f (live_objects objects)
map_live-set f [] i x y e live same = cc
map_live-set f (z ∷ zs) zero x y e live same =
    let own : z ≡ x = cc in
    let to : map f (cond (is_live y) (y ∷ live_objects zs) (live_objects zs))
    ≡ map f (cond (is_live z) (y ∷ live_objects zs) (live_objects zs)) =
    ap (λ b. map f (cond b (y ∷ live_objects zs) (live_objects zs))) (live ∙ sym (ap is_live own)) in
    let split : (b : Bool) → map f (cond b (y ∷ live_objects zs) (live_objects zs))
    ≡ map f (cond b (z ∷ live_objects zs) (live_objects zs)) =
    elim [ true ↦ ap (λ p. p ∷ map f (live_objects zs)) (same ∙ sym (ap f own)) | false ↦ refl ] in
    to ∙ split (is_live z)
map_live-set f (z ∷ zs) (suc i) x y e live same =
    let rest = map_live-set f zs i x y e live same in
    let split : (b : Bool) → map f (cond b (z ∷ live_objects (slice_set zs i y)) (live_objects (slice_set zs i y)))
    ≡ map f (cond b (z ∷ live_objects zs) (live_objects zs)) =
    elim [ true ↦ ap (λ ps. f z ∷ ps) rest | false ↦ rest ] in
    split (is_live z)

pub flat_map-map : {X A : Type 0} (f : X → List A) (xs : List X) → flat_map f xs ≡ flat_map (λ ys. ys) (map f xs)
flat_map-map f [] = refl
flat_map-map f (x ∷ xs) = ap (λ ys. f x ++ ys) (flat_map-map f xs)

-- a test that passes in a front of the new list passed in it before, or passes of the new element
pub any_take-set : (test : ℕ → Bool) (count : ℕ) (words : List ℕ) (i word : ℕ)
    → list_any test (take count (slice_set words i word)) ≡ true
    → (list_any test (take count words) ≡ true) ⊎ ((i < count) × (test word ≡ true))
any_take-set test zero words i word e = cc
any_take-set test (suc count) [] i word e = cc
any_take-set test (suc count) (w ∷ ws) zero word e =
    let old : (b : Bool) → test w ≡ b → list_any test (take count ws) ≡ true
    → (b || list_any test (take count ws)) ≡ true =
    elim [ true ↦ λ p q. refl | false ↦ λ p q. q ] in
    let split : (b : Bool) → test word ≡ b → (b || list_any test (take count ws)) ≡ true
    → ((test w || list_any test (take count ws)) ≡ true) ⊎ ((0 < suc count) × (test word ≡ true)) =
    elim [ true ↦ λ p q. inr (omega arith, p) | false ↦ λ p q. inl (old (test w) refl q) ] in
    split (test word) refl e
any_take-set test (suc count) (w ∷ ws) (suc i) word e =
    let rest = any_take-set test count ws i word in
    let split : (b : Bool) → (b || list_any test (take count (slice_set ws i word))) ≡ true
    → ((b || list_any test (take count ws)) ≡ true) ⊎ ((suc i < suc count) × (test word ≡ true)) =
    elim [
      | true ↦ λ q. inl refl
      | false ↦ λ q.
          ⊎_elim (λ (l : list_any test (take count ws) ≡ true). inl l)
          (λ (r : (i < count) × (test word ≡ true)). let less = r.0 in inr (omega arith, r.1)) (rest q)
    ] in
    split (test w) e

pub any-set : (test : ℕ → Bool) (words : List ℕ) (i word : ℕ) → list_any test (slice_set words i word) ≡ true
    → (list_any test words ≡ true) ⊎ (test word ≡ true)
any-set test [] i word e = cc
any-set test (w ∷ ws) zero word e =
    let split : (b : Bool) → test word ≡ b → (b || list_any test ws) ≡ true
    → ((test w || list_any test ws) ≡ true) ⊎ (test word ≡ true) =
    elim [ true ↦ λ p q. inr p | false ↦ λ p q. inl (old (test w) q) ] in
    split (test word) refl e
  where
    old : (b : Bool) → list_any test ws ≡ true → (b || list_any test ws) ≡ true
    old true q = refl
    old false q = q
any-set test (w ∷ ws) (suc i) word e =
    let rest = any-set test ws i word in
    let split : (b : Bool) → (b || list_any test (slice_set ws i word)) ≡ true
    → ((b || list_any test ws) ≡ true) ⊎ (test word ≡ true) =
    elim [
      | true ↦ λ q. inl refl
      | false ↦ λ q. rest q
    ] in
    split (test w) e

-- what stands in the new list stood there before, or is the new element
pub get-set_cases : {X : Type 0} (xs : List X) (i j : ℕ) (y z : X) → slice_get (slice_set xs i y) j ≡ Some z
    → ((j ≡ i) × (y ≡ z)) ⊎ (slice_get xs j ≡ Some z)
get-set_cases [] i j y z e = cc
get-set_cases (x ∷ xs) zero zero y z e = inl (refl, cc)
get-set_cases (x ∷ xs) zero (suc j) y z e = inr e
get-set_cases (x ∷ xs) (suc i) zero y z e = inr e
get-set_cases (x ∷ xs) (suc i) (suc j) y z e =
    ⊎_elim (λ (l : (j ≡ i) × (y ≡ z)). inl (ap suc l.0, l.1)) (λ (r : slice_get xs j ≡ Some z). inr r)
    (get-set_cases xs i j y z e)

pub option_get-set_alike : {X P : Type 0} (f : X → P) (xs : List X) (i j : ℕ) (x y : X) → slice_get xs i ≡ Some x
    → f y ≡ f x → option_map f (slice_get (slice_set xs i y) j) ≡ option_map f (slice_get xs j)
option_get-set_alike f [] i j x y e same = cc
option_get-set_alike {X} f (z ∷ zs) zero zero x y e same =
    let own : z ≡ x = cc in ap (λ p. Some p) (same ∙ sym (ap f own))
option_get-set_alike f (z ∷ zs) zero (suc j) x y e same = refl
option_get-set_alike f (z ∷ zs) (suc i) zero x y e same = refl
option_get-set_alike f (z ∷ zs) (suc i) (suc j) x y e same = option_get-set_alike f zs i j x y e same

pub map-map_alike : {X P : Type 0} (g : X → P) (f : X → X) → ((x : X) → g (f x) ≡ g x) → (xs : List X)
    → map g (map f xs) ≡ map g xs
map-map_alike g f same [] = refl
map-map_alike g f same (x ∷ xs) =
    ap (λ p. p ∷ map g (map f xs)) (same x) ∙ ap (λ ps. g x ∷ ps) (map-map_alike g f same xs)
