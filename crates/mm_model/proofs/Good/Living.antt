-- Live objects of a good state lie in the region and apart from one another.
use Rattle.std.proofs.Common.{◌≡◌, ℕ, zero, suc, ◌+◌, ◌<◌, ◌≤◌, Bool, true, false, cond, List, [], ◌∷◌, ◌++◌, map, Some}
use Rattle.std.proofs.Common.{refl, sym, ap, ◌∙◌, subst, ⊎_elim, arith}
use Rattle.std.specs.Prelude.{slice_get, ◌&&◌}
use Rattle.std.specs.List.{AllByRecursion}
use Rattle.mm_model.specs.Object.{Object, is_live, live_objects}
use Rattle.mm_model.specs.State.{State, Lives}
use Rattle.mm_model.specs.Places.Place.{Piece, object_piece, area_piece, live_pieces}
use Rattle.mm_model.specs.Good.{IsCell, IsPages, IsInside, AreApart, AreAllApart, IsPlaced}
use Rattle.mm_model.proofs.Places.Placing.{both}
use Rattle.mm_model.proofs.Places.SizeClasses.{class_bounds}

pub each_after : {X : Type 0} (P : X → Type 0) (xs ys : List X) → AllByRecursion P (xs ++ ys) → AllByRecursion P ys
each_after P [] ys h = h
each_after P (x ∷ xs) ys h = each_after P xs ys h.1

pub each_before : {X : Type 0} (P : X → Type 0) (xs ys : List X) → AllByRecursion P (xs ++ ys) → AllByRecursion P xs
each_before P [] ys h = tt
each_before P (x ∷ xs) ys h = (h.0, each_before P xs ys h.1)

pub each_append : {X : Type 0} (P : X → Type 0) (xs ys : List X) → AllByRecursion P xs → AllByRecursion P ys
    → AllByRecursion P (xs ++ ys)
each_append P [] ys h k = k
each_append P (x ∷ xs) ys h k = (h.0, each_append P xs ys h.1 k)

pub each_get : {X : Type 0} (P : X → Type 0) (xs : List X) (i : ℕ) (x : X) → AllByRecursion P xs
    → slice_get xs i ≡ Some x → P x
each_get P [] i x h e = cc
each_get P (y ∷ xs) zero x h e = let same : y ≡ x = cc in subst P same h.0
each_get P (y ∷ xs) (suc i) x h e = each_get P xs i x h.1 e

pub all_apart-after : (ps qs : List Piece) → AreAllApart (ps ++ qs) → AreAllApart qs
all_apart-after [] qs h = h
all_apart-after (p ∷ ps) qs h = all_apart-after ps qs h.1

-- what holds of each live piece holds of the piece of a live object
pub live_piece : (P : Piece → Type 0) (objects : List Object) (i : ℕ) (o : Object)
    → AllByRecursion P (map object_piece (live_objects objects)) → slice_get objects i ≡ Some o → is_live o ≡ true
    → P (object_piece o)
live_piece P [] i o h e l = cc
live_piece P (x ∷ xs) zero o h e l =
    let same : x ≡ o = cc in
    let split : (b : Bool) → b ≡ true
    → AllByRecursion P (map object_piece (cond b (x ∷ live_objects xs) (live_objects xs)))
    → P (object_piece x) =
    elim [ true ↦ λ p k. k.0 | false ↦ λ p k. cc ] in
    subst (λ y. P (object_piece y)) same (split (is_live x) (ap is_live same ∙ l) h)
live_piece P (x ∷ xs) (suc i) o h e l =
    let split : (b : Bool) → AllByRecursion P (map object_piece (cond b (x ∷ live_objects xs) (live_objects xs)))
    → AllByRecursion P (map object_piece (live_objects xs)) =
    elim [ true ↦ λ k. k.1 | false ↦ λ k. k ] in
    live_piece P xs i o (split (is_live x) h) e l

pub live_apart : (objects : List Object) (i j : ℕ) (x y : Object)
    → AreAllApart (map object_piece (live_objects objects)) → slice_get objects i ≡ Some x → is_live x ≡ true
    → slice_get objects j ≡ Some y → is_live y ≡ true → i < j
    → AreApart (object_piece x) (object_piece y)
live_apart [] i j x y a e l f m less = cc
live_apart (o ∷ os) i zero x y a e l f m less = absurd (omega arith)
live_apart (o ∷ os) zero (suc j) x y a e l f m less =
    let same : o ≡ x = cc in
    let split : (b : Bool) → is_live o ≡ b
    → AreAllApart (map object_piece (cond b (o ∷ live_objects os) (live_objects os)))
    → AreApart (object_piece x) (object_piece y) =
    elim [
      | true ↦ λ p k.
          subst (λ z. AreApart (object_piece z) (object_piece y)) same
          (live_piece (AreApart (object_piece o)) os j y k.0 f m)
      | false ↦ λ p k. let other = sym p ∙ ap is_live same ∙ l in cc
    ] in
    split (is_live o) refl a
live_apart (o ∷ os) (suc i) (suc j) x y a e l f m less =
    let split : (b : Bool) → AreAllApart (map object_piece (cond b (o ∷ live_objects os) (live_objects os)))
    → AreAllApart (map object_piece (live_objects os)) =
    elim [ true ↦ λ k. k.1 | false ↦ λ k. k ] in
    live_apart os i j x y (split (is_live o) a) e l f m (omega arith)

pub some_extent : (limit : ℕ) (p : Piece) → IsInside limit p → 0 < p.extent
some_extent limit p h =
    ⊎_elim (λ (cell : IsCell p). let bounds = class_bounds p.extent cell.class in omega arith)
    (λ (pages : IsPages p). pages.some) h.placed

-- the object with a birth number is one alone
pub lives_same : (a : State) (birth : ℕ) (x y : Object) → Lives a birth x → Lives a birth y → x ≡ y
lives_same a birth x y h k = let f = h.is in let g = k.is in cc

-- what passes a test of live objects lives
pub lives_where : (a : State) (birth : ℕ) (object : Object) (b : Bool) → slice_get a.objects birth ≡ Some object
    → (is_live object && b) ≡ true → Lives a birth object
lives_where a birth object b is e = record { is = is; live = (both _ _ e).0 }

module _ (a : State) (placed : IsPlaced a.settings.max (live_pieces a)) where
  pub lives_inside : (birth : ℕ) (object : Object) → Lives a birth object
      → IsInside a.settings.max (object_piece object)
  lives_inside birth object h =
      live_piece (IsInside a.settings.max) a.objects birth object
      (each_after _ (map area_piece a.areas) _ placed.inside) h.is h.live

  -- it begins past page 0 and has some bytes
  pub lives_from_page_1 : (birth : ℕ) (object : Object) → Lives a birth object → 4096 ≤ object.base
  lives_from_page_1 birth object h = (lives_inside birth object h).from

  pub lives_extent : (birth : ℕ) (object : Object) → Lives a birth object → 0 < object.extent
  lives_extent birth object h = some_extent a.settings.max (object_piece object) (lives_inside birth object h)

  -- a word falls in one live object alone
  pub lives_once : (i j : ℕ) (x y : Object) → Lives a i x → Lives a j y → (word : ℕ) → x.base ≤ word
      → word < x.base + x.extent → y.base ≤ word → word < y.base + y.extent → i ≡ j
  lives_once i j x y h k word p q r s =
      let apart = all_apart-after (map area_piece a.areas) _ placed.apart in
      let before : i < j → ⊥ = λ less.
      let one = live_apart a.objects i j x y apart h.is h.live k.is k.live less in
      ⊎_elim (λ (l : x.base + x.extent ≤ y.base). omega arith)
      (λ (l : y.base + y.extent ≤ x.base). omega arith) one.disjoint in
      let behind : j < i → ⊥ = λ less.
      let one = live_apart a.objects j i y x apart k.is k.live h.is h.live less in
      ⊎_elim (λ (l : y.base + y.extent ≤ x.base). omega arith)
      (λ (l : x.base + x.extent ≤ y.base). omega arith) one.disjoint in
      equal i j before behind
    where
      equal : (m n : ℕ) → (m < n → ⊥) → (n < m → ⊥) → m ≡ n
      equal m n f g = omega arith

  -- and one alone begins at a base
  pub lives_once_at : (i j : ℕ) (x y : Object) → Lives a i x → Lives a j y → x.base ≡ y.base → i ≡ j
  lives_once_at i j x y h k same =
      let p = lives_extent i x h in
      let q = lives_extent j y k in
      lives_once i j x y h k x.base (omega arith) (omega arith) (omega arith) (omega arith)
