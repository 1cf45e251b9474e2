-- The live objects of a state, found by their bases, tested and counted.
use Rattle.std.proofs.Common.{◌≡◌, ℕ, ◌+◌, ◌≤◌, Bool, true, false, cond, eqb-true, List, [], ◌∷◌, map, Some, refl, sym}
use Rattle.std.proofs.Common.{ap, ◌∙◌, subst, ⊎_elim, arith, zero-add}
use Rattle.std.proofs.lemmas.Bool.{eq-eqb}
use Rattle.std.proofs.lemmas.List.Sums.{sum_by-cons}
use Rattle.std.specs.Prelude.{◌&&◌, ◌||◌, nat_eq}
use Rattle.std.specs.List.{list_any, find, count_by, AllByRecursion, IsDistinct}
use Rattle.mm_model.specs.Object.{Object, is_live, live_objects}
use Rattle.mm_model.specs.State.{State, Lives, lives_at}
use Rattle.mm_model.specs.After.{birth_at}
use Rattle.mm_model.specs.Places.Place.{Piece, object_piece, area_piece, live_pieces}
use Rattle.mm_model.specs.Good.{IsInside, AreApart, AreAllApart, IsPlaced}
use Rattle.mm_model.proofs.Lists.Growing.{find-only, position_from-get}
use Rattle.mm_model.proofs.Lists.Keyed.{IsKeyed, refuted}
use Rattle.mm_model.proofs.Lists.Truth.{together}
use Rattle.mm_model.proofs.Places.Placing.{both}
use Rattle.mm_model.proofs.Good.Living.{each_after, all_apart-after, some_extent, lives_same, lives_once_at}
use Rattle.mm_model.proofs.Good.Living.{lives_where}

-- the live object at a base, found among all or among the live ones
pub find-live : (objects : List Object) (base : ℕ)
    → find (lives_at base) objects ≡ find (λ o. nat_eq o.base base) (live_objects objects)
find-live [] base = refl
find-live (o ∷ os) base =
    let split : (b : Bool) → cond (b && nat_eq o.base base) (Some o) (find (lives_at base) os) ≡
    find (λ (o : Object). nat_eq o.base base) (cond b (o ∷ live_objects os) (live_objects os)) =
    elim [ true ↦ ap (cond (nat_eq o.base base) (Some o)) (find-live os base) | false ↦ find-live os base ] in
    split (is_live o)

distinct_bases : (limit : ℕ) (p q : Piece) → IsInside limit p → IsInside limit q → AreApart p q
    → nat_eq p.base q.base ≡ false
distinct_bases limit p q i j a =
    let x = some_extent limit p i in
    let y = some_extent limit q j in
    let other : p.base ≡ q.base → ⊥ = λ same.
    ⊎_elim (λ (l : p.base + p.extent ≤ q.base). omega arith)
    (λ (l : q.base + q.extent ≤ p.base). omega arith) a.disjoint in
    refuted (nat_eq p.base q.base) (λ e. other (eqb-true _ _ e))

-- two that live begin at different bases
keyed-live : (limit : ℕ) (objects : List Object) → AllByRecursion (IsInside limit) (map object_piece objects)
    → AreAllApart (map object_piece objects) → IsKeyed (λ o. o.base) objects
unfolding IsDistinct
keyed-live limit [] i a = tt
keyed-live limit (o ∷ os) i a = (others os i.1 a.0, keyed-live limit os i.1 a.1)
  where
    others : (qs : List Object) → AllByRecursion (IsInside limit) (map object_piece qs)
        → AllByRecursion (AreApart (object_piece o)) (map object_piece qs)
        → AllByRecursion (λ base. nat_eq o.base base ≡ false) (map (λ o. o.base) qs)
    others [] j b = tt
    others (q ∷ qs) j b = (distinct_bases limit (object_piece o) (object_piece q) i.0 j.0 b.0, others qs j.1 b.1)

pub any-live : (test : Object → Bool) (objects : List Object)
    → list_any test (live_objects objects) ≡ list_any (λ o. is_live o && test o) objects
any-live test [] = refl
any-live test (o ∷ os) =
    let split : (b : Bool) → list_any test (cond b (o ∷ live_objects os) (live_objects os))
    ≡ ((b && test o) || list_any (λ o. is_live o && test o) os) =
    elim [ true ↦ ap (λ b. test o || b) (any-live test os) | false ↦ any-live test os ] in
    split (is_live o)

pub count-live : (test : Object → Bool) (objects : List Object)
    → count_by test (live_objects objects) ≡ count_by (λ o. is_live o && test o) objects
count-live test [] = refl
count-live test (o ∷ os) =
    let rest = count-live test os in
    let split : (b : Bool) → count_by test (cond b (o ∷ live_objects os) (live_objects os))
    ≡ cond (b && test o) 1 0 + count_by (λ o. is_live o && test o) os =
    elim [
      | true ↦ sum_by-cons (λ o. cond (test o) 1 0) o (live_objects os) ∙ ap (λ n. cond (test o) 1 0 + n) rest
      | false ↦ rest ∙ sym (zero-add _)
    ] in
    split (is_live o) ∙ sym (sum_by-cons (λ o. cond (is_live o && test o) 1 0) o os)

module _ (a : State) (placed : IsPlaced a.settings.max (live_pieces a)) where
  pub keyed-lives : IsKeyed (λ o. o.base) (live_objects a.objects)
  keyed-lives =
      keyed-live a.settings.max (live_objects a.objects) (each_after _ (map area_piece a.areas) _ placed.inside)
      (all_apart-after (map area_piece a.areas) _ placed.apart)

  -- one object alone begins at a base
  pub one_birth : (i j : ℕ) (o p : Object) → Lives a i o → Lives a j p → o.base ≡ p.base → i ≡ j
  one_birth i j o p h k same = lives_once_at a placed i j o p h k same

  pub birth_at-lives : (birth : ℕ) (object : Object) → Lives a birth object → birth_at a object.base ≡ Some birth
  birth_at-lives birth object h =
      position_from-get (lives_at object.base) a.objects birth object h.is
      (together _ _ h.live (eq-eqb object.base object.base refl))
      (λ i other is passes.
      let lives = lives_where a i other _ is passes in
      one_birth i birth other object lives h (eqb-true _ _ (both _ _ passes).1))

  pub find-lives_at : (birth : ℕ) (object : Object) → Lives a birth object
      → find (lives_at object.base) a.objects ≡ Some object
  find-lives_at birth object h =
      find-only (lives_at object.base) a.objects birth object h.is
      (together _ _ h.live (eq-eqb object.base object.base refl))
      (λ i other is passes.
      let lives = lives_where a i other _ is passes in
      let same = one_birth i birth other object lives h (eqb-true _ _ (both _ _ passes).1) in
      lives_same a birth other object (subst (λ n. Lives a n other) same lives) h)
