-- How many pieces there is room for.
use Rattle.std.proofs.Common.{◌≡◌, ℕ, ◌+◌, ◌-◌, ◌*◌, ◌/◌, ◌<◌, ◌≤◌, true, false, eqb, eqb-true, List, [], ◌∷◌, map}
use Rattle.std.proofs.Common.{length, sym, ◌∙◌, ⊎_elim, arith}
use Rattle.std.proofs.lemmas.List.{length-map}
use Rattle.std.proofs.lemmas.Map.Steps.{length-le_from_distinct_below}
use Rattle.std.specs.List.{list_any, AllByRecursion, IsDistinct}
use Rattle.mm_model.specs.Places.Place.{Piece}
use Rattle.mm_model.specs.Good.{IsCell, IsPages, IsInside, AreApart, AreAllApart, IsPlaced}
use Rattle.mm_model.proofs.Lists.Keyed.{refuted}
use Rattle.mm_model.proofs.Places.Placing.{some_with}
use Rattle.mm_model.proofs.Lists.Keyed.{any-map}
use Rattle.mm_model.proofs.Places.SizeClasses.{class_bounds}

-- pieces have at least 16 bytes, so the number of 16 bytes in which one begins is its own
unit : Piece → ℕ
unit p = p.base / 16 - 256

sixteen : (limit : ℕ) (p : Piece) → IsInside limit p → 16 ≤ p.extent
sixteen limit p h =
    ⊎_elim (λ (cell : IsCell p). (class_bounds p.extent cell.class).least)
    (λ (pages : IsPages p). let whole = pages.pages in let some = pages.some in omega arith) h.placed

unit_below : (limit : ℕ) (p : Piece) → IsInside limit p → unit p < 256 * (limit - 1)
unfolding unit
unit_below limit p h = let large = sixteen limit p h in omega arith

other_unit : (limit : ℕ) (p q : Piece) → IsInside limit p → IsInside limit q → AreApart p q
    → eqb (unit p) (unit q) ≡ false
unfolding unit
other_unit limit p q i j a =
    let x = sixteen limit p i in
    let y = sixteen limit q j in
    refuted (eqb (unit p) (unit q)) (λ e.
    let same : p.base / 16 - 256 ≡ q.base / 16 - 256 = eqb-true _ _ e in
    let low = i.from in
    let high = j.from in
    ⊎_elim (λ (l : p.base + p.extent ≤ q.base). omega arith)
    (λ (l : q.base + q.extent ≤ p.base). omega arith) a.disjoint)

distinct_units : (limit : ℕ) (ps : List Piece) → AllByRecursion (IsInside limit) ps → AreAllApart ps
    → IsDistinct eqb (map unit ps)
unfolding IsDistinct
distinct_units limit [] i a = tt
distinct_units limit (p ∷ ps) i a = (others ps i.1 a.0, distinct_units limit ps i.1 a.1)
  where
    others : (qs : List Piece) → AllByRecursion (IsInside limit) qs → AllByRecursion (AreApart p) qs
        → AllByRecursion (λ n. eqb (unit p) n ≡ false) (map unit qs)
    others [] j b = tt
    others (q ∷ qs) j b = (other_unit limit p q i.0 j.0 b.0, others qs j.1 b.1)

-- at most 256 pieces in each page
pub room_for_pieces : (limit : ℕ) (ps : List Piece) → IsPlaced limit ps → length ps ≤ 256 * (limit - 1)
room_for_pieces limit ps h =
    let each : (n : ℕ) → list_any (eqb n) (map unit ps) ≡ true → n < 256 * (limit - 1) =
    λ n e.
    let hit = some_with (λ p. eqb n (unit p)) (IsInside limit) ps (sym (any-map unit (eqb n) ps) ∙ e) h.inside in
    let is : n ≡ unit hit.0 = eqb-true _ _ hit.1 in
    let below = unit_below limit hit.0 hit.2 in
    omega arith in
    let few = length-le_from_distinct_below (map unit ps) (256 * (limit - 1))
    (distinct_units limit ps h.inside h.apart) each in
    omega (arith, length-map ps unit, few)
