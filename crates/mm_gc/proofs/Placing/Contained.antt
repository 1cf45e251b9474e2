-- Pieces that are contained in a list: what tests find, and which are apart.
use Rattle.std.proofs.Common.{◌≡◌, ℕ, zero, suc, ◌+◌, ◌<◌, ◌⊎◌, inl, inr, Bool, true, List, [], ◌∷◌}
use Rattle.std.proofs.Common.{arith, subst}
use Rattle.std.proofs.lemmas.Bool.{not-true, not_from_false, false_from_ne_true, both_ways, ltb-true, lt-ltb}
use Rattle.std.proofs.lemmas.Bool.{and_parts, and_from}
use Rattle.std.proofs.lemmas.List.Folds.{Any-from_list_any, list_any-from_Any}
use Rattle.std.proofs.lemmas.List.Elements.{All-contains, All-from_recursion}
use Rattle.std.specs.Prelude.{nat_lt}
use Rattle.std.specs.List.{list_any, AllByRecursion, Contains}
use Rattle.mm_model.specs.Places.Place.{Piece, overlaps, is_vacant}
use Rattle.mm_model.specs.Good.{IsInside, AreApart, AreAllApart, IsPlaced}
use Rattle.mm_model.proofs.Good.Making.AreaBirths.{apart-sym}
use Rattle.mm_model.proofs.Good.Living.{some_extent}

-- an element that passes
pub record IsSome {X : Type 0} (test : X → Bool) (xs : List X) : Type 0 where
  pub element : X
  pub within : Contains xs element
  pub passes : test element ≡ true

pub some_passes : {X : Type 0} (test : X → Bool) (xs : List X) → list_any test xs ≡ true → IsSome test xs
some_passes test xs e =
    let found = Any-from_list_any test xs e in
    record { element = found.1; within = (found.0, found.2, found.3); passes = found.4 }

pub any-contained : {X : Type 0} (test : X → Bool) (xs : List X) (x : X) → Contains xs x → test x ≡ true
    → list_any test xs ≡ true
any-contained test xs x within passes = list_any-from_Any test xs (within.0, x, within.1, within.2, passes)

pub each-contained : {X : Type 0} (P : X → Type 0) (xs : List X) (x : X) → AllByRecursion P xs → Contains xs x → P x
each-contained P xs x each within = All-contains P xs x (All-from_recursion P xs each) within

-- the first element, or one of the others
pub cases-contained : {X : Type 0} (y : X) (xs : List X) (x : X) → Contains (y ∷ xs) x → (y ≡ x) ⊎ Contains xs x
cases-contained y xs x (zero, within, is) = inl is
cases-contained y xs x (suc k, within, is) = inr (k, omega arith, is)

-- of two pieces in a list, each is apart from the other, or they are one
pub apart-contained : (pieces : List Piece) (p q : Piece) → AreAllApart pieces → Contains pieces p → Contains pieces q
    → (p ≡ q) ⊎ AreApart p q
apart-contained [] p q apart here there = absurd (omega (arith, here.1))
apart-contained (x ∷ pieces) p q apart here there = elim (cases-contained x pieces p here) [
  | inl a ↦ elim (cases-contained x pieces q there) [
    | inl b ↦ inl cc
    | inr b ↦ inr (moved x p q a (each-contained (AreApart x) pieces q apart.0 b))
  ]
  | inr a ↦ elim (cases-contained x pieces q there) [
    | inl b ↦ inr (apart-sym q p (moved x q p b (each-contained (AreApart x) pieces p apart.0 a)))
    | inr b ↦ apart-contained pieces p q apart.1 a b
  ]
]
  where
    moved : (x y z : Piece) → x ≡ y → AreApart x z → AreApart y z
    moved x y z e h = subst (λ (p : Piece). AreApart p z) e h

-- a piece of a region has some bytes, and lies in the pages from 1 on
pub piece-inside : (limit : ℕ) (pieces : List Piece) (p : Piece) → IsPlaced limit pieces → Contains pieces p
    → IsInside limit p
piece-inside limit pieces p placed within = each-contained (IsInside limit) pieces p placed.inside within

pub piece-some : (limit : ℕ) (pieces : List Piece) (p : Piece) → IsPlaced limit pieces → Contains pieces p
    → 0 < p.extent
piece-some limit pieces p placed within = some_extent limit p (piece-inside limit pieces p placed within)

-- some piece has a byte among these
pub record IsOccupied (pieces : List Piece) (low bytes : ℕ) : Type 0 where
  pub piece : Piece
  pub within : Contains pieces piece
  pub before_end : piece.base < low + bytes
  pub past_start : low < piece.base + piece.extent

pub occupied-any : (pieces : List Piece) (low bytes : ℕ) → list_any (overlaps low bytes) pieces ≡ true
    → IsOccupied pieces low bytes
occupied-any pieces low bytes e =
    let some = some_passes (overlaps low bytes) pieces e in
    let p : Piece = some.element in
    let both = and_parts (nat_lt p.base (low + bytes)) (nat_lt low (p.base + p.extent)) some.passes in
    record {
      piece = p;
      within = some.within;
      before_end = ltb-true p.base (low + bytes) both.0;
      past_start = ltb-true low (p.base + p.extent) both.1;
    }

pub any-occupied : (pieces : List Piece) (low bytes : ℕ) → IsOccupied pieces low bytes
    → list_any (overlaps low bytes) pieces ≡ true
any-occupied pieces low bytes o =
    let p : Piece = o.piece in
    any-contained (overlaps low bytes) pieces p o.within
    (and_from (nat_lt p.base (low + bytes)) (nat_lt low (p.base + p.extent)) (lt-ltb p.base (low + bytes) o.before_end)
    (lt-ltb low (p.base + p.extent) o.past_start))

-- none lies in a vacant range, and a range in which none lies is vacant
pub vacant-none : (pieces : List Piece) (low bytes : ℕ) → is_vacant pieces low bytes ≡ true
    → IsOccupied pieces low bytes → ⊥
vacant-none pieces low bytes e o =
    both_ways (list_any (overlaps low bytes) pieces) (not-true (list_any (overlaps low bytes) pieces) e)
    (any-occupied pieces low bytes o)

pub vacant-from : (pieces : List Piece) (low bytes : ℕ) → (IsOccupied pieces low bytes → ⊥)
    → is_vacant pieces low bytes ≡ true
vacant-from pieces low bytes none =
    not_from_false (list_any (overlaps low bytes) pieces)
    (false_from_ne_true (list_any (overlaps low bytes) pieces) (λ e. none (occupied-any pieces low bytes e)))
