-- How many pages are enough for a search that may take all that there may be.
use Rattle.std.proofs.Common.{◌≡◌, ℕ, ◌+◌, ◌*◌, ◌≤◌, ◌⊎◌, inl, inr, min, List, sym, ap, ◌∙◌, arith}
use Rattle.std.proofs.Math.Nat.{min_comm, min-eq_left}
use Rattle.std.proofs.lemmas.Bool.{cases_lt}
use Rattle.std.specs.Int.{div_ceil}
use Rattle.mm_model.specs.Places.SizeClass.{size_of}
use Rattle.mm_model.specs.Places.Place.{Family, Piece, place_among}
use Rattle.mm_cells.proofs.Sizes.Grains.{div_ceil-reaches}
use Rattle.mm_gc.specs.Gc.{Region, pieces_in, pages_needed}
use Rattle.mm_gc.specs.Kept.{IsSettled}
use Rattle.mm_gc.specs.Regions.{IsSameInside}
use Rattle.mm_gc.proofs.Placing.Behind.{place_among-few}
use Rattle.mm_gc.proofs.Placing.Ends.{end-piece}
use Rattle.mm_gc.proofs.Regions.Needed.{needed-least, needed-most, pieces-same}

-- all pages that there may be, or as many as so many bytes take behind those that are needed
pub record IsEnough (r : Region) (bytes size : ℕ) : Type 0 where
  pub needed : pages_needed r ≤ size
  pub most : size ≤ r.most
  pub room : (size ≡ r.most) ⊎ (4096 * pages_needed r + bytes ≤ 4096 * size)

module _ (r : Region) (settled : IsSettled r) (bytes : ℕ) where
  pub enough-is : (size : ℕ) → size ≡ min (pages_needed r + div_ceil bytes 4096) r.most → IsEnough r bytes size
  enough-is size is =
      let sum : ℕ = pages_needed r + div_ceil bytes 4096 in
      let reaches : bytes ≤ div_ceil bytes 4096 * 4096 =
      div_ceil-reaches bytes 4096 (div_ceil bytes 4096) (omega arith) (omega arith) in
      elim (cases_lt sum r.most) [
        | inl part ↦
            let same : size ≡ sum = is ∙ min-eq_left (omega (arith, part)) in
            record {
              needed = omega (arith, same);
              most = omega (arith, same, part);
              room = inr (omega (arith, same, reaches));
            }
        | inr all ↦
            let same : size ≡ r.most = is ∙ min_comm sum r.most ∙ min-eq_left all in
            record {
              needed = omega (arith, same, needed-most r settled.keeps);
              most = omega (arith, same);
              room = inl same;
            }
      ]

  pub place-enough : (size : ℕ) (family : Family) → 1 ≤ bytes → IsEnough r bytes size
      → place_among (pieces_in r) size family (size_of bytes) ≡ place_among (pieces_in r) r.most family (size_of bytes)
  place-enough size family wanted enough = elim enough.room [
    | inl all ↦ ap (λ (n : ℕ). place_among (pieces_in r) n family (size_of bytes)) all
    | inr room ↦
        sym (place_among-few (pieces_in r) (pages_needed r)
        (omega (arith, needed-least r settled.keeps, settled.keeps.tables.two))
        (λ p within. omega (arith, end-piece r.least (pieces_in r) p within)) size r.most enough.most family bytes
        wanted room)
  ]

-- among the same pieces, and below the same page, the place is the same
pub place-same : (before after : Region) (limit size : ℕ) (family : Family) (bytes : ℕ) → IsSameInside before after
    → limit ≡ size → place_among (pieces_in after) limit family (size_of bytes)
    ≡ place_among (pieces_in before) size family (size_of bytes)
place-same before after limit size family bytes inside same =
    ap (λ (pieces : List Piece). place_among pieces limit family (size_of bytes)) (pieces-same before after inside)
    ∙ ap (λ (n : ℕ). place_among (pieces_in before) n family (size_of bytes)) same
