-- The pieces of areas are the blocks of their allocator, and none of them stands twice.
use Rattle.std.proofs.Common.{◌≡◌, ◌≢◌, ℕ, zero, suc, ◌+◌, inl, inr, List, [], ◌∷◌, map, Option, Some, None, get_or}
use Rattle.std.proofs.Common.{refl, sym, ap, ◌∙◌, subst, arith}
use Rattle.std.specs.List.{Contains}
use Rattle.mm_model.specs.Places.Place.{Areas, Piece}
use Rattle.mm_model.specs.Views.ByBase.{Begins}
use Rattle.mm_model.specs.Views.ViewWords.{piece_of_area}
use Rattle.mm_fixed.specs.Fixed.{Block, block_parked, piece_at}
use Rattle.mm_roots.specs.declared.area_shape.AreaShape.{AreaShape}
use Rattle.mm_roots.specs.Areas as areas
use Rattle.mm_roots.specs.Areas.{IsSoundAreas, OwnsAll}
use Rattle.mm_roots.specs.Views.{views_from, views_of_areas}
use Rattle.mm_gc.specs.Pieces.{AreBlocks}
use Rattle.mm_gc.proofs.Placing.Contained.{cases-contained}
use Rattle.mm_gc.proofs.Placing.Pieces.{areas_family}
use Rattle.mm_gc.proofs.Placing.Placed.{IsElsewhere, StandOnce, contains-first, contains-later, each-from}

abbrev piece_of : AreaShape → Piece
piece_of area = record { base = area.base; extent = area.extent; family = Areas }

-- the piece is that of an entry
pub record IsOfEntry (entries : List (Option AreaShape)) (piece : Piece) : Type 0 where
  pub number : ℕ
  pub area : AreaShape
  pub lives : get_or entries number None ≡ Some area
  pub is : piece ≡ piece_of area

module _ (raw : List (Option ℕ)) where
  pub entry-piece : (first number : ℕ) (entries : List (Option AreaShape)) (area : AreaShape)
      → get_or entries number None ≡ Some area
      → Contains (map piece_of_area (views_from raw first entries)) (piece_of area)
  entry-piece first number [] area e = absurd (cc)
  entry-piece first zero (None ∷ entries) area e = absurd (cc)
  entry-piece first (suc number) (None ∷ entries) area e = entry-piece (first + 1) number entries area e
  entry-piece first zero (Some here ∷ entries) area e =
      let same : here ≡ area = cc in
      let rest : List Piece = map piece_of_area (views_from raw (first + 1) entries) in
      subst (λ (a : AreaShape). Contains (piece_of here ∷ rest) (piece_of a)) same (contains-first (piece_of here) rest)
  entry-piece first (suc number) (Some here ∷ entries) area e =
      contains-later (piece_of here) (map piece_of_area (views_from raw (first + 1) entries)) (piece_of area)
      (entry-piece (first + 1) number entries area e)

  later-entry : (entry : Option AreaShape) (entries : List (Option AreaShape)) (piece : Piece) → IsOfEntry entries piece
      → IsOfEntry (entry ∷ entries) piece
  later-entry entry entries piece of =
      record { number = suc of.number; area = of.area; lives = of.lives; is = of.is }

  pub piece-entry : (first : ℕ) (entries : List (Option AreaShape)) (piece : Piece)
      → Contains (map piece_of_area (views_from raw first entries)) piece → IsOfEntry entries piece
  piece-entry first [] piece within = absurd (omega (arith, within.1))
  piece-entry first (None ∷ entries) piece within =
      later-entry None entries piece (piece-entry (first + 1) entries piece within)
  piece-entry first (Some here ∷ entries) piece within =
      elim (cases-contained (piece_of here) (map piece_of_area (views_from raw (first + 1) entries)) piece within) [
        | inl same ↦ record { number = 0; area = here; lives = refl; is = sym same }
        | inr behind ↦ later-entry (Some here) entries piece (piece-entry (first + 1) entries piece behind)
      ]

  once-entries : (first : ℕ) (entries : List (Option AreaShape))
      → ((number other : ℕ) (area another : AreaShape) → get_or entries number None ≡ Some area
      → get_or entries other None ≡ Some another → number ≢ other → area.base ≢ another.base)
      → StandOnce (map piece_of_area (views_from raw first entries))
  once-entries first [] bases = tt
  once-entries first (None ∷ entries) bases =
      once-entries (first + 1) entries
      (λ number other area another e h apart.
      bases (suc number) (suc other) area another e h (λ same. apart (omega (arith, same))))
  once-entries first (Some here ∷ entries) bases = (
    each-from (IsElsewhere (piece_of here)) (map piece_of_area (views_from raw (first + 1) entries))
        (λ piece within same family.
        let of = piece-entry (first + 1) entries piece within in
        bases 0 (suc of.number) here of.area refl of.lives (λ e. omega (arith, e))
        (same ∙ ap (λ (p : Piece). p.base) of.is)),
    once-entries (first + 1) entries
        (λ number other area another e h apart.
        bases (suc number) (suc other) area another e h (λ same. apart (omega (arith, same)))),
  )

  module _ (a : areas.Areas) (sound : IsSoundAreas a) where
    pub once-areas : StandOnce (map piece_of_area (views_of_areas a raw))
    once-areas = once-entries 0 a.areas sound.bases

    pub are_blocks-areas : OwnsAll a → AreBlocks a.fixed (map piece_of_area (views_of_areas a raw))
    are_blocks-areas owns = record {
      own = λ base block begins.
          let of = owns base block begins in
          let same : piece_of of.area ≡ piece_at base block =
          ap (λ (n : ℕ). record { base = n; extent = of.area.extent; family = Areas }) of.at
          ∙ ap (λ (b : Block). piece_at base b) (sym of.parked) in
          subst (λ (p : Piece). Contains (map piece_of_area (views_of_areas a raw)) p) same
          (entry-piece 0 of.number a.areas of.area of.lives);
      family = areas_family (views_of_areas a raw);
      back = λ piece within.
          let of = piece-entry 0 a.areas piece within in
          record {
            block = block_parked of.area.extent;
            begins = subst (λ (base : ℕ). Begins a.fixed.blocks base (block_parked of.area.extent))
                (sym (ap (λ (p : Piece). p.base) of.is)) (sound.blocks of.number of.area of.lives);
            same = sym (ap (λ (p : Piece). p.extent) of.is);
          };
    }
