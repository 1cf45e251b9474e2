-- Pieces of one extent, for worked examples of places.
use Rattle.std.specs.Prelude.{ℕ, List, map}
use Rattle.mm_model.specs.Places.Place.{Piece, Objects, Areas}

-- objects at these bases, all of one extent
abbrev pub objects : List ℕ → ℕ → List Piece
objects bases extent = map (λ base. record { base = base; extent = extent; family = Objects }) bases

abbrev pub areas : List ℕ → ℕ → List Piece
areas bases extent = map (λ base. record { base = base; extent = extent; family = Areas }) bases
