-- The places that there are for a piece, and the lowest of them.
use Rattle.std.specs.Prelude.{◌≡◌, ℕ, ◌+◌, ◌*◌, ◌%◌, ◌<◌, ◌≤◌, IsTrue, List, Option, Some, None}
use Rattle.std.specs.List.{AllByRecursion}
use Rattle.mm_model.specs.Places.SizeClass.{extent_of}
use Rattle.mm_model.specs.Places.Place.{Family, Piece, is_vacant, is_page_of}
use Rattle.mm_model.specs.Good.{IsInside, AreApart}

-- a piece of so many bytes at a base
abbrev pub piece_of : Family → ℕ → ℕ → Piece
piece_of family bytes base = record { base = base; extent = extent_of bytes; family = family }

-- The piece lies in the pages from 1 to below the limit, on its grid. No live piece shares a byte with it, and those
-- that share a page with it are cells of its class and family.
pub record IsFreeFor (limit : ℕ) (pieces : List Piece) (piece : Piece) : Type 0 where
  pub inside : IsInside limit piece
  pub vacant : IsTrue (is_vacant pieces piece.base piece.extent)
  pub apart : AllByRecursion (λ other. AreApart other piece) pieces

-- whole pages from 1 to below the limit in which nothing lies
pub record IsRun (pieces : List Piece) (limit extent base : ℕ) : Type 0 where
  pub page : base % 4096 ≡ 0
  pub from : 4096 ≤ base
  pub to : base + extent ≤ 4096 * limit
  pub vacant : IsTrue (is_vacant pieces base extent)

-- a free cell of a page of the family and class, among the pages from 1 to below the limit
pub record IsFreeCell (pieces : List Piece) (limit : ℕ) (family : Family) (extent base : ℕ) : Type 0 where
  pub page : ℕ
  pub cell : ℕ
  pub at : 4096 * page + cell * extent ≡ base
  pub from : 1 ≤ page
  pub below : page < limit
  pub whole : cell * extent + extent ≤ 4096
  pub of_page : IsTrue (is_page_of pieces family extent page)
  pub vacant : IsTrue (is_vacant pieces base extent)

-- there is no place
abbrev pub IsNowhere : (ℕ → Type 0) → Type 0
IsNowhere Place = (base : ℕ) → Place base → ⊥

-- a place, and no other is lower
pub record IsLowest (Place : ℕ → Type 0) (base : ℕ) : Type 0 where
  pub is : Place base
  pub least : (other : ℕ) → Place other → base ≤ other

-- the lowest place, or none where there is no place
abbrev pub IsLowestOf : (ℕ → Type 0) → Option ℕ → Type 0
IsLowestOf Place None = IsNowhere Place
IsLowestOf Place (Some base) = IsLowest Place base

-- the lowest of the first places, or what the second ones give where there is no first one
pub data IsPreferred (First Second : ℕ → Type 0) (found : Option ℕ) : Type 0 where
  Of_first : (base : ℕ) → found ≡ Some base → IsLowest First base → IsPreferred First Second found
  Of_second : IsNowhere First → IsLowestOf Second found → IsPreferred First Second found
