-- How the words of a table tell the areas, and what holds of them between calls.
use Rattle.std.specs.Prelude.{◌≡◌, ◌≢◌, ◌+◌, ◌<◌, ◌≤◌, ℕ, Bool, true, false, if◌then◌else◌, List, length, map}
use Rattle.std.specs.Prelude.{Option, Some, None, slice_index, slice_index_or, slice_range}
use Rattle.std.specs.List.{range_with_len}
use Rattle.mm_sets.specs.Set.{members, IsSet}
use Rattle.mm_model.specs.Areas.{most_areas}
use Rattle.mm_model.specs.Places.SizeClass.{extent_of, area_bytes}
use Rattle.mm_words.specs.Piece.{Piece, with_words}
use Rattle.mm_words.specs.Location.{Location, location_of}
use Rattle.mm_words.specs.Writes.{written}
use Rattle.mm_fixed.specs.Fixed.{Fixed}
use Rattle.mm_roots.specs.declared.area_shape.AreaShape.{AreaShape}
use Rattle.mm_roots.specs.Areas.{Areas, IsSoundAreas, live_areas}

-- where the table lies, and an entry for each number
pub record AreaRows : Type 0 where
  pub location : Location
  pub areas : List (Option AreaShape)

-- The words of the set that begins at a place. The set of free numbers comes first, then the set of scanned ones.
abbrev pub set_part : List ℕ → ℕ → List ℕ
set_part words from = slice_range words from (from + 36)

abbrev pub is_free : List ℕ → ℕ → Bool
is_free words number = members (set_part words 0) number

abbrev pub is_scanned : List ℕ → ℕ → Bool
is_scanned words number = members (set_part words 36) number

-- Then come the bases, then how many cells are counted, and then how many there are.
abbrev pub base_in : List ℕ → ℕ → ℕ
base_in words number = slice_index words (72 + number)

abbrev pub counted_in : List ℕ → ℕ → ℕ
counted_in words number = slice_index words (1096 + number)

abbrev pub cells_in : List ℕ → ℕ → ℕ
cells_in words number = slice_index words (2120 + number)

-- the area of a number that isn't free
abbrev pub shape_told : List ℕ → ℕ → AreaShape
shape_told words number =
    record {
      scanned = is_scanned words number;
      counted = counted_in words number;
      cells = cells_in words number;
      base = base_in words number;
      extent = extent_of (area_bytes (cells_in words number));
    }

abbrev pub area_told : List ℕ → ℕ → Option AreaShape
area_told words number = if is_free words number then None else Some (shape_told words number)

unfoldable pub areas_told : List ℕ → List (Option AreaShape)
areas_told words = map (area_told words) (range_with_len 0 most_areas)

-- what the table shows
abbrev pub rows_of : Piece → AreaRows
rows_of p = record { location = location_of p; areas = areas_told p.words }

-- There is room for all, no free number is scanned, and an area has as many cells as an area can have.
pub record KeepsTable (p : Piece) : Type 0 where
  pub room : 4096 ≤ length p.words
  pub free : IsSet most_areas (set_part p.words 0)
  pub scanned : IsSet most_areas (set_part p.words 36)
  pub lives : (number : ℕ) → number < most_areas → is_scanned p.words number ≡ true
      → is_free p.words number ≡ false
  pub some : (number : ℕ) → number < most_areas → is_free p.words number ≡ false → 1 ≤ cells_in p.words number
  pub most : (number : ℕ) → number < most_areas → is_free p.words number ≡ false
      → cells_in p.words number ≤ 1048575

-- a number is a member of the set that begins at a place from now on, or is none
pub record WritesMember (before after : Piece) (from number : ℕ) (member : Bool) : Type 0 where
  pub words : List ℕ
  pub sized : length words ≡ 36
  pub is : after ≡ with_words before (written from words before.words)
  pub set : IsSet most_areas words
  pub here : members words number ≡ member
  pub others : (other : ℕ) → other ≢ number → members words other ≡ members (set_part before.words from) other

-- the lowest number that no area has
pub record IsLowestFree (areas : List (Option AreaShape)) (number : ℕ) : Type 0 where
  pub below : number < most_areas
  pub free : slice_index_or areas number None ≡ None
  pub lowest : (lower : ℕ) → lower < number → slice_index_or areas lower None ≢ None

-- each number has an area
abbrev pub AreAllTaken : List (Option AreaShape) → Type 0
AreAllTaken areas = (number : ℕ) → number < most_areas → slice_index_or areas number None ≢ None

-- no number that is at least this one has a scanned area
abbrev pub NoneScannedFrom : List (Option AreaShape) → ℕ → Type 0
NoneScannedFrom areas from =
    (number : ℕ) (area : AreaShape) → from ≤ number → slice_index_or areas number None ≡ Some area
    → area.scanned ≡ false

-- the least number of a scanned area that is at least this one
pub record IsNextScanned (areas : List (Option AreaShape)) (from number : ℕ) : Type 0 where
  pub reached : from ≤ number
  pub below : number < most_areas
  pub area : AreaShape
  pub lives : slice_index_or areas number None ≡ Some area
  pub scanned : area.scanned ≡ true
  pub least : (lower : ℕ) (other : AreaShape) → from ≤ lower → lower < number
      → slice_index_or areas lower None ≡ Some other → other.scanned ≡ false

-- what callers see
abbrev pub areas_of : AreaRows → Fixed → Areas
areas_of rows fixed = record { table = rows.location; fixed = fixed; areas = rows.areas }

-- the areas are sound, and so many live
pub record KeepsAreas (rows : AreaRows) (fixed : Fixed) (count : ℕ) : Type 0 where
  pub sound : IsSoundAreas (areas_of rows fixed)
  pub live : count ≡ live_areas (areas_of rows fixed)
