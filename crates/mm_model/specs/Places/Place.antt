-- Where the next piece goes: a function of what lives.
use Rattle.std.specs.Prelude.{ℕ, zero, suc, ◌+◌, ◌-◌, ◌*◌, ◌/◌, max, Bool, true, false, not, ◌&&◌, ◌==◌, nat_lt, List}
use Rattle.std.specs.Prelude.{◌++◌, map, Option, Some, None, is_some}
use Rattle.std.specs.List.{list_any, fold}
use Rattle.std.specs.Option.{option_map}
use Rattle.mm_model.specs.declared.object.Size.{Size}
use Rattle.mm_model.specs.declared.object.Size.TheVariants.{Small, Pages}
use Rattle.mm_model.specs.Places.SizeClass.{size_of, extent_of_size}
use Rattle.mm_model.specs.Object.{Object, live_objects}
use Rattle.mm_model.specs.State.{State, Area}

-- a page of a size class holds cells of one family
pub data Family : Type 0 where
  Objects : Family
  Areas : Family

abbrev pub same_family : Family → Family → Bool
same_family Objects Objects = true
same_family Objects Areas = false
same_family Areas Objects = false
same_family Areas Areas = true

-- the room that a live object or a live area takes
pub record Piece : Type 0 where
  pub base : ℕ
  pub extent : ℕ
  pub family : Family

abbrev pub object_piece : Object → Piece
object_piece object = record { base = object.base; extent = object.extent; family = Objects }

abbrev pub area_piece : Area → Piece
area_piece area = record { base = area.base; extent = area.extent; family = Areas }

abbrev pub live_pieces : State → List Piece
live_pieces a = map area_piece a.areas ++ map object_piece (live_objects a.objects)

-- whether a byte of the piece is among these bytes from low on
abbrev pub overlaps : ℕ → ℕ → Piece → Bool
overlaps low bytes piece = nat_lt piece.base (low + bytes) && nat_lt low (piece.base + piece.extent)

-- no piece lies in these bytes
abbrev pub is_vacant : List Piece → ℕ → ℕ → Bool
is_vacant pieces low bytes = not (list_any (overlaps low bytes) pieces)

-- whether the page holds cells of this family that are so large
abbrev pub is_page_of : List Piece → Family → ℕ → ℕ → Bool
is_page_of pieces family extent page =
    list_any
    (λ piece. same_family piece.family family && piece.extent == extent && overlaps (4096 * page) 4096 piece) pieces

-- the first of count numbers from a number on that passes a test
abbrev pub first_from : (ℕ → Bool) → ℕ → ℕ → Option ℕ
first_from test from zero = None
first_from test from (suc count) = elim (test from) [ true ↦ Some from | false ↦ first_from test (from + 1) count ]

-- the address of the lowest free cell of a page whose cells are so large
abbrev pub free_cell : List Piece → ℕ → ℕ → Option ℕ
free_cell pieces extent page =
    option_map (λ m. 4096 * page + m * extent)
    (first_from (λ m. is_vacant pieces (4096 * page + m * extent) extent) 0 (4096 / extent))

-- a page of the family and class that has a free cell
abbrev pub has_room : List Piece → Family → ℕ → ℕ → Bool
has_room pieces family extent page = is_page_of pieces family extent page && is_some (free_cell pieces extent page)

-- the first cell of the lowest page below the limit in which nothing lies
abbrev pub fresh_page : List Piece → ℕ → Option ℕ
fresh_page pieces limit =
    option_map (λ page. 4096 * page) (first_from (λ page. is_vacant pieces (4096 * page) 4096) 1 (limit - 1))

-- the lowest free cell of the lowest page that has one, or else a fresh page
abbrev pub cell_place : List Piece → ℕ → Option ℕ → ℕ → Option ℕ
cell_place pieces limit None extent = fresh_page pieces limit
cell_place pieces limit (Some page) extent = free_cell pieces extent page

-- Where a piece of this size goes, if every page from 1 to below the limit in which nothing lies may be taken.
abbrev pub place_among : List Piece → ℕ → Family → Size → Option ℕ
place_among pieces limit family (Small class) =
    let extent = extent_of_size (Small class) in
    cell_place pieces limit (first_from (has_room pieces family extent) 1 (limit - 1)) extent
place_among pieces limit family (Pages count) =
    option_map (λ page. 4096 * page)
    (first_from (λ page. is_vacant pieces (4096 * page) (4096 * count)) 1 (limit - count))

abbrev pub place_of : State → ℕ → Family → ℕ → Option ℕ
place_of a limit family bytes = place_among (live_pieces a) limit family (size_of bytes)

-- one more than the highest page in which a piece lies, and at least the given number
abbrev pub page_end : ℕ → Piece → ℕ
page_end least piece = max least ((piece.base + piece.extent + 4095) / 4096)

-- how many pages the region has: at least as many as the settings say, and all in which something lives
abbrev pub region_pages : State → ℕ
region_pages a = fold page_end a.settings.pages (live_pieces a)
