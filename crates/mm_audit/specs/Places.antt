-- Which places there are for pieces, as it is kept: marks of pages, and of the free cells in them.
use Rattle.std.specs.Prelude.{◌≡◌, ℕ, ◌+◌, ◌*◌, ◌/◌, ◌<◌, ◌≤◌, IsTrue, not, List, Bool, length, Some, slice_get}
use Rattle.std.specs.Prelude.{◌==◌, slice_index}
use Rattle.std.specs.List.{Contains, list_any}
use Rattle.std.specs.Option.{option_map}
use Rattle.mm_model.specs.declared.object.Size.{Size}
use Rattle.mm_model.specs.declared.object.Size.TheVariants.{Small, Pages}
use Rattle.mm_model.specs.Good.{IsPlaced}
use Rattle.mm_model.specs.Places.Place.{Family, Objects, Areas, Piece, is_vacant, is_page_of, has_room}
use Rattle.mm_model.specs.Places.SizeClass.{class_sizes}
use Rattle.mm_audit.specs.declared.owner.Owner.{Owner}
use Rattle.mm_audit.specs.declared.owner.Owner.TheVariants as owners
use Rattle.mm_audit.specs.Bits.{IsMarked}

-- what is kept of the pieces
pub record PlaceMarks : Type 0 where
  -- how many pages the region may have
  pub pages : ℕ
  -- by page: nothing lies in it
  pub vacant : List Bool
  -- by class and family, and then by page: it has such cells, and a free one among them
  pub roomy : List Bool
  -- by multiple of 16 bytes: a free cell of a page of cells begins there
  pub free : List Bool
  -- by multiple of 16 bytes: a piece begins there
  pub taken : List Bool

abbrev pub place_marks : ℕ → List Bool → List Bool → List Bool → List Bool → PlaceMarks
place_marks pages vacant roomy free taken =
    record { pages = pages; vacant = vacant; roomy = roomy; free = free; taken = taken }

-- the family of the cells that it takes
abbrev pub family_of : Owner → Family
family_of owners.Object = Objects
family_of owners.Area = Areas

-- the mark of page 0 for a family and class, of so many pages
abbrev pub row_of : ℕ → Family → ℕ → ℕ
row_of pages Objects class = pages * (2 * class)
row_of pages Areas class = pages * (2 * class + 1)

-- a class that there is, or some pages
abbrev pub IsKnownSize : Size → Type 0
IsKnownSize (Small class) = class < length class_sizes
IsKnownSize (Pages count) = 1 ≤ count

-- a cell of a page with cells of this extent begins at this multiple of 16 bytes
pub record IsCellAt (extent page grain : ℕ) : Type 0 where
  pub cell : ℕ
  pub below : cell < 4096 / extent
  pub at : 16 * grain ≡ 4096 * page + cell * extent

-- The marks tell of these pieces, in whatever order they are listed.
pub record Tell (pieces : List Piece) (marks : PlaceMarks) : Type 0 where
  pub placed : IsPlaced marks.pages pieces
  pub vacant : (page : ℕ) → 1 ≤ page → page < marks.pages
      → slice_get marks.vacant page ≡ Some (is_vacant pieces (4096 * page) 4096)
  pub roomy : (family : Family) (class page : ℕ) → class < length class_sizes → 1 ≤ page → page < marks.pages
      → slice_get marks.roomy (row_of marks.pages family class + page)
      ≡ Some (has_room pieces family (slice_index class_sizes class) page)
  pub free : (family : Family) (extent page grain : ℕ) → Contains class_sizes extent
      → IsTrue (is_page_of pieces family extent page) → IsCellAt extent page grain
      → slice_get marks.free grain ≡ Some (is_vacant pieces (16 * grain) extent)
  -- in a page of cells nothing else is marked, and in any other nothing at all
  pub only : (family : Family) (extent page grain : ℕ) → Contains class_sizes extent
      → IsTrue (is_page_of pieces family extent page) → IsMarked marks.free grain → grain / 256 ≡ page
      → IsCellAt extent page grain
  pub none : (page : ℕ)
      → ((family : Family) (extent : ℕ) → Contains class_sizes extent
      → IsTrue (is_page_of pieces family extent page) → ⊥)
      → (grain : ℕ) → IsMarked marks.free grain → grain / 256 ≡ page → ⊥
  pub taken : (grain : ℕ) → grain < 256 * marks.pages
      → slice_get marks.taken grain ≡ Some (list_any (λ piece. piece.base == 16 * grain) pieces)

-- so many pages, from one on, in which nothing lies, and which end by the limit
pub record IsVacantRun (vacant : List Bool) (limit count page : ℕ) : Type 0 where
  pub from : 1 ≤ page
  pub to : page + count ≤ limit
  pub each : (k : ℕ) → page ≤ k → k < page + count → IsMarked vacant k

abbrev pub NoVacantRun : List Bool → ℕ → ℕ → Type 0
NoVacantRun vacant limit count = (page : ℕ) → IsVacantRun vacant limit count page → ⊥

pub record IsLowestRun (vacant : List Bool) (limit count page : ℕ) : Type 0 where
  pub is : IsVacantRun vacant limit count page
  pub least : (other : ℕ) → IsVacantRun vacant limit count other → page ≤ other

-- where the vacant pages end that begin with one
pub record IsRunEnd (vacant : List Bool) (page end : ℕ) : Type 0 where
  pub reached : page ≤ end
  pub within : end ≤ length vacant
  pub each : (k : ℕ) → page ≤ k → k < end → IsMarked vacant k
  pub past : IsMarked vacant end → ⊥

-- Inner: the numbers from one on to below another are all members, or all none, and the others are as before.
pub record IsSetFrom (before after : List Bool) (first end : ℕ) (member : Bool) : Type 0 where
  pub size : length after ≡ length before
  pub here : (k : ℕ) → first ≤ k → k < end → slice_get after k ≡ Some member
  pub below : (k : ℕ) → k < first → slice_get after k ≡ slice_get before k
  pub behind : (k : ℕ) → end ≤ k → slice_get after k ≡ slice_get before k

-- Inner: the same of the multiples of 16 at which the cells of a page begin.
pub record AreCellsSet (before after : List Bool) (extent page : ℕ) (member : Bool) : Type 0 where
  pub size : length after ≡ length before
  pub here : (grain : ℕ) → IsCellAt extent page grain → slice_get after grain ≡ Some member
  pub others : (grain : ℕ) → (IsCellAt extent page grain → ⊥) → slice_get after grain ≡ slice_get before grain

-- Inner: as many marks as there may be pages, classes of both families in them, and multiples of 16 bytes.
-- The pages that aren't vacant are marked too.
pub record KeepsPlaces (marks : PlaceMarks) (occupied : List Bool) : Type 0 where
  pub some : 2 ≤ marks.pages
  pub most : marks.pages ≤ 4096
  pub each_page : length marks.vacant ≡ marks.pages
  pub each_other : length occupied ≡ marks.pages
  pub others : (page : ℕ) → slice_get occupied page ≡ option_map not (slice_get marks.vacant page)
  pub each_class : length marks.roomy ≡ 38 * marks.pages
  pub each_grain : length marks.free ≡ 256 * marks.pages
  pub each_base : length marks.taken ≡ 256 * marks.pages
