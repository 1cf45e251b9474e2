-- What callers see of areas: which numbers live, and where the cells lie.
use Rattle.std.specs.Prelude.{◌≡◌, ◌≢◌, ◌+◌, ◌/◌, ◌<◌, ◌≤◌, ◌⊎◌, ℕ, Bool, false, List, length, replicate}
use Rattle.std.specs.Prelude.{Option, Some, None, Result, Ok, Err, is_some, slice_index, slice_index_or, slice_get}
use Rattle.std.specs.Prelude.{slice_set}
use Rattle.std.specs.List.{count_by}
use Rattle.mm_model.specs.declared.reply.AreaAnswer.{AreaAnswer}
use Rattle.mm_model.specs.Areas.{most_areas}
use Rattle.mm_model.specs.Views.ByBase.{Begins}
use Rattle.mm_model.specs.Places.SizeClass.{size_of, extent_of, area_bytes}
use Rattle.mm_words.specs.Location.{Location}
use Rattle.mm_pages.specs.Pages.{Pages}
use Rattle.mm_object.specs.Heap.{Heap}
use Rattle.mm_fixed.specs.Fixed.{Fixed, Block, block_parked, IsSoundFixed}
use Rattle.mm_fixed.specs.Placing.{IsPlaceForBlock}
use Rattle.mm_roots.specs.declared.area_shape.AreaShape.{AreaShape}
use Rattle.mm_roots.specs.declared.area_shape.AreaRefusal.{AreaRefusal}
use Rattle.mm_roots.specs.declared.area_shape.AreaRefusal.TheVariants.{AreasFull, NoRun, NoArea, NoSlot}
use Rattle.mm_roots.specs.declared.area_shape.ScannedArea.{ScannedArea}

-- where the table lies, the allocator of their blocks, and an entry for each number below 1,024
pub record Areas : Type 0 where
  pub table : Location
  pub fixed : Fixed
  pub areas : List (Option AreaShape)

-- no area lives
abbrev pub fresh : Location → Fixed → Areas
fresh table fixed = record { table = table; fixed = fixed; areas = replicate most_areas None }

-- the area that has a number
abbrev pub area_at : Areas → ℕ → Option AreaShape
area_at a number = slice_index_or a.areas number None

-- the same, but that this area has a number, or none does
abbrev pub with_area : Areas → ℕ → Option AreaShape → Areas
with_area a number area = record a { areas = slice_set a.areas number area }

-- the same areas over another state of their blocks
abbrev pub over : Fixed → Areas → Areas
over fixed a = record a { fixed = fixed }

-- how many areas live
abbrev pub live_areas : Areas → ℕ
live_areas a = count_by is_some a.areas

-- a shape that an area can have
pub record IsAreaShape (area : AreaShape) : Type 0 where
  pub counted : area.counted ≤ area.cells
  pub some : 1 ≤ area.cells
  pub most : area.cells ≤ 1048575
  pub raw : area.scanned ≡ false → area.counted ≡ 0
  pub extent : area.extent ≡ extent_of (area_bytes area.cells)

-- Each area has a shape that is allowed, and a parked block at its base. No two have one base.
pub record IsSoundAreas (a : Areas) : Type 0 where
  pub entries : length a.areas ≡ most_areas
  pub fixed : IsSoundFixed a.fixed
  pub shapes : (number : ℕ) (area : AreaShape) → area_at a number ≡ Some area → IsAreaShape area
  pub blocks : (number : ℕ) (area : AreaShape) → area_at a number ≡ Some area
      → Begins a.fixed.blocks area.base (block_parked area.extent)
  pub bases : (number other : ℕ) (area another : AreaShape) → area_at a number ≡ Some area
      → area_at a other ≡ Some another → number ≢ other → area.base ≢ another.base

-- no run of pages of the one shares a page with a run of the other
abbrev pub ShareNoPage : List ℕ → List ℕ → Type 0
ShareNoPage runs others =
    (page other : ℕ) → 0 < slice_index runs page → 0 < slice_index others other
    → (page + slice_index runs page ≤ other) ⊎ (other + slice_index others other ≤ page)

-- The areas share no page with the objects of a heap, and lie in its memory.
pub record IsBeside (a : Areas) (heap : Heap) : Type 0 where
  pub apart : ShareNoPage a.fixed.runs heap.runs
  pub within : (page : ℕ) → 0 < slice_index a.fixed.runs page → page + slice_index a.fixed.runs page ≤ heap.size

-- the block is one of an area, which is parked at its base
pub record IsOfArea (a : Areas) (base : ℕ) (block : Block) : Type 0 where
  pub number : ℕ
  pub area : AreaShape
  pub lives : area_at a number ≡ Some area
  pub at : area.base ≡ base
  pub parked : block ≡ block_parked area.extent

-- each block of the allocator is one of an area
abbrev pub OwnsAll : Areas → Type 0
OwnsAll a = (base : ℕ) (block : Block) → Begins a.fixed.blocks base block → IsOfArea a base block

-- no area lives
abbrev pub HasNoArea : Areas → Type 0
HasNoArea a = (number : ℕ) → area_at a number ≡ None

-- the lowest number that no area has
pub record IsLowestNumber (a : Areas) (number : ℕ) : Type 0 where
  pub below : number < most_areas
  pub free : area_at a number ≡ None
  pub lowest : (lower : ℕ) → lower < number → area_at a lower ≢ None

-- the new area's number and base
abbrev pub placed_at : Bool → ℕ → ℕ → ℕ → AreaShape
placed_at scanned counted cells base =
    record { scanned = scanned; counted = counted; cells = cells; base = base; extent = extent_of (area_bytes cells) }

-- Why adding an area of so many cells is answered so. That all numbers have areas is found before there is no place.
abbrev pub AddCause : Areas → Pages → ℕ → Result AreaAnswer AreaRefusal → Type 0
AddCause a heap cells (Ok answer) =
    IsLowestNumber a answer.number × IsPlaceForBlock a.fixed heap (size_of (area_bytes cells)) (Some answer.base)
AddCause a heap cells (Err AreasFull) = live_areas a ≡ most_areas
AddCause a heap cells (Err NoRun) =
    (live_areas a < most_areas) × IsPlaceForBlock a.fixed heap (size_of (area_bytes cells)) None
AddCause a heap cells (Err NoArea) = ⊥
AddCause a heap cells (Err NoSlot) = ⊥

-- why removing an area is answered so
abbrev pub RemoveCause : Areas → ℕ → Result Unit AreaRefusal → Type 0
RemoveCause a number (Ok done) = area_at a number ≢ None
RemoveCause a number (Err NoArea) = area_at a number ≡ None
RemoveCause a number (Err AreasFull) = ⊥
RemoveCause a number (Err NoRun) = ⊥
RemoveCause a number (Err NoSlot) = ⊥

-- a cell of an area
pub record HasCell (a : Areas) (number s : ℕ) : Type 0 where
  pub area : AreaShape
  pub lives : area_at a number ≡ Some area
  pub within : s < area.cells

-- the area is there, but has no cell s
pub record HasNoCell (a : Areas) (number s : ℕ) : Type 0 where
  pub area : AreaShape
  pub lives : area_at a number ≡ Some area
  pub past : area.cells ≤ s

-- Why reading or writing a cell is answered so. That no area has the number is found before there is no cell.
abbrev pub CellCause : {X : Type 0} → Areas → ℕ → ℕ → Result X AreaRefusal → Type 0
CellCause a number s (Ok x) = HasCell a number s
CellCause a number s (Err NoArea) = area_at a number ≡ None
CellCause a number s (Err NoSlot) = HasNoCell a number s
CellCause a number s (Err AreasFull) = ⊥
CellCause a number s (Err NoRun) = ⊥

-- the words at the cells are 0, and all else of the heap is as it was
pub record ClearsCells (before after : Heap) (base cells : ℕ) : Type 0 where
  pub same : after ≡ record before { raw = after.raw }
  pub size : length after.raw ≡ length before.raw
  pub cleared : (s : ℕ) → s < cells → slice_get after.raw (base / 4 + s) ≡ Some (Some 0)
  pub below : (place : ℕ) → place < base / 4 → slice_get after.raw place ≡ slice_get before.raw place
  pub above : (place : ℕ) → base / 4 + cells ≤ place → slice_get after.raw place ≡ slice_get before.raw place

-- one of the areas whose words are roots, all of which are sound
pub record IsScanned (a : Areas) (area : ScannedArea) : Type 0 where
  pub sound : IsSoundAreas a
  pub shape : AreaShape
  pub lives : area_at a area.number ≡ Some shape
  pub scanned : shape.scanned ≢ false
  pub base : shape.base ≡ area.base
  pub cells : shape.cells ≡ area.cells
