-- What callers see of the cells of a region: which are taken, and what is told of each.
use Rattle.std.specs.Prelude.{◌≡◌, ◌≢◌, ◌+◌, ◌-◌, ◌*◌, ◌/◌, ◌<◌, ◌≤◌, ℕ, List, length, replicate}
use Rattle.std.specs.Prelude.{Option, Some, None, slice_get, slice_index, slice_set}
use Rattle.mm_model.specs.declared.object.Colour.{Colour}
use Rattle.mm_model.specs.Places.Place.{Piece, Objects}
use Rattle.mm_model.specs.Good.{IsInside, AreApart}
use Rattle.mm_words.specs.Location.{Location}
use Rattle.mm_cells.specs.declared.marks.CellBits.{CellBits}
use Rattle.mm_cells.specs.Marks.{no_flags, IsFlags}

-- a taken cell: its bytes, the colour of the object in it, and what else is told of the object
pub record Taken : Type 0 where
  pub extent : ℕ
  pub colour : Colour
  pub flags : CellBits

-- where the table lies, how many pages it is for, for each multiple of 16 bytes the taken cell that begins there, and
-- for each page the length of the run of pages of cells that begins there, 0 where none does
pub record Cells : Type 0 where
  pub table : Location
  pub pages : ℕ
  pub taken : List (Option Taken)
  pub runs : List ℕ

-- no cell is taken
abbrev pub fresh : Location → ℕ → Cells
fresh table pages =
    record { table = table; pages = pages; taken = replicate (256 * pages) None; runs = replicate pages 0 }

-- the same, but that this cell begins at a base, or none does
abbrev pub with_cell : Cells → ℕ → Option Taken → Cells
with_cell v base cell = record v { taken = slice_set v.taken (base / 16) cell }

-- the same, but that a run of so many pages begins at a page, or none where it is 0
abbrev pub with_run : Cells → ℕ → ℕ → Cells
with_run v page count = record v { runs = slice_set v.runs page count }

-- a taken cell begins at a base, which is a multiple of 16
pub record Begins (v : Cells) (base : ℕ) (cell : Taken) : Type 0 where
  pub grain : ℕ
  pub aligned : base ≡ 16 * grain
  pub is : slice_get v.taken grain ≡ Some (Some cell)

-- some taken cell does
abbrev pub IsTaken : Cells → ℕ → Type 0
IsTaken v base = (cell : Taken) × Begins v base cell

-- a cell of which nothing but its size and colour is told yet
abbrev pub newly_taken : ℕ → Colour → Taken
newly_taken extent colour =
    record { extent = extent; colour = colour; flags = no_flags }

-- a word falls in the cell, which begins at the base
pub record Covers (v : Cells) (word base : ℕ) (cell : Taken) : Type 0 where
  pub begins : Begins v base cell
  pub from : base ≤ word
  pub to : word < base + cell.extent

-- the cell as a piece of the region
abbrev pub piece_at : ℕ → Taken → Piece
piece_at base cell = record { base = base; extent = cell.extent; family = Objects }

-- the run is one of cells: a taken cell begins in its first page, and no page of it lies past that cell
pub record IsRunOfCells (v : Cells) (page : ℕ) : Type 0 where
  pub base : ℕ
  pub cell : Taken
  pub begins : Begins v base cell
  pub inside : base / 4096 ≡ page
  pub needed : 4096 * (page + slice_index v.runs page) < base + cell.extent + 4096

-- Each cell lies on the grid of its size in the pages from 1 on. No two overlap, and those that share a page have one
-- size. Each lies in a run that begins at its page, and there are no other runs.
pub record IsSoundCells (v : Cells) : Type 0 where
  pub two : 2 ≤ v.pages
  pub most : v.pages ≤ 4096
  pub size : length v.taken ≡ 256 * v.pages
  pub runs_size : length v.runs ≡ v.pages
  pub inside : (base : ℕ) (cell : Taken) → Begins v base cell → IsInside v.pages (piece_at base cell)
  pub apart : (base other_base : ℕ) (cell other : Taken) → Begins v base cell → Begins v other_base other
      → base ≢ other_base → AreApart (piece_at base cell) (piece_at other_base other)
  pub flags : (base : ℕ) (cell : Taken) → Begins v base cell → IsFlags cell.flags
  pub in_run : (base : ℕ) (cell : Taken) → Begins v base cell
      → base + cell.extent ≤ 4096 * (base / 4096 + slice_index v.runs (base / 4096))
  pub has_run : (base : ℕ) (cell : Taken) → Begins v base cell → 0 < slice_index v.runs (base / 4096)
  pub runs : (page : ℕ) → 0 < slice_index v.runs page → IsRunOfCells v page

-- no cell is taken
abbrev pub HasNoCell : Cells → Type 0
HasNoCell v = (base : ℕ) (cell : Taken) → Begins v base cell → ⊥

-- the least base of a taken cell that is at least `from`
pub record IsNextTaken (v : Cells) (from base : ℕ) : Type 0 where
  pub cell : Taken
  pub begins : Begins v base cell
  pub reached : from ≤ base
  pub least : (lower : ℕ) (other : Taken) → Begins v lower other → from ≤ lower → base ≤ lower

-- there is none
abbrev pub NoneTakenFrom : Cells → ℕ → Type 0
NoneTakenFrom v from = (base : ℕ) (cell : Taken) → Begins v base cell → base < from

-- at most one step, and one for each page from that of `from` to that of the answer, or else to the last
abbrev pub IsWalk : Cells → ℕ → Option ℕ → ℕ → ℕ → Type 0
IsWalk v from None before after = after ≤ before + 1 + (v.pages - from / 4096)
IsWalk v from (Some base) before after = after ≤ before + 1 + (base / 4096 + 1 - from / 4096)
