-- Where the mark of a cell stands in a table, and which cells begin in a page.
use Rattle.std.specs.Prelude.{◌≡◌, ◌≢◌, ◌+◌, ◌*◌, ◌/◌, ◌<◌, ◌≤◌, ℕ, ⊤}
use Rattle.mm_cells.specs.declared.page_use.PageUse.TheVariants.{Class, First}
use Rattle.mm_cells.specs.declared.cells.Located.{Located}
use Rattle.mm_cells.specs.declared.marks.Mark.TheVariants as marks
use Rattle.mm_cells.specs.declared.marks.Sought.{Sought}
use Rattle.mm_cells.specs.declared.marks.Sought.TheVariants as sought
use Rattle.mm_cells.specs.Marks.{IsSought}
use Rattle.mm_cells.specs.Map.{Map, use_at, mark_at}
use Rattle.mm_cells.specs.Cells.{Taken, Cells, Begins, Covers}
use Rattle.mm_cells.specs.Kept.{class_size, cells_in, cells_of}

-- the cell of this mark begins at the base, and has so many bytes
pub data MarksCell (m : Map) (page number base extent : ℕ) : Type 0 where
  -- one of the cells of a page of a class
  in_class : (class : ℕ) → page < m.pages → class < 19 → use_at m page ≡ Class class → number < cells_in class
      → base ≡ 4096 * page + number * class_size class → extent ≡ class_size class → MarksCell m page number base extent
  -- the one of some whole pages
  in_whole : (count : ℕ) → page < m.pages → use_at m page ≡ First count → number ≡ 0 → base ≡ 4096 * page
      → extent ≡ 4096 * count → MarksCell m page number base extent

-- the mark is that of the taken cell that begins at the base
pub record IsMarkIndex (m : Map) (page number base : ℕ) : Type 0 where
  pub page_within : page < m.pages
  pub number_within : number < 256
  pub cell : Taken
  pub begins : Begins (cells_of m) base cell
  pub seat : MarksCell m page number base cell.extent
  pub mark : mark_at m page number ≡ marks.Taken cell.colour cell.flags

-- the taken cell in which a word falls, which has so many bytes, and where its mark stands
pub record IsLocated (m : Map) (word page number base extent : ℕ) : Type 0 where
  pub cell : Taken
  pub covers : Covers (cells_of m) word base cell
  pub sized : cell.extent ≡ extent
  pub index : IsMarkIndex m page number base

-- what is told of a located cell is what its mark tells
abbrev pub IsTold : Map → Located → Type 0
IsTold m found = mark_at m found.index.page found.index.number ≡ marks.Taken found.told.colour found.told.flags

-- a taken cell is one that is sought
abbrev pub IsSuch : Sought → Taken → Type 0
IsSuch sought.Taken cell = ⊤
IsSuch (sought.Of colour) cell = cell.colour ≡ colour

-- no such cell that begins in the page does so at `from` or above
abbrev pub NoneInPage : Cells → ℕ → Sought → ℕ → Type 0
NoneInPage v page what from =
    (base : ℕ) (cell : Taken) → Begins v base cell → IsSuch what cell → base / 4096 ≡ page → base < from

-- the lowest one that does
pub record IsLowestInPage (v : Cells) (page : ℕ) (what : Sought) (from base : ℕ) : Type 0 where
  pub cell : Taken
  pub begins : Begins v base cell
  pub is : IsSuch what cell
  pub here : base / 4096 ≡ page
  pub reached : from ≤ base
  pub least : (lower : ℕ) (other : Taken) → Begins v lower other → IsSuch what other → lower / 4096 ≡ page
      → from ≤ lower → base ≤ lower

-- a taken cell of a page of this class, with its number in the page and its base
pub record IsTakenIn (m : Map) (page class number base : ℕ) : Type 0 where
  pub within : number < cells_in class
  pub taken : mark_at m page number ≢ marks.Free
  pub begins : base ≡ 4096 * page + number * class_size class

-- no cell with such a mark begins at so many bytes into the page or above
abbrev pub NoneIn : Map → ℕ → ℕ → Sought → ℕ → Type 0
NoneIn m page class what offset =
    (number : ℕ) → number < cells_in class → offset ≤ number * class_size class
    → IsSought what (mark_at m page number) → ⊥

-- the lowest one that does
pub record IsLowestIn (m : Map) (page class : ℕ) (what : Sought) (offset base : ℕ) : Type 0 where
  pub number : ℕ
  pub within : number < cells_in class
  pub is : IsSought what (mark_at m page number)
  pub begins : base ≡ 4096 * page + number * class_size class
  pub reached : offset ≤ number * class_size class
  pub lowest : (other : ℕ) → other < number → offset ≤ other * class_size class
      → IsSought what (mark_at m page other) → ⊥
