-- Which cells a table says are taken, and what holds of it between calls.
use Rattle.std.specs.Prelude.{◌≡◌, ◌≢◌, ◌+◌, ◌-◌, ◌*◌, ◌/◌, ◌%◌, ◌<◌, ◌≤◌, ◌↔◌, ◌==◌, ◌&&◌, ℕ, true, if◌then◌else◌}
use Rattle.std.specs.Prelude.{nat_lt, map, List, Option, Some, None, ⊤}
use Rattle.std.specs.List.{range_with_len}
use Rattle.mm_model.specs.declared.object.Size.TheVariants.{Small}
use Rattle.mm_model.specs.Places.SizeClass.{extent_of_size}
use Rattle.mm_cells.specs.declared.page_use.PageUse.{PageUse}
use Rattle.mm_cells.specs.declared.page_use.PageUse.TheVariants.{Unused, Class, First, Later}
use Rattle.mm_cells.specs.declared.marks.Mark.{Mark}
use Rattle.mm_cells.specs.declared.marks.Mark.TheVariants as marks
use Rattle.mm_cells.specs.Map.{Map, use_at, mark_at, room_at, HasPlainMarks}
use Rattle.mm_cells.specs.Cells.{Taken, Cells}

-- the bytes of a cell of a class, and how many of them a page has
abbrev pub class_size : ℕ → ℕ
class_size class = extent_of_size (Small class)

abbrev pub cells_in : ℕ → ℕ
cells_in class = 4096 / class_size class

-- so many words have all marks that are read of a page of this use
abbrev pub HaveMarks : PageUse → ℕ → Type 0
HaveMarks Unused words = ⊤
HaveMarks (Class class) words = cells_in class ≤ 8 * words
HaveMarks (First count) words = 1 ≤ words
HaveMarks (Later distance) words = ⊤

-- what a mark tells of a cell of so many bytes
abbrev pub taken_as : ℕ → Mark → Option Taken
taken_as extent marks.Free = None
taken_as extent (marks.Taken colour flags) = Some (record { extent = extent; colour = colour; flags = flags })

-- the taken cell that begins so many bytes into a page, whose cells have these marks
abbrev pub taken_in : PageUse → (ℕ → Mark) → ℕ → Option Taken
taken_in Unused cell_marks offset = None
taken_in (Class class) cell_marks offset =
    if offset % class_size class == 0 && nat_lt (offset / class_size class) (cells_in class)
    then taken_as (class_size class) (cell_marks (offset / class_size class)) else None
taken_in (First count) cell_marks offset = if offset == 0 then taken_as (4096 * count) (cell_marks 0) else None
taken_in (Later distance) cell_marks offset = None

-- the taken cell that begins at this multiple of 16 bytes
abbrev pub taken_at : Map → ℕ → Option Taken
taken_at m grain = taken_in (use_at m (grain / 256)) (mark_at m (grain / 256)) (16 * (grain % 256))

-- the length of the run of pages that begins with a page of this use
abbrev pub run_of : PageUse → ℕ
run_of Unused = 0
run_of (Class class) = 1
run_of (First count) = count
run_of (Later distance) = 0

abbrev pub runs_of : Map → List ℕ
runs_of m = map (λ page. run_of (use_at m page)) (range_with_len 0 m.pages)

-- what callers see
abbrev pub cells_of : Map → Cells
cells_of m =
    record {
      table = m.location;
      pages = m.pages;
      taken = map (taken_at m) (range_with_len 0 (256 * m.pages));
      runs = runs_of m;
    }

-- a page of a class has a taken cell
pub record HasTaken (m : Map) (page class : ℕ) : Type 0 where
  pub cell : ℕ
  pub within : cell < cells_in class
  pub taken : mark_at m page cell ≢ marks.Free

-- a page of a class has a free cell
pub record HasFree (m : Map) (page class : ℕ) : Type 0 where
  pub cell : ℕ
  pub within : cell < cells_in class
  pub free : mark_at m page cell ≡ marks.Free

-- so many pages from a page on are those of one taken cell
pub record IsWhole (m : Map) (page count : ℕ) : Type 0 where
  pub some : 0 < count
  pub within : page + count ≤ m.pages
  pub later : (distance : ℕ) → 0 < distance → distance < count → use_at m (page + distance) ≡ Later distance
  pub taken : mark_at m page 0 ≢ marks.Free

-- the page is one of a cell that begins so many pages before it
pub record IsLater (m : Map) (page distance : ℕ) : Type 0 where
  pub some : 0 < distance
  pub behind : distance ≤ page
  pub count : ℕ
  pub first : use_at m (page - distance) ≡ First count
  pub within : distance < count

-- Page 0 is never used, no page is used without a taken cell, no free cell of a page of a class has a flag, and the
-- sets have exactly the pages with a free cell.
pub record KeepsCells (m : Map) : Type 0 where
  pub two : 2 ≤ m.pages
  pub most : m.pages ≤ 4096
  pub off_zero : use_at m 0 ≡ Unused
  pub inside : (page : ℕ) → m.pages ≤ page → use_at m page ≡ Unused
  pub classes : (page class : ℕ) → use_at m page ≡ Class class → (class < 19) × HasTaken m page class
  pub wholes : (page count : ℕ) → use_at m page ≡ First count → IsWhole m page count
  pub laters : (page distance : ℕ) → use_at m page ≡ Later distance → IsLater m page distance
  pub plain : (page class : ℕ) → use_at m page ≡ Class class → HasPlainMarks m page
  pub rooms : (class page : ℕ) → class < 19 → page < m.pages
      → (room_at m class page ≡ true) ↔ ((use_at m page ≡ Class class) × HasFree m page class)
