-- What a table of marks says: each word has the marks of eight cells, each of them in four bits.
use Rattle.std.specs.Prelude.{◌≡◌, ◌≢◌, ℕ, ◌+◌, ◌*◌, ◌/◌, ◌%◌, ◌^◌, ◌<◌, ◌≤◌, ◌==◌, if◌then◌else◌, List, slice_index, ⊤}
use Rattle.std.specs.Int.{bit_at}
use Rattle.mm_model.specs.declared.object.Colour.{Colour}
use Rattle.mm_model.specs.declared.object.Colour.TheVariants.{White, Gray, Black}
use Rattle.mm_cells.specs.declared.marks.CellBits.{CellBits}
use Rattle.mm_cells.specs.declared.marks.Mark.{Mark}
use Rattle.mm_cells.specs.declared.marks.Mark.TheVariants.{Free, Taken}
use Rattle.mm_cells.specs.declared.marks.Sought.{Sought}
use Rattle.mm_cells.specs.declared.marks.Sought.TheVariants as sought

-- the colour of a taken cell, by the low two of its bits
abbrev pub colour_of : ℕ → Colour
colour_of low = if low == 0 then White else (if low == 1 then Black else Gray)

-- the other two bits: 1 with a finalizer, 2 with a live weak object
abbrev pub flags_of : ℕ → CellBits
flags_of code = record { 0 = code / 4 }

abbrev pub no_flags : CellBits
no_flags = record { 0 = 0 }

-- flags that these two bits can say
abbrev pub IsFlags : CellBits → Type 0
IsFlags flags = flags.0 < 4

abbrev pub IsMark : Mark → Type 0
IsMark Free = ⊤
IsMark (Taken colour flags) = IsFlags flags

-- the four bits of a mark: a free cell is 3 with neither flag
abbrev pub colour_code : Colour → ℕ
colour_code White = 0
colour_code Black = 1
colour_code Gray = 2

abbrev pub code_of : Mark → ℕ
code_of Free = 3
code_of (Taken colour flags) = colour_code colour + 4 * flags.0

-- the mark that four bits mean: a cell is free where the low two of them are 3
abbrev pub mark_of : ℕ → Mark
mark_of code = if code % 4 == 3 then Free else Taken (colour_of (code % 4)) (flags_of code)

-- four bits that aren't those of a free cell with a flag
abbrev pub IsPlain : ℕ → Type 0
IsPlain code = mark_of code ≡ Free → code ≡ code_of Free

-- the mark of a taken cell that is white from now on
abbrev pub whitened_mark : Mark → Mark
whitened_mark Free = Free
whitened_mark (Taken colour flags) = Taken White flags

-- the four bits at one of the eight places of a word
abbrev pub code_in : ℕ → ℕ → ℕ
code_in word place = word / 16 ^ place % 16

-- the mark there
abbrev pub mark_in : ℕ → ℕ → Mark
mark_in word place = mark_of (code_in word place)

-- the four bits of a cell
abbrev pub code_of_cell : List ℕ → ℕ → ℕ
code_of_cell table cell = code_in (slice_index table (cell / 8)) (cell % 8)

-- the mark of a cell
abbrev pub mark_of_cell : List ℕ → ℕ → Mark
mark_of_cell table cell = mark_in (slice_index table (cell / 8)) (cell % 8)

-- the taken cells of a word are white now, with the flags that they had, and no free one has got a flag
pub record WhitensWord (before after : ℕ) : Type 0 where
  pub white : (place : ℕ) → place < 8 → mark_in after place ≡ whitened_mark (mark_in before place)
  pub plain : (place : ℕ) → place < 8 → IsPlain (code_in before place) → IsPlain (code_in after place)

-- no one of so many marks says that a cell is free
abbrev pub NoneFree : (ℕ → Mark) → ℕ → Type 0
NoneFree marks cells = (cell : ℕ) → cell < cells → ¬ (marks cell ≡ Free)

-- the lowest one of them that does
pub record IsLowestFree (marks : ℕ → Mark) (cells cell : ℕ) : Type 0 where
  pub within : cell < cells
  pub free : marks cell ≡ Free
  pub lowest : NoneFree marks cell

-- the marks of the cells of a page, whose marks begin at a word of the table
abbrev pub page_marks : List ℕ → ℕ → ℕ → Mark
page_marks table first_word cell = mark_of_cell table (8 * first_word + cell)

-- a mark is one that is sought
abbrev pub IsSought : Sought → Mark → Type 0
IsSought sought.Taken mark = mark ≢ Free
IsSought (sought.Of colour) Free = ⊥
IsSought (sought.Of colour) (Taken its flags) = its ≡ colour

-- no cell of those from a number on has such a mark
abbrev pub NoneSought : Sought → (ℕ → Mark) → ℕ → ℕ → Type 0
NoneSought what marks from cells = (cell : ℕ) → from ≤ cell → cell < cells → IsSought what (marks cell) → ⊥

-- the lowest one of them that has
pub record IsLowestSought (what : Sought) (marks : ℕ → Mark) (from cells cell : ℕ) : Type 0 where
  pub reached : from ≤ cell
  pub within : cell < cells
  pub is : IsSought what (marks cell)
  pub lowest : NoneSought what marks from cell

-- the bits of a mask are the lowest ones of those marks of a word that are sought
pub record IsMaskOf (what : Sought) (word mask : ℕ) : Type 0 where
  pub places : (i : ℕ) → i < 32 → bit_at mask i ≡ 1 → i % 4 ≡ 0
  pub set : (place : ℕ) → place < 8 → bit_at mask (4 * place) ≡ 1 → IsSought what (mark_in word place)
  pub unset : (place : ℕ) → place < 8 → IsSought what (mark_in word place) → bit_at mask (4 * place) ≡ 1
