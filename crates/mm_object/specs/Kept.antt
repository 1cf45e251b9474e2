-- How a heap's memory and cells tell its objects, and what holds of them between calls.
use Rattle.std.specs.Prelude.{◌≡◌, ℕ, ◌+◌, ◌*◌, ◌/◌, ◌≤◌, Bool, if◌then◌else◌, List, [], ◌∷◌, length, take, drop}
use Rattle.std.specs.Prelude.{replicate, slice_index, Option, Some, None}
use Rattle.std.specs.Option.{option_map}
use Rattle.std.specs.List.{list_any}
use Rattle.mm_model.specs.declared.object.Shape.{Shape}
use Rattle.mm_model.specs.Places.SizeClass.{extent_of, object_bytes}
use Rattle.mm_model.specs.Views.ByBase.{based}
use Rattle.mm_model.specs.Words.{falls}
use Rattle.mm_words.specs.Piece.{Piece}
use Rattle.mm_words.specs.Location.{location_of}
use Rattle.mm_cells.specs.Cells.{Taken, Cells, Begins, IsSoundCells}
use Rattle.mm_object.specs.Object.{StoredObject, StoredObjects, flags_with, has_weak_object}
use Rattle.mm_object.specs.Header.{shape_in, first_word, second_word, IsShape}
use Rattle.mm_object.specs.Heap.{Heap}

-- the words of an extent
abbrev pub extent_words : List ℕ → ℕ → ℕ → List ℕ
extent_words words base extent = take (extent / 4) (drop (base / 4) words)

-- the shape that the first two of these words say
abbrev pub shape_told : List ℕ → Shape
shape_told words = shape_in (slice_index words 0) (slice_index words 1)

-- the object that the words of its extent and its cell tell: a header of four words, and then its slots
abbrev pub object_told : Taken → List ℕ → StoredObject
object_told cell words =
    record {
      extent = cell.extent;
      kind = (shape_told words).kind;
      finalize = (shape_told words).finalize;
      counted = (shape_told words).counted;
      words = take (shape_told words).slots (drop 4 words);
      link = slice_index words 2;
      composite = slice_index words 3;
      colour = cell.colour;
      has_weak = has_weak_object cell.flags;
    }

-- the object in a cell at a base
abbrev pub object_at : List ℕ → ℕ → Taken → StoredObject
object_at words base cell = object_told cell (extent_words words base cell.extent)

-- those in all cells, where the first entry is for this base
abbrev pub objects_from : List ℕ → ℕ → List (Option Taken) → StoredObjects
objects_from words base [] = []
objects_from words base (cell ∷ taken) = option_map (object_at words base) cell ∷ objects_from words (base + 16) taken

-- whether an address lies in a taken cell
abbrev pub is_covered : List (Option Taken) → ℕ → Bool
is_covered taken address = list_any (λ o. falls address o.base o.value.extent) (based taken)

-- the words that lie in no cell, where the first is at this place
abbrev pub raw_from : List (Option Taken) → ℕ → List ℕ → List (Option ℕ)
raw_from taken place [] = []
raw_from taken place (word ∷ words) =
    (if is_covered taken (4 * place) then None else Some word) ∷ raw_from taken (place + 1) words

-- what callers see
abbrev pub heap_of : Piece → Cells → Heap
heap_of memory cells =
    record {
      memory = location_of memory;
      table = cells.table;
      pages = cells.pages;
      size = length memory.words / 1024;
      objects = objects_from memory.words 0 cells.taken;
      runs = cells.runs;
      raw = raw_from cells.taken 0 memory.words;
    }

-- The words of a cell begin with the header of an object that has the cell's extent and finalizer, and all other bits
-- of the header are 0.
pub record IsHeaded (cell : Taken) (words : List ℕ) : Type 0 where
  pub shape : IsShape (shape_told words)
  pub first : slice_index words 0 ≡ first_word (shape_told words)
  pub second : slice_index words 1 ≡ second_word (shape_told words)
  pub extent : cell.extent ≡ extent_of (object_bytes (shape_told words).slots)
  pub room : object_bytes (shape_told words).slots ≤ cell.extent
  pub flags : cell.flags ≡ flags_with (shape_told words).finalize (has_weak_object cell.flags)

-- memory has whole pages, no more than the cells are for, all cells lie in it, and each has its header
pub record KeepsHeap (memory : Piece) (cells : Cells) : Type 0 where
  pub sound : IsSoundCells cells
  pub whole : length memory.words ≡ 1024 * (length memory.words / 1024)
  pub two : 2 ≤ length memory.words / 1024
  pub most : length memory.words / 1024 ≤ cells.pages
  pub within : (base : ℕ) (cell : Taken) → Begins cells base cell → base + cell.extent ≤ 4 * length memory.words
  pub headed : (base : ℕ) (cell : Taken) → Begins cells base cell
      → IsHeaded cell (extent_words memory.words base cell.extent)

-- the words of an object as it is born: its header, and 0 in each slot
abbrev pub newborn_words : Shape → List ℕ
newborn_words shape = first_word shape ∷ second_word shape ∷ 0 ∷ 0 ∷ replicate shape.slots 0
