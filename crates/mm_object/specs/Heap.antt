-- What callers see of a heap: its objects, and the words of its memory that lie in none.
use Rattle.std.specs.Prelude.{◌≡◌, ◌≢◌, ℕ, ◌+◌, ◌-◌, ◌*◌, ◌/◌, ◌<◌, ◌≤◌, List, length, map, replicate, Option, Some}
use Rattle.std.specs.Prelude.{None, slice_get, slice_set}
use Rattle.std.specs.Option.{option_map}
use Rattle.mm_model.specs.Places.Place.{Piece, Objects}
use Rattle.mm_model.specs.Good.{IsInside, AreApart}
use Rattle.mm_model.specs.Places.SizeClass.{extent_of, object_bytes}
use Rattle.mm_model.specs.Views.ByBase.{Begins, with_entry}
use Rattle.mm_words.specs.Piece as pieces
use Rattle.mm_words.specs.Arena.{Arena}
use Rattle.mm_words.specs.Location.{Location, location_of}
use Rattle.mm_pages.specs.Pages.{Pages}
use Rattle.mm_pages.specs.Parked.{AreParked}
use Rattle.mm_cells.specs.Cells.{Taken, Cells, IsSoundCells}
use Rattle.mm_object.specs.Object.{StoredObject, StoredObjects, shape_of, flags_with}
use Rattle.mm_object.specs.Header.{IsShape}

-- Where its memory and the table of its cells lie, how many pages its cells are for and how many its memory has, its
-- objects, for each page the length of the run of pages of cells that begins there, and for each word of its memory the
-- word, or none where it lies in an object's extent.
pub record Heap : Type 0 where
  pub memory : Location
  pub table : Location
  pub pages : ℕ
  pub size : ℕ
  pub objects : StoredObjects
  pub runs : List ℕ
  pub raw : List (Option ℕ)

-- a heap without objects, on this memory
abbrev pub fresh : pieces.Piece → Cells → Heap
fresh memory cells =
    record {
      memory = location_of memory;
      table = cells.table;
      pages = cells.pages;
      size = length memory.words / 1024;
      objects = replicate (256 * cells.pages) None;
      runs = cells.runs;
      raw = map Some memory.words;
    }

-- the cell of an object
abbrev pub cell_of : StoredObject → Taken
cell_of object =
    record {
      extent = object.extent;
      colour = object.colour;
      flags = flags_with object.finalize object.has_weak;
    }

-- the cells of a heap
abbrev pub cells_in : Heap → Cells
cells_in h =
    record { table = h.table; pages = h.pages; taken = map (option_map cell_of) h.objects; runs = h.runs }

-- the same heap, but that this object begins at a base, or none does
abbrev pub with_object : Heap → ℕ → Option StoredObject → Heap
with_object h base object = record h { objects = with_entry base object h.objects }

-- an object begins at a base
abbrev pub IsObject : Heap → ℕ → Type 0
IsObject h base = (object : StoredObject) × Begins h.objects base object

-- the object there has a slot of this number
pub record HasSlot (h : Heap) (base s : ℕ) : Type 0 where
  pub object : StoredObject
  pub begins : Begins h.objects base object
  pub within : s < length object.words

-- a word falls in the object that begins at the base
pub record Covers (h : Heap) (word base : ℕ) (object : StoredObject) : Type 0 where
  pub begins : Begins h.objects base object
  pub from : base ≤ word
  pub to : word < base + object.extent

-- it falls in none
abbrev pub FallsInNone : Heap → ℕ → Type 0
FallsInNone h word = (base : ℕ) (object : StoredObject) → Covers h word base object → ⊥

-- the address is that of a word of memory that lies in no object, and the word there
pub record IsRaw (h : Heap) (address word : ℕ) : Type 0 where
  pub place : ℕ
  pub aligned : address ≡ 4 * place
  pub is : slice_get h.raw place ≡ Some (Some word)

-- another word there
abbrev pub with_raw : Heap → ℕ → ℕ → Heap
with_raw h address word = record h { raw = slice_set h.raw (address / 4) (Some word) }

-- the object as a piece of the region
abbrev pub piece_at : ℕ → StoredObject → Piece
piece_at base object = record { base = base; extent = object.extent; family = Objects }

-- Its cells are sound. Each object has the extent of its bytes, a shape that is allowed, and lies on the grid of its
-- size in the memory's pages from 1 on. No two overlap, and those that share a page have one size. A word of memory is
-- told apart exactly where it lies in an object.
pub record IsSound (h : Heap) : Type 0 where
  pub cells : IsSoundCells (cells_in h)
  pub entries : length h.objects ≡ 256 * h.pages
  pub two : 2 ≤ h.size
  pub size : h.size ≤ h.pages
  pub most : h.pages ≤ 4096
  pub words : h.memory.size ≡ 1024 * h.size
  pub raw_size : length h.raw ≡ 1024 * h.size
  pub extent : (base : ℕ) (object : StoredObject) → Begins h.objects base object
      → object.extent ≡ extent_of (object_bytes (length object.words))
  pub room : (base : ℕ) (object : StoredObject) → Begins h.objects base object
      → object_bytes (length object.words) ≤ object.extent
  pub shape : (base : ℕ) (object : StoredObject) → Begins h.objects base object → IsShape (shape_of object)
  pub inside : (base : ℕ) (object : StoredObject) → Begins h.objects base object
      → IsInside h.size (piece_at base object)
  pub apart : (base other_base : ℕ) (object other : StoredObject) → Begins h.objects base object
      → Begins h.objects other_base other → base ≢ other_base
      → AreApart (piece_at base object) (piece_at other_base other)
  pub covered : (place base : ℕ) (object : StoredObject) → Covers h (4 * place) base object
      → slice_get h.raw place ≡ Some None
  pub outside : (place : ℕ) → place < 1024 * h.size → FallsInNone h (4 * place)
      → (word : ℕ) × (slice_get h.raw place ≡ Some (Some word))

-- the words of an extent are an object's now, and all others are as they were
pub record TakesWords (before after : List (Option ℕ)) (base extent : ℕ) : Type 0 where
  pub size : length after ≡ length before
  pub inside : (place : ℕ) → base ≤ 4 * place → 4 * place < base + extent → slice_get after place ≡ Some None
  pub below : (place : ℕ) → 4 * place < base → slice_get after place ≡ slice_get before place
  pub above : (place : ℕ) → base + extent ≤ 4 * place → slice_get after place ≡ slice_get before place

-- the words of an extent are no object's now, and all others are as they were
pub record LeavesWords (before after : List (Option ℕ)) (base extent : ℕ) : Type 0 where
  pub size : length after ≡ length before
  pub inside : (place : ℕ) → base ≤ 4 * place → 4 * place < base + extent
      → (word : ℕ) × (slice_get after place ≡ Some (Some word))
  pub below : (place : ℕ) → 4 * place < base → slice_get after place ≡ slice_get before place
  pub above : (place : ℕ) → base + extent ≤ 4 * place → slice_get after place ≡ slice_get before place

-- the runs of its cells are parked in the page heap, of which no page at or past the memory's end is free
pub record FitsHeap (h : Heap) (pages : Pages) : Type 0 where
  pub parked : AreParked h.runs pages
  pub memory : pages.limit ≤ h.size

-- its memory ends where the uncut words of the arena begin
pub record IsAtEnd (h : Heap) (arena : Arena) : Type 0 where
  pub own : h.memory.arena ≡ arena.name
  pub end : h.memory.start + h.memory.size ≡ arena.total - arena.spare

-- no object reaches past so many pages
abbrev pub EndsBy : Heap → ℕ → Type 0
EndsBy h pages = (base : ℕ) (object : StoredObject) → Begins h.objects base object → base + object.extent ≤ 4096 * pages

-- the same heap with a memory of so many pages: the words that were and are in it are as they were
pub record IsResized (before after : Heap) (pages : ℕ) : Type 0 where
  pub same : after ≡ record before {
    memory = record before.memory { size = 1024 * pages };
    size = pages;
    raw = after.raw;
  }
  pub kept : (place : ℕ) → place < 1024 * before.size → place < 1024 * pages
      → slice_get after.raw place ≡ slice_get before.raw place

-- the arena once its last piece has other words, so many in place of so many
abbrev pub resized : Arena → ℕ → ℕ → Arena
resized arena before after =
    record arena { spare = arena.spare + before - after; out = arena.out + after - before }
