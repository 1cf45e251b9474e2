-- What callers see of an allocator of blocks: which are out, and which are parked.
use Rattle.std.specs.Prelude.{◌≡◌, ◌≢◌, ◌+◌, ◌*◌, ◌/◌, ◌<◌, ◌≤◌, ℕ, Bool, true, false, List, length, replicate}
use Rattle.std.specs.Prelude.{Option, None, slice_index, slice_set}
use Rattle.mm_model.specs.Places.Place.{Piece, Areas}
use Rattle.mm_model.specs.Good.{IsInside, AreApart}
use Rattle.mm_model.specs.Views.ByBase.{Begins, with_entry}
use Rattle.mm_words.specs.Location.{Location}

-- a block: its bytes, and whether it is parked, or else out
pub record Block : Type 0 where
  pub extent : ℕ
  pub parked : Bool

-- where the table lies, how many pages it is for, the blocks by base, and for each page the length of the run of pages
-- of blocks that begins there, 0 where none does
pub record Fixed : Type 0 where
  pub table : Location
  pub pages : ℕ
  pub blocks : List (Option Block)
  pub runs : List ℕ

-- a block that its holder has, with the table of the allocator that it is of
pub record OutBlock : Type 0 where
  pub allocator : Location
  pub base : ℕ
  pub extent : ℕ

-- no block is out or parked
abbrev pub fresh : Location → ℕ → Fixed
fresh table pages =
    record { table = table; pages = pages; blocks = replicate (256 * pages) None; runs = replicate pages 0 }

-- the same, but that this block begins at a base, or none does
abbrev pub with_block : Fixed → ℕ → Option Block → Fixed
with_block v base block = record v { blocks = with_entry base block v.blocks }

-- the same, but that a run of so many pages begins at a page, or none where it is 0
abbrev pub with_run : Fixed → ℕ → ℕ → Fixed
with_run v page count = record v { runs = slice_set v.runs page count }

abbrev pub block_out : ℕ → Block
block_out extent = record { extent = extent; parked = false }

abbrev pub block_parked : ℕ → Block
block_parked extent = record { extent = extent; parked = true }

-- the block of this allocator with so many bytes at a base
abbrev pub out_at : Fixed → ℕ → ℕ → OutBlock
out_at v base extent = record { allocator = v.table; base = base; extent = extent }

-- the block is one of this allocator's that are out
pub record IsOut (v : Fixed) (block : OutBlock) : Type 0 where
  pub own : block.allocator ≡ v.table
  pub begins : Begins v.blocks block.base (block_out block.extent)

-- a parked block begins at the base
pub record IsParked (v : Fixed) (base : ℕ) : Type 0 where
  pub extent : ℕ
  pub begins : Begins v.blocks base (block_parked extent)

-- no block is out or parked
abbrev pub HasNoBlock : Fixed → Type 0
HasNoBlock v = (base : ℕ) (block : Block) → Begins v.blocks base block → ⊥

-- no block begins at the base
abbrev pub HasNoBlockAt : Fixed → ℕ → Type 0
HasNoBlockAt v base = (block : Block) → Begins v.blocks base block → ⊥

-- the block as a piece of the region
abbrev pub piece_at : ℕ → Block → Piece
piece_at base block = record { base = base; extent = block.extent; family = Areas }

-- the run is one of blocks: a block begins in its first page, and no page of it lies past that block
pub record IsRunOfBlocks (v : Fixed) (page : ℕ) : Type 0 where
  pub base : ℕ
  pub block : Block
  pub begins : Begins v.blocks base block
  pub inside : base / 4096 ≡ page
  pub needed : 4096 * (page + slice_index v.runs page) < base + block.extent + 4096

-- Each block lies on the grid of its size in the pages from 1 on. No two overlap, and those that share a page have one
-- size. Each lies in the run that begins at its page, and there are no other runs.
pub record IsSoundFixed (v : Fixed) : Type 0 where
  pub two : 2 ≤ v.pages
  pub most : v.pages ≤ 4096
  pub size : length v.blocks ≡ 256 * v.pages
  pub runs_size : length v.runs ≡ v.pages
  pub inside : (base : ℕ) (block : Block) → Begins v.blocks base block → IsInside v.pages (piece_at base block)
  pub apart : (base other_base : ℕ) (block other : Block) → Begins v.blocks base block
      → Begins v.blocks other_base other → base ≢ other_base
      → AreApart (piece_at base block) (piece_at other_base other)
  pub in_run : (base : ℕ) (block : Block) → Begins v.blocks base block
      → base + block.extent ≤ 4096 * (base / 4096 + slice_index v.runs (base / 4096))
  pub runs : (page : ℕ) → 0 < slice_index v.runs page → IsRunOfBlocks v page
