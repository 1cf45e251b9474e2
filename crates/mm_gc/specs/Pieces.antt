-- The pieces of a region as the layers keep them: what is parked in its page heap are the runs of objects and areas.
use Rattle.std.specs.Prelude.{◌≡◌, ℕ, List, slice_index}
use Rattle.std.specs.List.{Contains}
use Rattle.mm_model.specs.Places.Place.{Family, Objects, Areas, Piece}
use Rattle.mm_model.specs.Good.{IsPlaced}
use Rattle.mm_model.specs.Views.ByBase as entries
use Rattle.mm_pages.specs.Pages.{Pages, IsSoundHeap}
use Rattle.mm_pages.specs.Parked.{AreParked, AreAllParked}
use Rattle.mm_cells.specs.Cells.{Taken, Cells, Begins, IsSoundCells}
use Rattle.mm_fixed.specs.Fixed as blocks
use Rattle.mm_fixed.specs.Fixed.{Block, Fixed}

-- the cell as a piece of a family
abbrev pub piece_in : Family → ℕ → Taken → Piece
piece_in family base cell = record { base = base; extent = cell.extent; family = family }

-- a cell of so many bytes begins at a base
pub record HasCell (v : Cells) (base extent : ℕ) : Type 0 where
  pub cell : Taken
  pub begins : Begins v base cell
  pub same : cell.extent ≡ extent

-- the cells of a family are exactly its pieces
pub record ArePieces (family : Family) (v : Cells) (pieces : List Piece) : Type 0 where
  pub own : (base : ℕ) (cell : Taken) → Begins v base cell → Contains pieces (piece_in family base cell)
  pub back : (piece : Piece) → Contains pieces piece → piece.family ≡ family → HasCell v piece.base piece.extent

-- a block of so many bytes begins at a base
pub record HasBlock (v : Fixed) (base extent : ℕ) : Type 0 where
  pub block : Block
  pub begins : entries.Begins v.blocks base block
  pub same : block.extent ≡ extent

-- the blocks are exactly these pieces
pub record AreBlocks (v : Fixed) (areas : List Piece) : Type 0 where
  pub own : (base : ℕ) (block : Block) → entries.Begins v.blocks base block
      → Contains areas (blocks.piece_at base block)
  pub family : (piece : Piece) → Contains areas piece → piece.family ≡ Areas
  pub back : (piece : Piece) → Contains areas piece → HasBlock v piece.base piece.extent

-- A page heap, the cells of objects, those of blocks, and all the pieces of the region. What is parked are their runs.
pub record IsRegion (pages : Pages) (objects blocks : Cells) (pieces : List Piece) : Type 0 where
  pub sound : IsSoundHeap pages
  pub objects_sound : IsSoundCells objects
  pub blocks_sound : IsSoundCells blocks
  pub objects_parked : AreParked objects.runs pages
  pub blocks_parked : AreParked blocks.runs pages
  pub all_parked : AreAllParked objects.runs blocks.runs pages
  pub none_out : (page : ℕ) → slice_index pages.out page ≡ 0
  pub objects_are : ArePieces Objects objects pieces
  pub areas_are : ArePieces Areas blocks pieces
  pub placed : IsPlaced pages.pages pieces
