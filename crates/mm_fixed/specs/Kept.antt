-- How the cells beneath keep blocks.
use Rattle.std.specs.Prelude.{◌≡◌, Bool, true, false, map}
use Rattle.std.specs.Option.{option_map}
use Rattle.mm_model.specs.declared.object.Colour.{Colour}
use Rattle.mm_model.specs.declared.object.Colour.TheVariants.{White, Gray, Black}
use Rattle.mm_cells.specs.Cells as cells
use Rattle.mm_cells.specs.Cells.{Taken, IsSoundCells}
use Rattle.mm_fixed.specs.Fixed.{Block, Fixed}
use Rattle.mm_fixed.specs.Cells.{cells_of}

-- what they show
abbrev pub is_parked : Colour → Bool
is_parked White = false
is_parked Gray = false
is_parked Black = true

abbrev pub block_of : Taken → Block
block_of cell = record { extent = cell.extent; parked = is_parked cell.colour }

abbrev pub fixed_of : cells.Cells → Fixed
fixed_of c = record { table = c.table; pages = c.pages; blocks = map (option_map block_of) c.taken; runs = c.runs }

-- The cells are those of some blocks: none of them is gray, and none has a flag.
pub record KeepsBlocks (c : cells.Cells) : Type 0 where
  pub blocks : Fixed
  pub is : c ≡ cells_of blocks
  pub sound : IsSoundCells c
