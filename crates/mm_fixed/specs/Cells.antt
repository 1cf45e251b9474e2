-- Blocks as the cells as which they are placed, so that what is said of cells is said of them too.
use Rattle.std.specs.Prelude.{Bool, true, false, map}
use Rattle.std.specs.Option.{option_map}
use Rattle.mm_model.specs.declared.object.Colour.{Colour}
use Rattle.mm_model.specs.declared.object.Colour.TheVariants.{White, Black}
use Rattle.mm_cells.specs.Cells as cells
use Rattle.mm_cells.specs.Cells.{Taken, newly_taken}
use Rattle.mm_fixed.specs.Fixed.{Block, Fixed}

-- a block that is parked is black, one that is out is white
abbrev pub colour_of : Bool → Colour
colour_of true = Black
colour_of false = White

abbrev pub cell_of : Block → Taken
cell_of block = newly_taken block.extent (colour_of block.parked)

abbrev pub cells_of : Fixed → cells.Cells
cells_of v = record { table = v.table; pages = v.pages; taken = map (option_map cell_of) v.blocks; runs = v.runs }
