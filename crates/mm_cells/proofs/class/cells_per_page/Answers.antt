-- The table is tried at each class.
use Rattle.mm_cells.proofs.Sizes.Classes.{cells-class}
use Rattle.mm_cells.proofs.class.cells_per_page.Goals as goal

pub returns : goal.returns
returns c = cells-class c.args.class c.requires
