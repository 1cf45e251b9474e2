-- Where a block is placed.
use Rattle.std.specs.Prelude.{ℕ, Option, Some, None, Result, Ok, Err}
use Rattle.mm_model.specs.declared.object.Size.{Size}
use Rattle.mm_pages.specs.Pages.{Pages}
use Rattle.mm_cells.specs.Placing.{IsPlaceFor}
use Rattle.mm_fixed.specs.Fixed.{Fixed, OutBlock}
use Rattle.mm_fixed.specs.Cells.{cells_of}

-- the place for a block of this size, by the rule for cells
abbrev pub IsPlaceForBlock : Fixed → Pages → Size → Option ℕ → Type 0
IsPlaceForBlock v heap size found = IsPlaceFor (cells_of v) heap size found

-- the base that a call answers
abbrev pub base_in : {E : Type 0} → Result OutBlock E → Option ℕ
base_in (Ok block) = Some block.base
base_in (Err refused) = None
