use Rattle.mm_cells.proofs.Tables.Uses.{ChangesUses-cleared}
use Rattle.mm_cells.proofs.page_use.clear_whole.Goals as goal

pub returns : goal.returns
returns c = λ count some whole.
    ChangesUses-cleared c.args.uses.now c.args.first c.encode.result count c.requires c.encode.ensures some whole
