-- Another cell lies in another word, or at another place of the same word.
use Rattle.mm_cells.proofs.Bits.Pages.{code_of_cell-others}
use Rattle.mm_cells.proofs.marks.set_mark.Goals as goal

pub returns-clause-others : goal.returns-clause-others
returns-clause-others c =
    code_of_cell-others c.args.table.now c.args.cell c.with_mark.result c.requires.within c.with_mark.ensures.others
