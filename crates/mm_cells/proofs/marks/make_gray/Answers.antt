-- Another cell lies in another word, or at another place of the same word.
use Rattle.std.proofs.Common.{◌/◌, ◌%◌, ap, ◌∙◌}
use Rattle.std.proofs.lemmas.List.{get_or-set_same}
use Rattle.mm_cells.specs.Marks.{mark_in}
use Rattle.mm_cells.proofs.Bits.Pages.{code_of_cell-others}
use Rattle.mm_cells.proofs.marks.make_gray.Goals as goal

pub returns-clause-given : goal.returns-clause-given
returns-clause-given c = λ flags is.
    ap (λ w. mark_in w (c.args.cell % 8))
    (get_or-set_same c.args.table.now (c.args.cell / 8) c.gray_word.result 0 c.requires.within)
    ∙ c.gray_word.ensures.given flags is

pub returns-clause-others : goal.returns-clause-others
returns-clause-others c =
    code_of_cell-others c.args.table.now c.args.cell c.gray_word.result c.requires.within c.gray_word.ensures.others
