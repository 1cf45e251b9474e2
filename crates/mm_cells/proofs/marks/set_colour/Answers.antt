-- Another cell lies in another word, or at another place of the same word.
use Rattle.std.proofs.Common.{◌/◌, ◌%◌, ap, ◌∙◌}
use Rattle.std.proofs.lemmas.List.{get_or-set_same}
use Rattle.mm_cells.specs.Marks.{mark_in}
use Rattle.mm_cells.proofs.Bits.Pages.{code_of_cell-others}
use Rattle.mm_cells.proofs.marks.set_colour.Goals as goal

pub returns-clause-given : goal.returns-clause-given
returns-clause-given c = λ its flags is.
    ap (λ w. mark_in w (c.args.cell % 8))
    (get_or-set_same c.args.table.now (c.args.cell / 8) c.with_colour.result 0 c.requires)
    ∙ c.with_colour.ensures.given its flags is

pub returns-clause-others : goal.returns-clause-others
returns-clause-others c =
    code_of_cell-others c.args.table.now c.args.cell c.with_colour.result c.requires c.with_colour.ensures.others
