-- The part that was written has the marks alone.
use Rattle.std.proofs.Common.{◌+◌, ◌*◌, ℕ, ◌∙◌}
use Rattle.mm_cells.specs.Marks.{code_of_cell}
use Rattle.mm_cells.proofs.Tables.Maps.{marks_lent, code_at-with_marks, SetsMark-with_marks, plain-code}
use Rattle.mm_cells.proofs.table.Table.set_mark.Goals as goal

pub returns-clause-set : goal.returns-clause-set
returns-clause-set c =
    let lent = marks_lent c.self.inside.words c.self.inside.pages c.part_mut.result.now c.self.invariant
    c.marks_part-part.ensures.start c.marks_part-part.ensures.len c.part_mut.ensures.value in
    rw (c.marks_part-part.ensures.start, ← c.self.view_is) (SetsMark-with_marks c.self.inside.words c.self.inside.pages
    c.args.page c.args.cell c.args.mark c.part_mut.result.now c.set_mark.new.table c.self.invariant lent
    c.set_mark.auto.table c.requires.cell c.set_mark.ensures.given
    (plain-code (code_of_cell c.set_mark.new.table (256 * c.args.page + c.args.cell)) c.args.mark
    c.set_mark.ensures.given c.set_mark.ensures.code) c.set_mark.ensures.others)

pub returns-clause-code : goal.returns-clause-code
returns-clause-code c =
    let lent = marks_lent c.self.inside.words c.self.inside.pages c.part_mut.result.now c.self.invariant
    c.marks_part-part.ensures.start c.marks_part-part.ensures.len c.part_mut.ensures.value in
    rw c.marks_part-part.ensures.start (code_at-with_marks c.self.inside.words c.self.inside.pages c.args.page
    c.args.cell c.part_mut.result.now c.set_mark.new.table c.self.invariant lent c.set_mark.auto.table
    ∙ c.set_mark.ensures.code)
