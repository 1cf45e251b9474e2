-- The part that was written has the marks alone.
use Rattle.std.proofs.Common.{ℕ, List, ◌+◌, ◌*◌, ap, ◌∙◌}
use Rattle.mm_cells.specs.declared.marks.Mark.TheVariants.{Taken}
use Rattle.mm_cells.specs.Marks.{code_of_cell, mark_of_cell}
use Rattle.mm_cells.proofs.Tables.Maps.{marks_lent, SetsMark-with_marks, plain-taken}
use Rattle.mm_cells.proofs.table.Table.set_colour.Goals as goal

pub returns : goal.returns
returns c =
    let lent = marks_lent c.self.inside.words c.self.inside.pages c.part_mut.result.now c.self.invariant
    c.marks_part-part.ensures.start c.marks_part-part.ensures.len c.part_mut.ensures.value in
    rw (c.marks_part-part.ensures.start, ← c.self.view_is) (λ its flags is.
    let given = c.set_colour.ensures.given its flags
    (ap (λ (s : List ℕ). mark_of_cell s (256 * c.args.page + c.args.cell)) lent.is ∙ is) in
    SetsMark-with_marks c.self.inside.words c.self.inside.pages c.args.page c.args.cell (Taken c.args.colour flags)
    c.part_mut.result.now c.set_colour.new.table c.self.invariant lent c.set_colour.auto.table c.requires.cell given
    (plain-taken (code_of_cell c.set_colour.new.table (256 * c.args.page + c.args.cell)) c.args.colour flags given)
    c.set_colour.ensures.others)
