-- The part that was written has the marks alone.
use Rattle.mm_cells.proofs.Tables.Maps.{marks_lent}
use Rattle.mm_cells.proofs.Tables.Maps.{WhitensPage-with_marks}
use Rattle.mm_cells.proofs.table.Table.whiten.Goals as goal

pub returns : goal.returns
returns c =
    let lent = marks_lent c.self.inside.words c.self.inside.pages c.part_mut.result.now c.self.invariant
    c.marks_part-part.ensures.start c.marks_part-part.ensures.len c.part_mut.ensures.value in
    rw (c.marks_part-part.ensures.start, ← c.self.view_is) (WhitensPage-with_marks c.self.inside.words
    c.self.inside.pages c.args.page c.args.words c.part_mut.result.now c.whiten.new.table c.self.invariant lent
    c.whiten.auto.table c.requires.words c.whiten.ensures.white c.whiten.ensures.plain
    c.whiten.ensures.others)
