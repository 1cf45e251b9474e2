-- The part that was written has the marks alone.
use Rattle.mm_cells.proofs.Tables.Maps.{marks_lent, FreesPage-with_marks}
use Rattle.mm_cells.proofs.table.Table.free_page.Goals as goal

pub returns : goal.returns
returns c =
    let lent = marks_lent c.self.inside.words c.self.inside.pages c.part_mut.result.now c.self.invariant
    c.marks_part-part.ensures.start c.marks_part-part.ensures.len c.part_mut.ensures.value in
    rw (c.marks_part-part.ensures.start, ← c.self.view_is) (FreesPage-with_marks c.self.inside.words c.self.inside.pages
    c.args.page c.part_mut.result.now c.fill_free.new.table c.self.invariant lent c.fill_free.auto.table
    c.fill_free.ensures.page c.fill_free.ensures.others)
