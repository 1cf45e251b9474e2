-- The part that was written has the uses alone.
use Rattle.mm_cells.proofs.Tables.Maps.{uses_lent, FitsTable-with_uses, SetsUse-with_uses}
use Rattle.mm_cells.proofs.table.Table.set_use.Goals as goal

pub invariant_of-self : goal.invariant_of-self
invariant_of-self c =
    let lent = uses_lent c.self.inside.words c.self.inside.pages c.part_mut.result.now c.self.invariant
    c.uses_part-part.ensures.start c.uses_part-part.ensures.len c.part_mut.ensures.value in
    rw c.uses_part-part.ensures.start (FitsTable-with_uses c.self.inside.words c.self.inside.pages c.part_mut.result.now
    c.set_use.new.uses c.self.invariant lent c.set_use.auto.uses)

pub returns : goal.returns
returns c =
    let lent = uses_lent c.self.inside.words c.self.inside.pages c.part_mut.result.now c.self.invariant
    c.uses_part-part.ensures.start c.uses_part-part.ensures.len c.part_mut.ensures.value in
    rw (c.uses_part-part.ensures.start, ← c.self.view_is) (SetsUse-with_uses c.self.inside.words c.self.inside.pages
    c.args.page c.args.page_use c.part_mut.result.now c.set_use.new.uses c.self.invariant lent c.set_use.auto.uses
    c.set_use.ensures.here c.set_use.ensures.others)
