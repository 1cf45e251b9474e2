-- The part that was written has the uses alone.
use Rattle.mm_cells.specs.Uses.{use_in_whole}
use Rattle.mm_cells.proofs.Tables.Maps.{uses_lent, FitsTable-with_uses, SetsUses-with_uses}
use Rattle.mm_cells.proofs.table.Table.set_whole.Goals as goal

pub invariant_of-self : goal.invariant_of-self
invariant_of-self c =
    let lent = uses_lent c.self.inside.words c.self.inside.pages c.part_mut.result.now c.self.invariant
    c.uses_part-part.ensures.start c.uses_part-part.ensures.len c.part_mut.ensures.value in
    rw c.uses_part-part.ensures.start (FitsTable-with_uses c.self.inside.words c.self.inside.pages c.part_mut.result.now
    c.set_whole.new.uses c.self.invariant lent c.set_whole.auto.uses)

pub returns : goal.returns
returns c =
    let lent = uses_lent c.self.inside.words c.self.inside.pages c.part_mut.result.now c.self.invariant
    c.uses_part-part.ensures.start c.uses_part-part.ensures.len c.part_mut.ensures.value in
    rw (c.uses_part-part.ensures.start, ← c.self.view_is) (SetsUses-with_uses c.self.inside.words c.self.inside.pages
    c.args.first c.args.count (use_in_whole c.args.count) c.part_mut.result.now c.set_whole.new.uses c.self.invariant
    lent c.set_whole.auto.uses c.set_whole.ensures)
