-- The part that was written is the set of the class.
use Rattle.std.proofs.Common.{ap, arith}
use Rattle.mm_cells.specs.Map.{Map}
use Rattle.mm_cells.proofs.Tables.Rooms.{set_lent, IsSet-lent, FitsTable-with_set, SetsRoom-with_set}
use Rattle.mm_cells.proofs.table.Table.set_room.Goals as goal

pub invariant_of-self : goal.invariant_of-self
invariant_of-self c =
    let pages = c.self.inside.pages in
    let lent = set_lent c.self.inside.words pages c.args.class c.part_mut.result.now c.self.invariant
    c.requires.class c.set_part-part.ensures.start c.set_part-part.ensures.len c.part_mut.ensures.value in
    let set = c.set_member.ensures.set pages (omega (arith, ap (λ (m : Map). m.pages) c.self.view_is))
    (IsSet-lent c.self.invariant c.requires.class lent) in
    rw c.set_part-part.ensures.start (FitsTable-with_set c.self.inside.words pages c.args.class c.part_mut.result.now
    c.set_member.new.set c.self.invariant c.requires.class lent c.set_member.auto.set set)

pub returns : goal.returns
returns c =
    let pages = c.self.inside.pages in
    let lent = set_lent c.self.inside.words pages c.args.class c.part_mut.result.now c.self.invariant
    c.requires.class c.set_part-part.ensures.start c.set_part-part.ensures.len c.part_mut.ensures.value in
    rw (c.set_part-part.ensures.start, ← c.self.view_is) (SetsRoom-with_set c.self.inside.words pages c.args.class
    c.args.page c.args.has_room c.part_mut.result.now c.set_member.new.set c.self.invariant c.requires.class lent
    c.set_member.auto.set c.set_member.ensures.member c.set_member.ensures.others)
