use Rattle.std.proofs.Common.{None, set, ap, ◌∙◌, arith}
use Rattle.mm_roots.specs.Kept.{AreaRows}
use Rattle.mm_roots.proofs.Changes.{IsSet-scanned, left-areas, left-keeps}
use Rattle.mm_roots.proofs.area_table.AreaTable.leave.Goals as goal

pub write_member-requires-2-clause-set : goal.write_member-requires-2-clause-set
write_member-requires-2-clause-set c =
    let room = c.self.invariant.room in
    IsSet-scanned c.self.inside.words c.write_member.new.table c.args.number _ (omega arith) c.write_member.ensures
    c.self.invariant.free

pub invariant_of-self : goal.invariant_of-self
invariant_of-self c =
    let p = c.self.inside.words in
    left-keeps p p c.write_member.new.table c.write_member-2.new.table c.args.number c.requires c.self.invariant
    c.write_member.ensures c.write_member-2.ensures

pub returns-clause-areas : goal.returns-clause-areas
returns-clause-areas c =
    let p = c.self.inside.words in
    left-areas p p c.write_member.new.table c.write_member-2.new.table c.args.number c.requires c.self.invariant
    c.write_member.ensures c.write_member-2.ensures
    ∙ ap (λ (r : AreaRows). set r.areas c.args.number None) c.self.view_is
