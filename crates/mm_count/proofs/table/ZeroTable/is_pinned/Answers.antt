use Rattle.std.proofs.Common.{sym, ap, ◌∙◌}
use Rattle.mm_count.specs.declared.composite.Composite.{Composite}
use Rattle.mm_count.proofs.Stores.Changes.{composite_at-counted}
use Rattle.mm_count.proofs.table.ZeroTable.is_pinned.Goals as goal

pub returns-clause-pinned : goal.returns-clause-pinned
returns-clause-pinned g c =
    let k = c.requires in
    ap (λ (r : Composite). r.pinned)
    (c.composite_of.ensures.says k.object k.begins ∙ sym (composite_at-counted c.args.heap.now.objects c.args.base k))
