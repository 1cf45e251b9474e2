use Rattle.std.proofs.Common.{sym, ap, ◌∙◌}
use Rattle.mm_count.specs.Counts.{count_in}
use Rattle.mm_count.proofs.Stores.Changes.{composite_at-counted}
use Rattle.mm_count.proofs.table.ZeroTable.count_of.Goals as goal

pub returns-clause-count : goal.returns-clause-count
returns-clause-count g c =
    let k = c.requires in
    c.counted.ensures
    ∙ ap count_in
    (c.composite_of.ensures.says k.object k.begins ∙ sym (composite_at-counted c.args.heap.now.objects c.args.base k))
