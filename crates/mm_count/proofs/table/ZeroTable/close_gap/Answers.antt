use Rattle.std.proofs.Common.{◌≡◌, ◌-◌, length, sym, ap, ◌∙◌, subst}
use Rattle.mm_count.specs.Table.{Table, IsRight}
use Rattle.mm_count.specs.Composite.{FitsWord}
use Rattle.mm_count.proofs.Composites.{fits-entry}
use Rattle.mm_count.proofs.Entries.{length-without_place}
use Rattle.mm_count.proofs.Right.{right-closed_last}
use Rattle.mm_count.proofs.Stores.Changes.{last-counted, closed-same, closed-right, below-last}
use Rattle.mm_count.proofs.table.ZeroTable.close_gap.Goals as goal

pub returns-then-gap-len-clause-right : goal.returns-then-gap-len-clause-right
returns-then-gap-len-clause-right g c =
    let left : c.len.result ≡ length c.args.self.now.entries - 1 =
    c.len.ensures ∙ ap (λ (t : Table). length t.entries) c.pull-moved.ensures.entries
    ∙ length-without_place c.args.self.now.entries c.args.gap in
    subst (λ (t : Table). IsRight t c.args.heap.now) (sym c.pull-moved.ensures.entries)
    (right-closed_last c.args.self.now c.args.heap.now c.args.gap c.requires.gap (c.if-gap-len.true ∙ left))

pub composite_of-composite-requires : goal.composite_of-composite-requires
composite_of-composite-requires g c =
    let below = below-last c.args.self.now c.pull-moved.new.self c.args.gap c.len.result c.pull-moved.ensures.entries
    c.len.ensures c.requires.within c.if-gap-len.false in
    let k = last-counted c.args.self.now c.args.heap.now c.args.gap c.requires.gap below c.pull-moved.result
    c.pull-moved.ensures.last in
    (k.object, k.begins)

pub set_composite-requires-clause-object : goal.set_composite-requires-clause-object
set_composite-requires-clause-object g c =
    let below = below-last c.args.self.now c.pull-moved.new.self c.args.gap c.len.result c.pull-moved.ensures.entries
    c.len.ensures c.requires.within c.if-gap-len.false in
    let k = last-counted c.args.self.now c.args.heap.now c.args.gap c.requires.gap below c.pull-moved.result
    c.pull-moved.ensures.last in
    (k.object, k.begins)

pub returns-clause-heap : goal.returns-clause-heap
returns-clause-heap g c =
    let below = below-last c.args.self.now c.pull-moved.new.self c.args.gap c.len.result c.pull-moved.ensures.entries
    c.len.ensures c.requires.within c.if-gap-len.false in
    let k = last-counted c.args.self.now c.args.heap.now c.args.gap c.requires.gap below c.pull-moved.result
    c.pull-moved.ensures.last in
    let fits = subst FitsWord (sym c.entered.ensures)
    (fits-entry c.args.gap c.composite_of-composite.result c.requires.few c.composite_of-composite.ensures.fits) in
    closed-same c.args.self.now c.args.heap.now c.args.gap c.requires.gap below c.pull-moved.result
    c.pull-moved.ensures.last c.composite_of-composite.result c.entered.result
    (c.composite_of-composite.ensures.says k.object k.begins) c.entered.ensures fits c.set_composite.new.heap
    (c.set_composite.ensures.says k.object k.begins)

pub returns-clause-right : goal.returns-clause-right
returns-clause-right g c =
    let below = below-last c.args.self.now c.pull-moved.new.self c.args.gap c.len.result c.pull-moved.ensures.entries
    c.len.ensures c.requires.within c.if-gap-len.false in
    let k = last-counted c.args.self.now c.args.heap.now c.args.gap c.requires.gap below c.pull-moved.result
    c.pull-moved.ensures.last in
    let fits = subst FitsWord (sym c.entered.ensures)
    (fits-entry c.args.gap c.composite_of-composite.result c.requires.few c.composite_of-composite.ensures.fits) in
    subst (λ (t : Table). IsRight t c.set_composite.new.heap) (sym c.pull-moved.ensures.entries)
    (closed-right c.args.self.now c.args.heap.now c.args.gap c.requires.gap below c.pull-moved.result
    c.pull-moved.ensures.last c.composite_of-composite.result c.entered.result
    (c.composite_of-composite.ensures.says k.object k.begins) c.entered.ensures fits c.set_composite.new.heap
    (c.set_composite.ensures.says k.object k.begins))
