use Rattle.std.proofs.Common.{sym, ap, ◌∙◌, subst, arith}
use Rattle.mm_count.specs.declared.composite.Composite.{Composite}
use Rattle.mm_count.specs.Composite.{FitsWord, IsComposite}
use Rattle.mm_count.specs.Counts.{raised}
use Rattle.mm_count.proofs.Composites.{fits-above, composite-above}
use Rattle.mm_count.proofs.Places.{keeps}
use Rattle.mm_count.proofs.Counted.{counted-raised}
use Rattle.mm_count.proofs.Stores.Changes.{composite-said, place-within, raise-kept, raise-gives, kept-right, left-gap}
use Rattle.mm_count.proofs.Views.{rest-changed, raised-views, raised-unpinned, raised-listed}
use Rattle.mm_count.proofs.table.ZeroTable.raise.Goals as goal

pub returns-then-composite-clause-heap : goal.returns-then-composite-clause-heap
returns-then-composite-clause-heap g c =
    let k = c.requires.counted in
    raise-kept c.args.heap.now c.args.base k c.composite_of-composite.result
    (c.composite_of-composite.ensures.says k.object k.begins) c.if-composite.true

pub returns-then-composite-clause-counts : goal.returns-then-composite-clause-counts
returns-then-composite-clause-counts g c =
    let k = c.requires.counted in
    counted-raised c.args.heap.now c.args.heap.now c.args.base k.object k.begins
    ((c.requires.right.spelled c.args.base k.object k.begins).counted k.counted)
    (returns-then-composite-clause-heap g c)

pub returns-then-composite-clause-objects : goal.returns-then-composite-clause-objects
returns-then-composite-clause-objects g c =
    let k = c.requires.counted in
    keeps c.args.heap.now c.args.heap.now raised c.args.base k.object k.begins (returns-then-composite-clause-heap g c)

pub raised-requires : goal.raised-requires
raised-requires g c =
    let k = c.requires.counted in
    let is = composite-said c.args.heap.now c.args.base k c.composite_of-composite.result
    (c.composite_of-composite.ensures.says k.object k.begins) c.args.self.now c.requires.right in
    let most = is.exact c.if-composite.false in
    omega arith

pub set_composite-requires-clause-fits : goal.set_composite-requires-clause-fits
set_composite-requires-clause-fits g c =
    let k = c.requires.counted in
    let is = composite-said c.args.heap.now c.args.base k c.composite_of-composite.result
    (c.composite_of-composite.ensures.says k.object k.begins) c.args.self.now c.requires.right in
    subst FitsWord (sym c.raised.ensures) (fits-above c.composite_of-composite.result (is.exact c.if-composite.false))

pub close_gap-requires-clause-gap : goal.close_gap-requires-clause-gap
close_gap-requires-clause-gap g c =
    let k = c.requires.counted in
    let r = c.composite_of-composite.result in
    let says = c.composite_of-composite.ensures.says k.object k.begins in
    let is = composite-said c.args.heap.now c.args.base k r says c.args.self.now c.requires.right in
    let most = is.exact c.if-composite.false in
    left-gap c.args.heap.now c.args.base k r says c.set_composite.new.heap c.raised.result
    (c.set_composite.ensures.says k.object k.begins) (subst FitsWord (sym c.raised.ensures) (fits-above r most))
    c.args.self.now (subst IsComposite (sym c.raised.ensures) (composite-above r most)) c.if-composite-2.true
    (ap (λ (r : Composite). r.listed) c.raised.ensures) c.requires.right

pub close_gap-requires-clause-within : goal.close_gap-requires-clause-within
close_gap-requires-clause-within g c =
    let k = c.requires.counted in
    place-within c.args.heap.now c.args.base k c.composite_of-composite.result
    (c.composite_of-composite.ensures.says k.object k.begins) c.args.self.now c.requires.right c.if-composite-2.true

pub returns-then-composite-2-clause-heap : goal.returns-then-composite-2-clause-heap
returns-then-composite-2-clause-heap g c =
    let k = c.requires.counted in
    let r = c.composite_of-composite.result in
    let says = c.composite_of-composite.ensures.says k.object k.begins in
    let is = composite-said c.args.heap.now c.args.base k r says c.args.self.now c.requires.right in
    c.close_gap.ensures.heap
    ∙ raise-gives c.args.heap.now c.args.base k r says c.set_composite.new.heap c.raised.result
    (c.set_composite.ensures.says k.object k.begins)
    (subst FitsWord (sym c.raised.ensures) (fits-above r (is.exact c.if-composite.false))) c.raised.ensures
    c.if-composite.false

pub returns-then-composite-2-clause-counts : goal.returns-then-composite-2-clause-counts
returns-then-composite-2-clause-counts g c =
    let k = c.requires.counted in
    counted-raised c.args.heap.now c.close_gap.new.heap c.args.base k.object k.begins
    ((c.requires.right.spelled c.args.base k.object k.begins).counted k.counted)
    (returns-then-composite-2-clause-heap g c)

pub returns-then-composite-2-clause-objects : goal.returns-then-composite-2-clause-objects
returns-then-composite-2-clause-objects g c =
    let k = c.requires.counted in
    keeps c.args.heap.now c.close_gap.new.heap raised c.args.base k.object k.begins
    (returns-then-composite-2-clause-heap g c)

pub returns-else-composite-2-clause-heap : goal.returns-else-composite-2-clause-heap
returns-else-composite-2-clause-heap g c =
    let k = c.requires.counted in
    let r = c.composite_of-composite.result in
    let says = c.composite_of-composite.ensures.says k.object k.begins in
    let is = composite-said c.args.heap.now c.args.base k r says c.args.self.now c.requires.right in
    raise-gives c.args.heap.now c.args.base k r says c.set_composite.new.heap c.raised.result
    (c.set_composite.ensures.says k.object k.begins)
    (subst FitsWord (sym c.raised.ensures) (fits-above r (is.exact c.if-composite.false))) c.raised.ensures
    c.if-composite.false

pub returns-else-composite-2-clause-counts : goal.returns-else-composite-2-clause-counts
returns-else-composite-2-clause-counts g c =
    let k = c.requires.counted in
    counted-raised c.args.heap.now c.set_composite.new.heap c.args.base k.object k.begins
    ((c.requires.right.spelled c.args.base k.object k.begins).counted k.counted)
    (returns-else-composite-2-clause-heap g c)

pub returns-else-composite-2-clause-objects : goal.returns-else-composite-2-clause-objects
returns-else-composite-2-clause-objects g c =
    let k = c.requires.counted in
    keeps c.args.heap.now c.set_composite.new.heap raised c.args.base k.object k.begins
    (returns-else-composite-2-clause-heap g c)

pub returns-else-composite-2-clause-right : goal.returns-else-composite-2-clause-right
returns-else-composite-2-clause-right g c =
    let k = c.requires.counted in
    let r = c.composite_of-composite.result in
    let says = c.composite_of-composite.ensures.says k.object k.begins in
    let is = composite-said c.args.heap.now c.args.base k r says c.args.self.now c.requires.right in
    let most = is.exact c.if-composite.false in
    let out = c.if-composite-2.false in
    kept-right c.args.heap.now c.args.base k r says c.set_composite.new.heap c.raised.result
    (c.set_composite.ensures.says k.object k.begins) (subst FitsWord (sym c.raised.ensures) (fits-above r most))
    c.args.self.now (subst IsComposite (sym c.raised.ensures) (composite-above r most))
    (ap (λ (r : Composite). r.listed) c.raised.ensures ∙ sym out)
    (ap (λ (r : Composite). r.place) c.raised.ensures ∙ sym (is.unlisted out)) c.requires.right

pub returns-then-composite-clause-rest : goal.returns-then-composite-clause-rest
returns-then-composite-clause-rest g c =
    rest-changed c.args.heap.now c.args.heap.now raised c.args.base (returns-then-composite-clause-heap g c)

pub returns-then-composite-clause-views : goal.returns-then-composite-clause-views
returns-then-composite-clause-views g c =
    let k = c.requires.counted in
    let is = (c.requires.right.spelled c.args.base k.object k.begins).counted k.counted in
    raised-views c.args.heap.now c.args.heap.now c.args.base k.object k.begins is (returns-then-composite-clause-heap
    g c) k.counted

pub returns-then-composite-clause-unpinned : goal.returns-then-composite-clause-unpinned
returns-then-composite-clause-unpinned g c =
    let k = c.requires.counted in
    let is = (c.requires.right.spelled c.args.base k.object k.begins).counted k.counted in
    raised-unpinned c.args.heap.now c.args.heap.now c.args.base k.object k.begins is
    (returns-then-composite-clause-heap g c)

pub returns-then-composite-clause-listed : goal.returns-then-composite-clause-listed
returns-then-composite-clause-listed g c =
    let k = c.requires.counted in
    let is = (c.requires.right.spelled c.args.base k.object k.begins).counted k.counted in
    raised-listed c.args.heap.now c.args.heap.now c.args.base k.object k.begins is (returns-then-composite-clause-heap
    g c)

pub returns-then-composite-2-clause-rest : goal.returns-then-composite-2-clause-rest
returns-then-composite-2-clause-rest g c =
    rest-changed c.args.heap.now c.close_gap.new.heap raised c.args.base (returns-then-composite-2-clause-heap g c)

pub returns-then-composite-2-clause-views : goal.returns-then-composite-2-clause-views
returns-then-composite-2-clause-views g c =
    let k = c.requires.counted in
    let is = (c.requires.right.spelled c.args.base k.object k.begins).counted k.counted in
    raised-views c.args.heap.now c.close_gap.new.heap c.args.base k.object k.begins is
    (returns-then-composite-2-clause-heap g c) k.counted

pub returns-then-composite-2-clause-unpinned : goal.returns-then-composite-2-clause-unpinned
returns-then-composite-2-clause-unpinned g c =
    let k = c.requires.counted in
    let is = (c.requires.right.spelled c.args.base k.object k.begins).counted k.counted in
    raised-unpinned c.args.heap.now c.close_gap.new.heap c.args.base k.object k.begins is
    (returns-then-composite-2-clause-heap g c)

pub returns-then-composite-2-clause-listed : goal.returns-then-composite-2-clause-listed
returns-then-composite-2-clause-listed g c =
    let k = c.requires.counted in
    let is = (c.requires.right.spelled c.args.base k.object k.begins).counted k.counted in
    raised-listed c.args.heap.now c.close_gap.new.heap c.args.base k.object k.begins is
    (returns-then-composite-2-clause-heap g c)

pub returns-else-composite-2-clause-rest : goal.returns-else-composite-2-clause-rest
returns-else-composite-2-clause-rest g c =
    rest-changed c.args.heap.now c.set_composite.new.heap raised c.args.base (returns-else-composite-2-clause-heap g c)

pub returns-else-composite-2-clause-views : goal.returns-else-composite-2-clause-views
returns-else-composite-2-clause-views g c =
    let k = c.requires.counted in
    let is = (c.requires.right.spelled c.args.base k.object k.begins).counted k.counted in
    raised-views c.args.heap.now c.set_composite.new.heap c.args.base k.object k.begins is
    (returns-else-composite-2-clause-heap g c) k.counted

pub returns-else-composite-2-clause-unpinned : goal.returns-else-composite-2-clause-unpinned
returns-else-composite-2-clause-unpinned g c =
    let k = c.requires.counted in
    let is = (c.requires.right.spelled c.args.base k.object k.begins).counted k.counted in
    raised-unpinned c.args.heap.now c.set_composite.new.heap c.args.base k.object k.begins is
    (returns-else-composite-2-clause-heap g c)

pub returns-else-composite-2-clause-listed : goal.returns-else-composite-2-clause-listed
returns-else-composite-2-clause-listed g c =
    let k = c.requires.counted in
    let is = (c.requires.right.spelled c.args.base k.object k.begins).counted k.counted in
    raised-listed c.args.heap.now c.set_composite.new.heap c.args.base k.object k.begins is
    (returns-else-composite-2-clause-heap g c)
