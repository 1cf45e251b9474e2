use Rattle.std.proofs.Common.{sym, ap, ◌∙◌, subst}
use Rattle.mm_count.specs.declared.composite.Composite.{Composite}
use Rattle.mm_count.specs.Composite.{FitsWord, IsComposite}
use Rattle.mm_count.specs.Counts.{left}
use Rattle.mm_count.proofs.Composites.{not-true_is, not-false_is, fits-left, composite-left}
use Rattle.mm_count.proofs.Places.{keeps}
use Rattle.mm_count.proofs.Counted.{counted-left}
use Rattle.mm_count.proofs.Stores.Changes.{composite-said, place-within, leave-kept, leave-gives, left-gap}
use Rattle.mm_count.proofs.Views.{rest-changed, left-views, left-unpinned}
use Rattle.mm_count.proofs.Leaving.{left-apart, left-pins, left-others}
use Rattle.mm_count.proofs.table.ZeroTable.leave.Goals as goal

pub returns-then-not-composite-clause-heap : goal.returns-then-not-composite-clause-heap
returns-then-not-composite-clause-heap g c =
    let k = c.requires.counted in
    leave-kept c.args.heap.now c.args.base k c.composite_of-composite.result
    (c.composite_of-composite.ensures.says k.object k.begins) (not-true_is c.composite_of-composite.result.listed
    c.if-not-composite.true)

pub returns-then-not-composite-clause-objects : goal.returns-then-not-composite-clause-objects
returns-then-not-composite-clause-objects g c =
    let k = c.requires.counted in
    keeps c.args.heap.now c.args.heap.now left c.args.base k.object k.begins
    (returns-then-not-composite-clause-heap g c)

pub close_gap-requires-clause-gap : goal.close_gap-requires-clause-gap
close_gap-requires-clause-gap g c =
    let k = c.requires.counted in
    let r = c.composite_of-composite.result in
    let says = c.composite_of-composite.ensures.says k.object k.begins in
    let is = composite-said c.args.heap.now c.args.base k r says c.args.self.now c.requires.right in
    left-gap c.args.heap.now c.args.base k r says c.set_composite.new.heap c.left.result
    (c.set_composite.ensures.says k.object k.begins)
    (subst FitsWord (sym c.left.ensures) (fits-left r c.composite_of-composite.ensures.fits))
    c.args.self.now (subst IsComposite (sym c.left.ensures) (composite-left r is)) (not-false_is
    c.composite_of-composite.result.listed c.if-not-composite.false)
    (ap (λ (r : Composite). r.listed) c.left.ensures) c.requires.right

pub close_gap-requires-clause-within : goal.close_gap-requires-clause-within
close_gap-requires-clause-within g c =
    let k = c.requires.counted in
    place-within c.args.heap.now c.args.base k c.composite_of-composite.result
    (c.composite_of-composite.ensures.says k.object k.begins) c.args.self.now c.requires.right
    (not-false_is c.composite_of-composite.result.listed c.if-not-composite.false)

pub returns-clause-heap : goal.returns-clause-heap
returns-clause-heap g c =
    let k = c.requires.counted in
    let r = c.composite_of-composite.result in
    c.close_gap.ensures.heap
    ∙ leave-gives c.args.heap.now c.args.base k r (c.composite_of-composite.ensures.says k.object k.begins)
    c.set_composite.new.heap c.left.result (c.set_composite.ensures.says k.object k.begins)
    (subst FitsWord (sym c.left.ensures) (fits-left r c.composite_of-composite.ensures.fits)) c.left.ensures

pub returns-clause-counts : goal.returns-clause-counts
returns-clause-counts g c =
    let k = c.requires.counted in
    counted-left c.args.heap.now c.close_gap.new.heap c.args.base k.object k.begins
    ((c.requires.right.spelled c.args.base k.object k.begins).counted k.counted) (returns-clause-heap g c)

pub returns-clause-objects : goal.returns-clause-objects
returns-clause-objects g c =
    let k = c.requires.counted in
    keeps c.args.heap.now c.close_gap.new.heap left c.args.base k.object k.begins (returns-clause-heap g c)

pub returns-then-not-composite-clause-rest : goal.returns-then-not-composite-clause-rest
returns-then-not-composite-clause-rest g c =
    rest-changed c.args.heap.now c.args.heap.now left c.args.base (returns-then-not-composite-clause-heap g c)

pub returns-then-not-composite-clause-views : goal.returns-then-not-composite-clause-views
returns-then-not-composite-clause-views g c =
    let k = c.requires.counted in
    let is = (c.requires.right.spelled c.args.base k.object k.begins).counted k.counted in
    left-views c.args.heap.now c.args.heap.now c.args.base k.object k.begins is
    (returns-then-not-composite-clause-heap g c)

pub returns-then-not-composite-clause-unpinned : goal.returns-then-not-composite-clause-unpinned
returns-then-not-composite-clause-unpinned g c =
    let k = c.requires.counted in
    let is = (c.requires.right.spelled c.args.base k.object k.begins).counted k.counted in
    left-unpinned c.args.heap.now c.args.heap.now c.args.base k.object k.begins is
    (returns-then-not-composite-clause-heap g c)

pub returns-clause-rest : goal.returns-clause-rest
returns-clause-rest g c =
    rest-changed c.args.heap.now c.close_gap.new.heap left c.args.base (returns-clause-heap g c)

pub returns-clause-views : goal.returns-clause-views
returns-clause-views g c =
    let k = c.requires.counted in
    let is = (c.requires.right.spelled c.args.base k.object k.begins).counted k.counted in
    left-views c.args.heap.now c.close_gap.new.heap c.args.base k.object k.begins is (returns-clause-heap g c)

pub returns-clause-unpinned : goal.returns-clause-unpinned
returns-clause-unpinned g c =
    let k = c.requires.counted in
    let is = (c.requires.right.spelled c.args.base k.object k.begins).counted k.counted in
    left-unpinned c.args.heap.now c.close_gap.new.heap c.args.base k.object k.begins is (returns-clause-heap g c)

pub returns-then-not-composite-clause-pins : goal.returns-then-not-composite-clause-pins
returns-then-not-composite-clause-pins g c =
    let k = c.requires.counted in
    let is = (c.requires.right.spelled c.args.base k.object k.begins).counted k.counted in
    left-pins c.args.heap.now c.args.heap.now c.args.base k.object k.begins is (returns-then-not-composite-clause-heap
    g c)

pub returns-then-not-composite-clause-others : goal.returns-then-not-composite-clause-others
returns-then-not-composite-clause-others g c =
    let k = c.requires.counted in
    let is = (c.requires.right.spelled c.args.base k.object k.begins).counted k.counted in
    left-others c.args.heap.now c.args.heap.now c.args.base k.object k.begins is
    (returns-then-not-composite-clause-heap g c)

pub returns-then-not-composite-clause-apart : goal.returns-then-not-composite-clause-apart
returns-then-not-composite-clause-apart g c =
    let k = c.requires.counted in
    let is = (c.requires.right.spelled c.args.base k.object k.begins).counted k.counted in
    left-apart c.args.heap.now c.args.heap.now c.args.base k.object k.begins is
    (returns-then-not-composite-clause-heap g c)

pub returns-clause-pins : goal.returns-clause-pins
returns-clause-pins g c =
    let k = c.requires.counted in
    let is = (c.requires.right.spelled c.args.base k.object k.begins).counted k.counted in
    left-pins c.args.heap.now c.close_gap.new.heap c.args.base k.object k.begins is (returns-clause-heap g c)

pub returns-clause-others : goal.returns-clause-others
returns-clause-others g c =
    let k = c.requires.counted in
    let is = (c.requires.right.spelled c.args.base k.object k.begins).counted k.counted in
    left-others c.args.heap.now c.close_gap.new.heap c.args.base k.object k.begins is (returns-clause-heap g c)

pub returns-clause-apart : goal.returns-clause-apart
returns-clause-apart g c =
    let k = c.requires.counted in
    let is = (c.requires.right.spelled c.args.base k.object k.begins).counted k.counted in
    left-apart c.args.heap.now c.close_gap.new.heap c.args.base k.object k.begins is (returns-clause-heap g c)
