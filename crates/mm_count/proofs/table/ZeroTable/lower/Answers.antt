use Rattle.std.proofs.Common.{◌≢◌, length, sym, ap, ◌∙◌, subst}
use Rattle.mm_count.specs.declared.composite.Composite.{Composite}
use Rattle.mm_count.specs.Composite.{FitsWord, IsComposite}
use Rattle.mm_count.specs.Counts.{lowered}
use Rattle.mm_count.specs.Kept.{with_entry_word}
use Rattle.mm_count.proofs.Composites.{fits-below, fits-entry, composite-below}
use Rattle.mm_count.proofs.Places.{keeps}
use Rattle.mm_count.proofs.Counted.{counted-lowered}
use Rattle.mm_count.proofs.Stores.Changes.{composite-said, lower-kept, lower-gives, lower-enters, kept-right, some-said}
use Rattle.mm_count.proofs.Stores.Changes.{out-said}
use Rattle.mm_count.proofs.Views.{rest-changed, lowered-views, lowered-pins, lowered-unpinned, lowered-listed}
use Rattle.mm_count.proofs.Views.{lowered-names}
use Rattle.mm_count.proofs.table.ZeroTable.lower.Goals as goal

pub returns-then-old-clause-heap : goal.returns-then-old-clause-heap
returns-then-old-clause-heap g c =
    let k = c.requires.counted in
    lower-kept c.args.heap.now c.args.base k c.composite_of-old.result
    (c.composite_of-old.ensures.says k.object k.begins) c.if-old.true

pub returns-then-old-clause-counts : goal.returns-then-old-clause-counts
returns-then-old-clause-counts g c =
    let k = c.requires.counted in
    counted-lowered c.args.heap.now c.args.heap.now c.args.base k.object k.begins
    ((c.requires.right.spelled c.args.base k.object k.begins).counted k.counted)
    (some-said c.args.heap.now.objects c.args.base k c.requires.some) (returns-then-old-clause-heap g c)

pub returns-then-old-clause-objects : goal.returns-then-old-clause-objects
returns-then-old-clause-objects g c =
    let k = c.requires.counted in
    keeps c.args.heap.now c.args.heap.now lowered c.args.base k.object k.begins
    (returns-then-old-clause-heap g c)

pub returns-then-old-eq1-clause-heap : goal.returns-then-old-eq1-clause-heap
returns-then-old-eq1-clause-heap g c =
    let k = c.requires.counted in
    let r = c.composite_of-old.result in
    let n = length c.args.self.now.entries in
    let fits = subst FitsWord (sym c.lowered.ensures) (fits-below r c.composite_of-old.ensures.fits) in
    lower-enters c.args.heap.now c.args.base k r (c.composite_of-old.ensures.says k.object k.begins)
    c.enter.new.heap (with_entry_word n c.lowered.result) (c.enter.ensures.heap k.object k.begins)
    (fits-entry n c.lowered.result c.enter.ensures.few fits) n
    (ap (with_entry_word n) c.lowered.ensures) c.if-old.false c.if-old-eq1.true

pub returns-then-old-eq1-clause-counts : goal.returns-then-old-eq1-clause-counts
returns-then-old-eq1-clause-counts g c =
    let k = c.requires.counted in
    counted-lowered c.args.heap.now c.enter.new.heap c.args.base k.object k.begins
    ((c.requires.right.spelled c.args.base k.object k.begins).counted k.counted)
    (some-said c.args.heap.now.objects c.args.base k c.requires.some) (returns-then-old-eq1-clause-heap g c)

pub returns-then-old-eq1-clause-objects : goal.returns-then-old-eq1-clause-objects
returns-then-old-eq1-clause-objects g c =
    let k = c.requires.counted in
    keeps c.args.heap.now c.enter.new.heap lowered c.args.base k.object k.begins
    (returns-then-old-eq1-clause-heap g c)

pub returns-clause-heap : goal.returns-clause-heap
returns-clause-heap g c =
    let k = c.requires.counted in
    let r = c.composite_of-old.result in
    let says = c.composite_of-old.ensures.says k.object k.begins in
    let is = composite-said c.args.heap.now c.args.base k r says c.args.self.now c.requires.right in
    let some = some-said c.args.heap.now.objects c.args.base k c.requires.some in
    let out = out-said c.args.heap.now c.args.base k r says is some c.if-old.false in
    let fits = subst FitsWord (sym c.lowered-2.ensures) (fits-below r c.composite_of-old.ensures.fits) in
    lower-gives c.args.heap.now c.args.base k r says c.set_composite.new.heap c.lowered-2.result
    (c.set_composite.ensures.says k.object k.begins) fits c.lowered-2.ensures c.if-old.false out
    c.if-old-eq1.false

pub returns-clause-counts : goal.returns-clause-counts
returns-clause-counts g c =
    let k = c.requires.counted in
    counted-lowered c.args.heap.now c.set_composite.new.heap c.args.base k.object k.begins
    ((c.requires.right.spelled c.args.base k.object k.begins).counted k.counted)
    (some-said c.args.heap.now.objects c.args.base k c.requires.some) (returns-clause-heap g c)

pub returns-clause-objects : goal.returns-clause-objects
returns-clause-objects g c =
    let k = c.requires.counted in
    keeps c.args.heap.now c.set_composite.new.heap lowered c.args.base k.object k.begins (returns-clause-heap g c)

pub returns-clause-right : goal.returns-clause-right
returns-clause-right g c =
    let k = c.requires.counted in
    let r = c.composite_of-old.result in
    let says = c.composite_of-old.ensures.says k.object k.begins in
    let is = composite-said c.args.heap.now c.args.base k r says c.args.self.now c.requires.right in
    let some = some-said c.args.heap.now.objects c.args.base k c.requires.some in
    let zero : r.count ≢ 0 = λ e. some
    (sym (ap (λ (r : Composite). r.sticky) says) ∙ c.if-old.false)
    (sym (ap (λ (r : Composite). r.count) says) ∙ e) in
    let fits = subst FitsWord (sym c.lowered-2.ensures) (fits-below r c.composite_of-old.ensures.fits) in
    kept-right c.args.heap.now c.args.base k r says c.set_composite.new.heap c.lowered-2.result
    (c.set_composite.ensures.says k.object k.begins) fits c.args.self.now
    (subst IsComposite (sym c.lowered-2.ensures) (composite-below r is c.if-old.false zero))
    (ap (λ (r : Composite). r.listed) c.lowered-2.ensures) (ap (λ (r : Composite). r.place) c.lowered-2.ensures)
    c.requires.right

pub returns-then-old-clause-rest : goal.returns-then-old-clause-rest
returns-then-old-clause-rest g c =
    rest-changed c.args.heap.now c.args.heap.now lowered c.args.base (returns-then-old-clause-heap g c)

pub returns-then-old-clause-views : goal.returns-then-old-clause-views
returns-then-old-clause-views g c =
    let k = c.requires.counted in
    let is = (c.requires.right.spelled c.args.base k.object k.begins).counted k.counted in
    lowered-views c.args.heap.now c.args.heap.now c.args.base k.object k.begins is (returns-then-old-clause-heap g c)

pub returns-then-old-clause-pins : goal.returns-then-old-clause-pins
returns-then-old-clause-pins g c =
    let k = c.requires.counted in
    let is = (c.requires.right.spelled c.args.base k.object k.begins).counted k.counted in
    lowered-pins c.args.heap.now c.args.heap.now c.args.base k.object k.begins is (returns-then-old-clause-heap g c)

pub returns-then-old-clause-unpinned : goal.returns-then-old-clause-unpinned
returns-then-old-clause-unpinned g c =
    let k = c.requires.counted in
    let is = (c.requires.right.spelled c.args.base k.object k.begins).counted k.counted in
    lowered-unpinned c.args.heap.now c.args.heap.now c.args.base k.object k.begins is (returns-then-old-clause-heap g c)

pub returns-then-old-clause-listed : goal.returns-then-old-clause-listed
returns-then-old-clause-listed g c =
    let k = c.requires.counted in
    let is = (c.requires.right.spelled c.args.base k.object k.begins).counted k.counted in
    lowered-listed c.args.heap.now c.args.heap.now c.args.base k.object k.begins is (returns-then-old-clause-heap g c)
    (some-said c.args.heap.now.objects c.args.base k c.requires.some)

pub returns-then-old-clause-entered : goal.returns-then-old-clause-entered
returns-then-old-clause-entered g c =
    let k = c.requires.counted in
    let is = (c.requires.right.spelled c.args.base k.object k.begins).counted k.counted in
    lowered-names c.args.heap.now c.args.heap.now c.args.base k.object k.begins is (returns-then-old-clause-heap g c)
    (some-said c.args.heap.now.objects c.args.base k c.requires.some)

pub returns-then-old-eq1-clause-rest : goal.returns-then-old-eq1-clause-rest
returns-then-old-eq1-clause-rest g c =
    rest-changed c.args.heap.now c.enter.new.heap lowered c.args.base (returns-then-old-eq1-clause-heap g c)

pub returns-then-old-eq1-clause-views : goal.returns-then-old-eq1-clause-views
returns-then-old-eq1-clause-views g c =
    let k = c.requires.counted in
    let is = (c.requires.right.spelled c.args.base k.object k.begins).counted k.counted in
    lowered-views c.args.heap.now c.enter.new.heap c.args.base k.object k.begins is (returns-then-old-eq1-clause-heap
    g c)

pub returns-then-old-eq1-clause-pins : goal.returns-then-old-eq1-clause-pins
returns-then-old-eq1-clause-pins g c =
    let k = c.requires.counted in
    let is = (c.requires.right.spelled c.args.base k.object k.begins).counted k.counted in
    lowered-pins c.args.heap.now c.enter.new.heap c.args.base k.object k.begins is (returns-then-old-eq1-clause-heap g
    c)

pub returns-then-old-eq1-clause-unpinned : goal.returns-then-old-eq1-clause-unpinned
returns-then-old-eq1-clause-unpinned g c =
    let k = c.requires.counted in
    let is = (c.requires.right.spelled c.args.base k.object k.begins).counted k.counted in
    lowered-unpinned c.args.heap.now c.enter.new.heap c.args.base k.object k.begins is
    (returns-then-old-eq1-clause-heap g c)

pub returns-then-old-eq1-clause-listed : goal.returns-then-old-eq1-clause-listed
returns-then-old-eq1-clause-listed g c =
    let k = c.requires.counted in
    let is = (c.requires.right.spelled c.args.base k.object k.begins).counted k.counted in
    lowered-listed c.args.heap.now c.enter.new.heap c.args.base k.object k.begins is (returns-then-old-eq1-clause-heap
    g c)
    (some-said c.args.heap.now.objects c.args.base k c.requires.some)

pub returns-then-old-eq1-clause-entered : goal.returns-then-old-eq1-clause-entered
returns-then-old-eq1-clause-entered g c =
    let k = c.requires.counted in
    let is = (c.requires.right.spelled c.args.base k.object k.begins).counted k.counted in
    lowered-names c.args.heap.now c.enter.new.heap c.args.base k.object k.begins is (returns-then-old-eq1-clause-heap
    g c)
    (some-said c.args.heap.now.objects c.args.base k c.requires.some)

pub returns-clause-rest : goal.returns-clause-rest
returns-clause-rest g c =
    rest-changed c.args.heap.now c.set_composite.new.heap lowered c.args.base (returns-clause-heap g c)

pub returns-clause-views : goal.returns-clause-views
returns-clause-views g c =
    let k = c.requires.counted in
    let is = (c.requires.right.spelled c.args.base k.object k.begins).counted k.counted in
    lowered-views c.args.heap.now c.set_composite.new.heap c.args.base k.object k.begins is (returns-clause-heap g c)

pub returns-clause-pins : goal.returns-clause-pins
returns-clause-pins g c =
    let k = c.requires.counted in
    let is = (c.requires.right.spelled c.args.base k.object k.begins).counted k.counted in
    lowered-pins c.args.heap.now c.set_composite.new.heap c.args.base k.object k.begins is (returns-clause-heap g c)

pub returns-clause-unpinned : goal.returns-clause-unpinned
returns-clause-unpinned g c =
    let k = c.requires.counted in
    let is = (c.requires.right.spelled c.args.base k.object k.begins).counted k.counted in
    lowered-unpinned c.args.heap.now c.set_composite.new.heap c.args.base k.object k.begins is (returns-clause-heap g c)

pub returns-clause-listed : goal.returns-clause-listed
returns-clause-listed g c =
    let k = c.requires.counted in
    let is = (c.requires.right.spelled c.args.base k.object k.begins).counted k.counted in
    lowered-listed c.args.heap.now c.set_composite.new.heap c.args.base k.object k.begins is (returns-clause-heap g c)
    (some-said c.args.heap.now.objects c.args.base k c.requires.some)

pub returns-clause-entered : goal.returns-clause-entered
returns-clause-entered g c =
    let k = c.requires.counted in
    let is = (c.requires.right.spelled c.args.base k.object k.begins).counted k.counted in
    lowered-names c.args.heap.now c.set_composite.new.heap c.args.base k.object k.begins is (returns-clause-heap g c)
    (some-said c.args.heap.now.objects c.args.base k c.requires.some)
