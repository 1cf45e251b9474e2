use Rattle.std.proofs.Common.{sym, ap, subst}
use Rattle.mm_count.specs.declared.composite.Composite.{Composite}
use Rattle.mm_count.specs.Composite.{FitsWord, IsComposite}
use Rattle.mm_count.specs.Counts.{with_pin}
use Rattle.mm_count.proofs.Composites.{fits-pin, composite-pin}
use Rattle.mm_count.proofs.Places.{keeps}
use Rattle.mm_count.proofs.Counted.{counted-pinned}
use Rattle.mm_count.proofs.Stores.Changes.{composite-said, pin-gives, kept-right}
use Rattle.mm_count.proofs.Views.{rest-changed, pinned-views}
use Rattle.mm_count.proofs.Leaving.{pinned-apart, pinned-one, pinned-listed}
use Rattle.mm_count.proofs.table.ZeroTable.set_pin.Goals as goal

pub set_composite-requires-clause-fits : goal.set_composite-requires-clause-fits
set_composite-requires-clause-fits g c =
    subst FitsWord (sym c.with_pin.ensures)
    (fits-pin c.args.pinned c.composite_of-composite.result c.composite_of-composite.ensures.fits)

pub returns-clause-heap : goal.returns-clause-heap
returns-clause-heap g c =
    let k = c.requires.counted in
    let r = c.composite_of-composite.result in
    pin-gives c.args.heap.now c.args.base k r (c.composite_of-composite.ensures.says k.object k.begins)
    c.set_composite.new.heap c.with_pin.result (c.set_composite.ensures.says k.object k.begins)
    (subst FitsWord (sym c.with_pin.ensures) (fits-pin c.args.pinned r c.composite_of-composite.ensures.fits))
    c.args.pinned c.with_pin.ensures

pub returns-clause-counts : goal.returns-clause-counts
returns-clause-counts g c =
    let k = c.requires.counted in
    counted-pinned c.args.heap.now c.set_composite.new.heap c.args.base k.object k.begins
    ((c.requires.right.spelled c.args.base k.object k.begins).counted k.counted) c.args.pinned (returns-clause-heap g c)

pub returns-clause-objects : goal.returns-clause-objects
returns-clause-objects g c =
    let k = c.requires.counted in
    keeps c.args.heap.now c.set_composite.new.heap (with_pin c.args.pinned) c.args.base k.object k.begins
    (returns-clause-heap g c)

pub returns-clause-right : goal.returns-clause-right
returns-clause-right g c =
    let k = c.requires.counted in
    let r = c.composite_of-composite.result in
    let says = c.composite_of-composite.ensures.says k.object k.begins in
    let is = composite-said c.args.heap.now c.args.base k r says c.args.self.now c.requires.right in
    kept-right c.args.heap.now c.args.base k r says c.set_composite.new.heap c.with_pin.result
    (c.set_composite.ensures.says k.object k.begins)
    (subst FitsWord (sym c.with_pin.ensures) (fits-pin c.args.pinned r c.composite_of-composite.ensures.fits))
    c.args.self.now (subst IsComposite (sym c.with_pin.ensures) (composite-pin c.args.pinned r is))
    (ap (λ (r : Composite). r.listed) c.with_pin.ensures) (ap (λ (r : Composite). r.place) c.with_pin.ensures)
    c.requires.right

pub returns-clause-rest : goal.returns-clause-rest
returns-clause-rest g c =
    rest-changed c.args.heap.now c.set_composite.new.heap (with_pin c.args.pinned) c.args.base (returns-clause-heap g c)

pub returns-clause-views : goal.returns-clause-views
returns-clause-views g c =
    let k = c.requires.counted in
    let is = (c.requires.right.spelled c.args.base k.object k.begins).counted k.counted in
    pinned-views c.args.heap.now c.set_composite.new.heap c.args.base k.object k.begins is c.args.pinned
    (returns-clause-heap g c)

pub returns-clause-pinned : goal.returns-clause-pinned
returns-clause-pinned g c =
    let k = c.requires.counted in
    let is = (c.requires.right.spelled c.args.base k.object k.begins).counted k.counted in
    pinned-one c.args.heap.now c.set_composite.new.heap c.args.base k.object k.begins is
    c.args.pinned (returns-clause-heap g c)

pub returns-clause-listed : goal.returns-clause-listed
returns-clause-listed g c =
    let k = c.requires.counted in
    let is = (c.requires.right.spelled c.args.base k.object k.begins).counted k.counted in
    pinned-listed c.args.heap.now c.set_composite.new.heap c.args.base k.object k.begins is
    c.args.pinned (returns-clause-heap g c) k.counted

pub returns-clause-apart : goal.returns-clause-apart
returns-clause-apart g c =
    let k = c.requires.counted in
    let is = (c.requires.right.spelled c.args.base k.object k.begins).counted k.counted in
    pinned-apart c.args.heap.now c.set_composite.new.heap c.args.base k.object k.begins is
    c.args.pinned (returns-clause-heap g c)
