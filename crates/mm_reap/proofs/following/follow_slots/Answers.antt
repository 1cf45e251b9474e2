use Rattle.std.proofs.Common.{sym, ap, subst, arith}
use Rattle.mm_model.specs.Views.GoodView.{HoldTight}
use Rattle.mm_model.specs.declared.object.Shape.{Shape}
use Rattle.mm_count.proofs.Tables.{same-table}
use Rattle.mm_reap.proofs.Recounted.{counted-to, recounted-both}
use Rattle.mm_reap.proofs.Filled.{filled-both}
use Rattle.mm_reap.proofs.Slots.{slots-at, slot-at, none-named}
use Rattle.mm_reap.proofs.following.follow_slots.Goals as goal

pub follow_slot-found-requires-clause-slot : goal.follow_slot-found-requires-clause-slot
follow_slot-found-requires-clause-slot g c =
    let k = c.requires.counted in
    let now = counted-to c.args.heap.now.objects c.loop-s.heap.objects c.loop-s.invariant.heap.objects c.args.base k in
    let counted = ap (λ (shape : Shape). shape.counted) (c.shape-s-end.ensures.shape k.object k.begins) in
    slot-at c.loop-s.heap c.loop-s.invariant.reaped.sound c.args.base now c.loop-s.s (omega arith)

pub follow_slot-found-requires-clause-tight : goal.follow_slot-found-requires-clause-tight
follow_slot-found-requires-clause-tight g c =
    subst HoldTight (sym c.loop-s.invariant.heap.views) c.requires.tight

pub loop-s-preserved : goal.loop-s-preserved
loop-s-preserved g c = record {
  few = omega (arith, c.loop-s.invariant.few, c.follow_slot-found.ensures.few);
  pinned = c.follow_slot-found.ensures.pinned;
  filled = filled-both c.args.dead.now c.loop-s.dead c.follow_slot-found.new.dead c.args.k c.loop-s.found
      c.follow_slot-found.result c.loop-s.invariant.filled c.follow_slot-found.ensures.filled;
  reaped = c.follow_slot-found.ensures.reaped;
  reapable = λ stack dropped outside are.
      c.follow_slot-found.ensures.reapable stack dropped outside
      (c.loop-s.invariant.reapable stack dropped outside are);
  table = same-table c.args.count.now c.loop-s.count c.follow_slot-found.new.count c.loop-s.invariant.table
      c.follow_slot-found.ensures.table;
  heap = recounted-both c.args.heap.now c.loop-s.heap c.follow_slot-found.new.heap c.loop-s.invariant.heap
      c.follow_slot-found.ensures.heap;
  cost = omega (arith, c.loop-s.invariant.cost, c.follow_slot-found.ensures.cost);
}

pub returns-clause-few : goal.returns-clause-few
returns-clause-few g c =
    let k = c.requires.counted in
    let counted = ap (λ (shape : Shape). shape.counted) (c.shape-s-end.ensures.shape k.object k.begins) in
    let slots = slots-at c.args.heap.now c.requires.reaped.sound c.args.base k in
    let few = c.loop-s.invariant.few in
    omega arith

pub returns-clause-pinned : goal.returns-clause-pinned
returns-clause-pinned g c =
    let k = c.requires.counted in
    let counted = ap (λ (shape : Shape). shape.counted) (c.shape-s-end.ensures.shape k.object k.begins) in
    let now = counted-to c.args.heap.now.objects c.loop-s.heap.objects c.loop-s.invariant.heap.objects c.args.base k in
    none-named c.loop-s.heap c.loop-s.invariant.reaped.sound c.args.base now c.loop-s.s (omega arith)
    c.loop-s.invariant.pinned

pub returns-clause-cost : goal.returns-clause-cost
returns-clause-cost g c =
    let k = c.requires.counted in
    let counted = ap (λ (shape : Shape). shape.counted) (c.shape-s-end.ensures.shape k.object k.begins) in
    let slots = slots-at c.args.heap.now c.requires.reaped.sound c.args.base k in
    let cost = c.loop-s.invariant.cost in
    let shape = c.shape-s-end.ensures.cost in
    omega arith
