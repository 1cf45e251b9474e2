use Rattle.std.proofs.Common.{◌+◌, ◌≤◌, length, subst, arith}
use Rattle.mm_model.proofs.View.ByBase.Entries.{begins_same}
use Rattle.mm_object.specs.Object.{StoredObject}
use Rattle.mm_gc.proofs.BareWords.Slots.{none-written, part-begins, next-slot, next-written}
use Rattle.mm_gc.proofs.bare_words.write_slots.Goals as goal

pub loop-k-init : goal.loop-k-init
loop-k-init g c =
    record {
      written = λ object begins. none-written c.args.heap.now c.args.base c.args.s c.args.words.now object begins;
      sound = c.requires.sound;
      cost = omega arith;
    }

pub set_slot-requires : goal.set_slot-requires
set_slot-requires g c =
    let slots = c.requires.slots in
    next-slot c.args.heap.now c.args.base c.args.s c.args.words.now slots.object slots.begins slots.within
    c.loop-k.heap c.loop-k.k (omega (arith, c.loop-k-test.true)) (c.loop-k.invariant.written slots.object slots.begins)

pub loop-k-preserved : goal.loop-k-preserved
loop-k-preserved g c =
    let slots = c.requires.slots in
    let h = c.args.heap.now in
    let heap = c.loop-k.heap in
    let words = c.args.words.now in
    let below = c.loop-k-test.true in
    record {
      written = λ object begins.
          let fits = subst (λ (x : StoredObject). c.args.s + length words ≤ length x.words)
          (begins_same h.objects c.args.base slots.object object slots.begins begins) slots.within in
          let so_far = c.loop-k.invariant.written object begins in
          next-written h c.args.base c.args.s words object begins fits heap c.loop-k.k below so_far
          c.set_slot.new.self
          (c.set_slot.ensures.slot _
          (part-begins h c.args.base c.args.s words object begins fits heap c.loop-k.k below so_far));
      sound = c.set_slot.ensures.sound;
      cost = omega (arith, c.set_slot.ensures.cost, c.loop-k.invariant.cost);
    }
