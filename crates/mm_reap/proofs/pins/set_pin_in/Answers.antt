use Rattle.mm_reap.proofs.Pinned.{pinned-one, pinned-none}
use Rattle.mm_reap.proofs.Recounted.{recounted-same}
use Rattle.mm_reap.proofs.pins.set_pin_in.Goals as goal

pub returns-in-Some-clause-pins : goal.returns-in-Some-clause-pins
returns-in-Some-clause-pins g c =
    let found = c.in-Some.ensures.base in
    pinned-one c.args.heap.now c.set_pin.new.heap c.counted_in.ensures.sound c.args.word c.in-Some.base c.args.pinned
    found.0 found.1 found.2 c.set_pin.ensures.heap c.set_pin.ensures.objects

pub returns-in-Some-clause-heap : goal.returns-in-Some-clause-heap
returns-in-Some-clause-heap g c =
    record {
      views = c.set_pin.ensures.views;
      objects = c.set_pin.ensures.objects;
      rest = c.set_pin.ensures.rest;
    }

pub returns-in_default-clause-pins : goal.returns-in_default-clause-pins
returns-in_default-clause-pins g c =
    pinned-none c.args.heap.now c.args.word c.args.pinned c.in_default.ensures.base

pub returns-in_default-clause-heap : goal.returns-in_default-clause-heap
returns-in_default-clause-heap g c = recounted-same c.args.heap.now
