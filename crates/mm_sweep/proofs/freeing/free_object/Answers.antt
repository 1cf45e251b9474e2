use Rattle.std.proofs.Common.{ap}
use Rattle.mm_object.specs.Heap.{Heap}
use Rattle.mm_sweep.proofs.Erased.{erased-frees, linked-left}
use Rattle.mm_sweep.proofs.freeing.free_object.Goals as goal

pub returns-clause-frees : goal.returns-clause-frees
returns-clause-frees g c =
    let o = c.unlink.ensures.object in
    erased-frees c.args.heap.now c.unlink.new.heap c.erase.new.self c.args.base c.args.pages.now c.erase.new.pages
    (record {
      objects = c.unlink.ensures.objects;
      object = o.0;
      begins = o.1;
      alone = c.unlink.ensures.alone o.0 o.1;
      rest = c.unlink.ensures.rest;
    })
    c.unlink.ensures.sound c.erase.ensures.page c.erase.ensures.erased c.erase.ensures.raw
    c.erase.ensures.others c.erase.ensures.all_parked c.erase.ensures.heap_sound

pub returns-clause-linked : goal.returns-clause-linked
returns-clause-linked g c =
    let o = c.unlink.ensures.object in
    linked-left c.unlink.new.heap c.erase.new.self c.args.base o.0 o.1 (c.unlink.ensures.alone o.0 o.1)
    c.unlink.ensures.linked (ap (λ (h : Heap). h.objects) c.erase.ensures.erased)
