use Rattle.mm_gc.proofs.Marking.Marked.{collects-marked}
use Rattle.mm_gc.proofs.freeing.mark_all.Goals as goal

pub returns-clause-unreached : goal.returns-clause-unreached
returns-clause-unreached g c dead bases =
    collects-marked c.args.stack.now c.args.areas.now c.args.heap.now c.abandon_cycle.new.heap c.begin.new.heap
    c.drain.new.heap c.abandon_cycle.ensures.colours c.abandon_cycle.ensures.white c.begin.ensures.grayed
    c.drain.ensures.drained dead bases
