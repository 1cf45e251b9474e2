use Rattle.mm_gc.proofs.Colours.Coloured.{coloured-counts}
use Rattle.mm_gc.proofs.slots.tell_marking.Goals as goal

pub returns-then-running-clause-counts : goal.returns-then-running-clause-counts
returns-then-running-clause-counts g c = coloured-counts c.args.heap.now c.barrier.new.heap c.barrier.ensures.rest
