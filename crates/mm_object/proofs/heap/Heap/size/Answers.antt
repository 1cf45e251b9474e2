use Rattle.mm_object.proofs.Calls.{sound}
use Rattle.mm_object.proofs.heap.Heap.size.Goals as goal

pub returns-clause-sound : goal.returns-clause-sound
returns-clause-sound c =
    sound c.self.inside.memory c.self.inside.cells c.self.invariant c.args.self.now c.self.view_is
