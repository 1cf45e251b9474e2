use Rattle.mm_object.proofs.Sound.{IsSound-kept}
use Rattle.mm_object.proofs.Calls.{taken, reflag, keep-reflagged}
use Rattle.mm_object.proofs.heap.Heap.set_flags.Goals as goal

pub set_flags-requires-clause-taken : goal.set_flags-requires-clause-taken
set_flags-requires-clause-taken g c =
    taken c.self.inside.memory c.self.inside.cells c.self.invariant c.args.self.now c.self.view_is
    c.args.base c.requires.object.0 c.requires.object.1

pub invariant_of-self : goal.invariant_of-self
invariant_of-self g c =
    keep-reflagged c.self.inside.memory c.self.inside.cells c.self.invariant c.args.self.now c.self.view_is
    c.args.base c.requires.object.0 c.requires.object.1 c.set_flags.new.self c.args.flags c.requires.known
    (c.requires.finalize c.requires.object.0 c.requires.object.1) c.set_flags.ensures.flags
    c.set_flags.ensures.sound

pub returns-clause-flags : goal.returns-clause-flags
returns-clause-flags g c = λ object begins.
    reflag c.self.inside.memory c.self.inside.cells c.self.invariant c.args.self.now c.self.view_is
    c.args.base object begins c.set_flags.new.self c.args.flags c.set_flags.ensures.flags

pub returns-clause-sound : goal.returns-clause-sound
returns-clause-sound g c =
    IsSound-kept c.self.inside.memory c.set_flags.new.self (invariant_of-self g c)
