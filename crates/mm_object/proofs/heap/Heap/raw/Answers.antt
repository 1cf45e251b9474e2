use Rattle.mm_object.proofs.Calls.{sound}
use Rattle.mm_object.proofs.Bare.{raw-bare, read-raw}
use Rattle.mm_object.proofs.heap.Heap.raw.Goals as goal

pub get-requires : goal.get-requires
get-requires g c =
    (raw-bare c.self.inside.memory c.self.inside.cells c.self.invariant c.args.self.now c.self.view_is
    c.args.address c.requires.0 c.requires.1).within

pub returns-clause-word : goal.returns-clause-word
returns-clause-word g c =
    read-raw c.self.inside.memory c.self.inside.cells c.self.invariant c.args.self.now c.self.view_is
    c.args.address c.requires.0 c.requires.1 c.get.result c.get.ensures

pub returns-clause-sound : goal.returns-clause-sound
returns-clause-sound g c =
    sound c.self.inside.memory c.self.inside.cells c.self.invariant c.args.self.now c.self.view_is
