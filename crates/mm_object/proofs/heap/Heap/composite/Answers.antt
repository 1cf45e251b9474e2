use Rattle.std.proofs.Common.{◌∙◌, arith}
use Rattle.mm_object.proofs.Calls.{sound, at-object, read-composite}
use Rattle.mm_object.proofs.heap.Heap.composite.Goals as goal

pub get-requires : goal.get-requires
get-requires g c =
    let at = at-object c.self.inside.memory c.self.inside.cells c.self.invariant c.args.self.now c.self.view_is
    c.args.base c.requires.0 c.requires.1 in
    omega (arith, at.header, at.end)

pub returns-clause-word : goal.returns-clause-word
returns-clause-word g c = λ object begins.
    c.get.ensures ∙ read-composite c.self.inside.memory c.self.inside.cells c.self.invariant c.args.self.now
    c.self.view_is
    c.args.base object begins

pub returns-clause-sound : goal.returns-clause-sound
returns-clause-sound g c =
    sound c.self.inside.memory c.self.inside.cells c.self.invariant c.args.self.now c.self.view_is
