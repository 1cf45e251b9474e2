use Rattle.std.proofs.Common.{◌∙◌, arith}
use Rattle.mm_object.proofs.Calls.{sound, at-object, read-shape}
use Rattle.mm_object.proofs.heap.Heap.shape.Goals as goal

pub shape_at-requires : goal.shape_at-requires
shape_at-requires g c =
    let at = at-object c.self.inside.memory c.self.inside.cells c.self.invariant c.args.self.now c.self.view_is
    c.args.base c.requires.0 c.requires.1 in
    omega (arith, at.header, at.end)

pub returns-clause-shape : goal.returns-clause-shape
returns-clause-shape g c = λ object begins.
    c.shape_at.ensures ∙ read-shape c.self.inside.memory c.self.inside.cells c.self.invariant c.args.self.now
    c.self.view_is
    c.args.base object begins

pub returns-clause-sound : goal.returns-clause-sound
returns-clause-sound g c =
    sound c.self.inside.memory c.self.inside.cells c.self.invariant c.args.self.now c.self.view_is
