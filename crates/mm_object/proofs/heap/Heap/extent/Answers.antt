use Rattle.std.proofs.Common.{◌∙◌, sym, ap}
use Rattle.mm_object.specs.Object.{StoredObject}
use Rattle.mm_object.proofs.Calls.{sound, taken, at-object}
use Rattle.mm_object.proofs.heap.Heap.extent.Goals as goal

pub extent-requires : goal.extent-requires
extent-requires g c =
    taken c.self.inside.memory c.self.inside.cells c.self.invariant c.args.self.now c.self.view_is
    c.args.base c.requires.0 c.requires.1

pub returns-clause-extent : goal.returns-clause-extent
returns-clause-extent g c = λ object begins.
    let at = at-object c.self.inside.memory c.self.inside.cells c.self.invariant c.args.self.now c.self.view_is
    c.args.base object begins in
    c.extent.ensures.extent at.cell at.begins ∙ ap (λ (o : StoredObject). o.extent) (sym at.is)

pub returns-clause-sound : goal.returns-clause-sound
returns-clause-sound g c =
    sound c.self.inside.memory c.self.inside.cells c.self.invariant c.args.self.now c.self.view_is
