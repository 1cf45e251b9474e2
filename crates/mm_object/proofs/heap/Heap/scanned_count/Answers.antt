use Rattle.std.proofs.Common.{sym, ◌∙◌, arith}
use Rattle.mm_model.specs.Object.{is_scanned}
use Rattle.mm_object.proofs.Calls.{sound, at-object, read-shape, count-shape, length-chosen}
use Rattle.mm_object.proofs.heap.Heap.scanned_count.Goals as goal

pub shape_at-requires : goal.shape_at-requires
shape_at-requires g c =
    let at = at-object c.self.inside.memory c.self.inside.cells c.self.invariant c.args.self.now c.self.view_is
    c.args.base c.requires.0 c.requires.1 in
    omega (arith, at.header, at.end)

pub returns-clause-count : goal.returns-clause-count
returns-clause-count g c = λ object begins.
    count-shape c.scanned_slots.result c.shape_at.result object
    (c.shape_at.ensures ∙ read-shape c.self.inside.memory c.self.inside.cells c.self.invariant
    c.args.self.now c.self.view_is c.args.base object begins) c.scanned_slots.ensures
    ∙ sym (length-chosen (is_scanned object.kind) object.words)

pub returns-clause-sound : goal.returns-clause-sound
returns-clause-sound g c =
    sound c.self.inside.memory c.self.inside.cells c.self.invariant c.args.self.now c.self.view_is
