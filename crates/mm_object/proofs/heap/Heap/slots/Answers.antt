use Rattle.std.proofs.Common.{◌≡◌, ◌≤◌, length, ap, ◌∙◌, arith}
use Rattle.std.proofs.lemmas.List.{take_all}
use Rattle.mm_model.specs.declared.object.Shape.{Shape}
use Rattle.mm_object.specs.Object.{shape_of}
use Rattle.mm_object.proofs.Calls.{sound, at-object, read-shape, read-range}
use Rattle.mm_object.proofs.heap.Heap.slots.Goals as goal

pub shape_at-shape-requires : goal.shape_at-shape-requires
shape_at-shape-requires g c =
    let at = at-object c.self.inside.memory c.self.inside.cells c.self.invariant c.args.self.now c.self.view_is
    c.args.base c.requires.0 c.requires.1 in
    omega (arith, at.header, at.end)

pub overflow_add-base : goal.overflow_add-base
overflow_add-base g c = omega (arith, c.ranges.base)

pub part-requires : goal.part-requires
part-requires g c =
    let at = at-object c.self.inside.memory c.self.inside.cells c.self.invariant c.args.self.now c.self.view_is
    c.args.base c.requires.0 c.requires.1 in
    let shape = c.shape_at-shape.ensures ∙ read-shape c.self.inside.memory c.self.inside.cells c.self.invariant
    c.args.self.now c.self.view_is c.args.base c.requires.0 c.requires.1 in
    let slots = ap (λ (s : Shape). s.slots) shape in
    omega (arith, at.slots, at.end)

pub returns-clause-words : goal.returns-clause-words
returns-clause-words g c = λ object begins.
    let shape : c.shape_at-shape.result ≡ shape_of object = c.shape_at-shape.ensures
    ∙ read-shape c.self.inside.memory c.self.inside.cells c.self.invariant c.args.self.now c.self.view_is
    c.args.base object begins in
    let slots : c.shape_at-shape.result.slots ≡ length object.words = ap (λ (s : Shape). s.slots) shape in
    let most : c.shape_at-shape.result.slots ≤ length object.words = omega arith in
    let least : length object.words ≤ c.shape_at-shape.result.slots = omega arith in
    c.part.ensures
    ∙ read-range c.self.inside.memory c.self.inside.cells c.self.invariant c.args.self.now c.self.view_is
    c.args.base object begins c.shape_at-shape.result.slots most
    ∙ take_all c.shape_at-shape.result.slots object.words least

pub returns-clause-sound : goal.returns-clause-sound
returns-clause-sound g c =
    sound c.self.inside.memory c.self.inside.cells c.self.invariant c.args.self.now c.self.view_is

pub returns-clause-cost : goal.returns-clause-cost
returns-clause-cost g c =
    let shape : c.shape_at-shape.result ≡ shape_of c.requires.0 = c.shape_at-shape.ensures
    ∙ read-shape c.self.inside.memory c.self.inside.cells c.self.invariant c.args.self.now c.self.view_is
    c.args.base c.requires.0 c.requires.1 in
    let slots : c.shape_at-shape.result.slots ≡ length c.requires.0.words = ap (λ (s : Shape). s.slots) shape in
    let size = ap length (returns-clause-words g c c.requires.0 c.requires.1) in
    omega (arith, c.add.ensures)
