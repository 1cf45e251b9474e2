use Rattle.std.proofs.Common.{◌≡◌, ℕ, ◌≤◌, length, take, ap, ◌∙◌, arith}
use Rattle.std.proofs.lemmas.List.{length-take-le}
use Rattle.std.specs.Prelude.{if◌then◌else◌}
use Rattle.mm_model.specs.Object.{is_scanned}
use Rattle.mm_object.specs.Object.{StoredObject}
use Rattle.mm_object.proofs.Calls.{sound, at-object, read-shape, read-range, chosen, chosen-most, count-shape}
use Rattle.mm_object.proofs.heap.Heap.scanned.Goals as goal

pub shape_at-shape-requires : goal.shape_at-shape-requires
shape_at-shape-requires g c =
    let at = at-object c.self.inside.memory c.self.inside.cells c.self.invariant c.args.self.now c.self.view_is
    c.args.base c.requires.0 c.requires.1 in
    omega (arith, at.header, at.end)

pub overflow_add-base : goal.overflow_add-base
overflow_add-base g c = omega (arith, c.ranges.base)

count-most : (count : ℕ) (object : StoredObject) → count ≡ (if is_scanned object.kind then length object.words else 0)
    → count ≤ length object.words
count-most count object e = omega (arith, e, chosen-most (is_scanned object.kind) (length object.words))

pub part-requires : goal.part-requires
part-requires g c =
    let at = at-object c.self.inside.memory c.self.inside.cells c.self.invariant c.args.self.now c.self.view_is
    c.args.base c.requires.0 c.requires.1 in
    let count = count-shape c.scanned_slots-count.result c.shape_at-shape.result c.requires.0
    (c.shape_at-shape.ensures ∙ read-shape c.self.inside.memory c.self.inside.cells c.self.invariant
    c.args.self.now c.self.view_is c.args.base c.requires.0 c.requires.1) c.scanned_slots-count.ensures in
    omega (arith, at.slots, at.end, count-most c.scanned_slots-count.result c.requires.0 count)

lent : goal.returns-clause-words
lent g c = λ object begins.
    let count = count-shape c.scanned_slots-count.result c.shape_at-shape.result object
    (c.shape_at-shape.ensures ∙ read-shape c.self.inside.memory c.self.inside.cells c.self.invariant
    c.args.self.now c.self.view_is c.args.base object begins) c.scanned_slots-count.ensures in
    c.part.ensures
    ∙ read-range c.self.inside.memory c.self.inside.cells c.self.invariant c.args.self.now c.self.view_is
    c.args.base object begins c.scanned_slots-count.result (count-most c.scanned_slots-count.result object count)
    ∙ ap (λ (n : ℕ). take n object.words) count ∙ chosen (is_scanned object.kind) object.words

pub returns-clause-words : goal.returns-clause-words
returns-clause-words g c = lent g c

pub returns-clause-sound : goal.returns-clause-sound
returns-clause-sound g c =
    sound c.self.inside.memory c.self.inside.cells c.self.invariant c.args.self.now c.self.view_is

pub returns-clause-cost : goal.returns-clause-cost
returns-clause-cost g c =
    let count = count-shape c.scanned_slots-count.result c.shape_at-shape.result c.requires.0
    (c.shape_at-shape.ensures ∙ read-shape c.self.inside.memory c.self.inside.cells c.self.invariant
    c.args.self.now c.self.view_is c.args.base c.requires.0 c.requires.1) c.scanned_slots-count.ensures in
    let most = count-most c.scanned_slots-count.result c.requires.0 count in
    let range = ap length (c.part.ensures
    ∙ read-range c.self.inside.memory c.self.inside.cells c.self.invariant c.args.self.now c.self.view_is
    c.args.base c.requires.0 c.requires.1 c.scanned_slots-count.result most) in
    omega (
      arith,
      c.add.ensures,
      range,
      length-take-le c.scanned_slots-count.result c.requires.0.words most,
    )
