use Rattle.std.proofs.Common.{ℕ, Bool, sym, ap, ◌∙◌, arith}
use Rattle.mm_model.specs.declared.object.Shape.{Shape}
use Rattle.mm_model.specs.Object.{is_scanned}
use Rattle.mm_model.specs.Words.{slot_kind_at}
use Rattle.mm_object.specs.Object.{slot_with}
use Rattle.mm_object.proofs.Calls.{sound, at-object, read-shape, read-slot, slot-within}
use Rattle.mm_object.proofs.heap.Heap.slot.Goals as goal

pub shape_at-shape-requires : goal.shape_at-shape-requires
shape_at-shape-requires g c =
    let at = at-object c.self.inside.memory c.self.inside.cells c.self.invariant c.args.self.now c.self.view_is
    c.args.base c.requires.object c.requires.begins in
    omega (arith, at.header, at.end)

pub overflow_add-base-2 : goal.overflow_add-base-2
overflow_add-base-2 g c =
    let at = at-object c.self.inside.memory c.self.inside.cells c.self.invariant c.args.self.now c.self.view_is
    c.args.base c.requires.object c.requires.begins in
    let within = c.requires.within in
    omega (arith, at.small, at.aligned, c.ranges.base)

pub get-word-requires : goal.get-word-requires
get-word-requires g c =
    let at = at-object c.self.inside.memory c.self.inside.cells c.self.invariant c.args.self.now c.self.view_is
    c.args.base c.requires.object c.requires.begins in
    let within = c.requires.within in
    omega (arith, at.slots, at.end)

pub returns-clause-slot : goal.returns-clause-slot
returns-clause-slot g c = λ object begins.
    let shape = c.shape_at-shape.ensures ∙ read-shape c.self.inside.memory c.self.inside.cells c.self.invariant
    c.args.self.now c.self.view_is c.args.base object begins in
    let word = c.get-word.ensures ∙ sym (read-slot c.self.inside.memory c.self.inside.cells c.self.invariant
    c.args.self.now c.self.view_is c.args.base object begins c.args.s
    (slot-within c.args.self.now c.args.base c.args.s c.requires object begins)) in
    c.of.ensures
    ∙ ap (λ (b : Bool). slot_with (slot_kind_at b c.shape_at-shape.result.counted c.args.s) c.get-word.result)
    c.is_scanned-scanned.ensures
    ∙ ap (λ (t : Shape). slot_with (slot_kind_at (is_scanned t.kind) t.counted c.args.s) c.get-word.result) shape
    ∙ ap (λ (n : ℕ). slot_with (slot_kind_at (is_scanned object.kind) object.counted c.args.s) n) word

pub returns-clause-sound : goal.returns-clause-sound
returns-clause-sound g c =
    sound c.self.inside.memory c.self.inside.cells c.self.invariant c.args.self.now c.self.view_is
