use Rattle.std.proofs.Common.{◌≡◌, ℕ, ◌+◌, ◌/◌, slice_index, sym, ap, ◌∙◌, arith}
use Rattle.mm_object.proofs.Calls.{sound, at-object, read-slot, slot-within}
use Rattle.mm_object.proofs.heap.Heap.slot_word.Goals as goal

pub overflow_add-s : goal.overflow_add-s
overflow_add-s g c =
    let at = at-object c.self.inside.memory c.self.inside.cells c.self.invariant c.args.self.now c.self.view_is
    c.args.base c.requires.object c.requires.begins in
    let within = c.requires.within in
    omega (arith, at.small)

pub overflow_add-s-2 : goal.overflow_add-s-2
overflow_add-s-2 g c =
    let at = at-object c.self.inside.memory c.self.inside.cells c.self.invariant c.args.self.now c.self.view_is
    c.args.base c.requires.object c.requires.begins in
    let within = c.requires.within in
    omega (arith, at.small, at.aligned, c.ranges.base)

pub get-requires : goal.get-requires
get-requires g c =
    let at = at-object c.self.inside.memory c.self.inside.cells c.self.invariant c.args.self.now c.self.view_is
    c.args.base c.requires.object c.requires.begins in
    let within = c.requires.within in
    omega (arith, at.slots, at.end)

pub returns-clause-word : goal.returns-clause-word
returns-clause-word g c = λ object begins.
    let place : 4 + c.args.s + c.args.base / 4 ≡ c.args.base / 4 + 4 + c.args.s = omega arith in
    c.get.ensures ∙ ap (λ (i : ℕ). slice_index c.self.inside.memory.words i) place
    ∙ sym (read-slot c.self.inside.memory c.self.inside.cells c.self.invariant c.args.self.now c.self.view_is
    c.args.base object begins c.args.s (slot-within c.args.self.now c.args.base c.args.s c.requires object begins))

pub returns-clause-sound : goal.returns-clause-sound
returns-clause-sound g c =
    sound c.self.inside.memory c.self.inside.cells c.self.invariant c.args.self.now c.self.view_is
