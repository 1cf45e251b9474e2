use Rattle.std.proofs.Common.{sym, ap, subst, ◌∙◌, arith}
use Rattle.mm_words.specs.Piece.{Piece}
use Rattle.mm_object.specs.Kept.{heap_of, KeepsHeap}
use Rattle.mm_object.proofs.Sound.{IsSound-kept}
use Rattle.mm_object.proofs.Calls.{at-object, set-slot, keep-slot, slot-within}
use Rattle.mm_object.proofs.heap.Heap.set_slot.Goals as goal

pub overflow_add-base-2 : goal.overflow_add-base-2
overflow_add-base-2 g c =
    let at = at-object c.self.inside.memory c.self.inside.cells c.self.invariant c.args.self.now c.self.view_is
    c.args.base c.requires.object c.requires.begins in
    let within = c.requires.within in
    omega (arith, at.small, at.aligned, c.ranges.base)

pub set-requires : goal.set-requires
set-requires g c =
    let at = at-object c.self.inside.memory c.self.inside.cells c.self.invariant c.args.self.now c.self.view_is
    c.args.base c.requires.object c.requires.begins in
    let within = c.requires.within in
    omega (arith, at.slots, at.end)

pub invariant_of-self : goal.invariant_of-self
invariant_of-self g c =
    subst (λ (p : Piece). KeepsHeap p c.self.inside.cells) (sym c.set.ensures)
    (keep-slot c.self.inside.memory c.self.inside.cells c.self.invariant c.args.self.now c.self.view_is
    c.args.base c.requires.object c.requires.begins c.args.s c.args.w c.requires.within)

pub returns-clause-slot : goal.returns-clause-slot
returns-clause-slot g c = λ object begins.
    ap (λ (p : Piece). heap_of p c.self.inside.cells) c.set.ensures
    ∙ set-slot c.self.inside.memory c.self.inside.cells c.self.invariant c.args.self.now c.self.view_is
    c.args.base object begins c.args.s c.args.w
    (slot-within c.args.self.now c.args.base c.args.s c.requires object begins)

pub returns-clause-sound : goal.returns-clause-sound
returns-clause-sound g c = IsSound-kept c.set.new.self c.self.inside.cells (invariant_of-self g c)
