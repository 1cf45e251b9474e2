use Rattle.std.proofs.Common.{◌+◌, sym, ap, subst, ◌∙◌}
use Rattle.mm_cells.specs.Cells.{IsSoundCells}
use Rattle.mm_object.specs.Heap.{Heap}
use Rattle.mm_object.specs.Kept.{heap_of, KeepsHeap}
use Rattle.mm_object.proofs.Sound.{IsSound-kept}
use Rattle.mm_object.proofs.Shading.{whitened-heap, whitened-kept}
use Rattle.mm_object.proofs.heap.Heap.whiten.Goals as goal

pub invariant_of-self : goal.invariant_of-self
invariant_of-self g c =
    subst (KeepsHeap c.self.inside.memory) (sym c.whiten.ensures.white)
    (whitened-kept c.self.inside.memory c.self.inside.cells c.self.invariant c.args.self.now c.self.view_is
    (subst IsSoundCells c.whiten.ensures.white c.whiten.ensures.sound))

pub returns-clause-white : goal.returns-clause-white
returns-clause-white g c =
    ap (heap_of c.self.inside.memory) c.whiten.ensures.white
    ∙ whitened-heap c.self.inside.memory c.self.inside.cells c.self.invariant c.args.self.now c.self.view_is

pub returns-clause-sound : goal.returns-clause-sound
returns-clause-sound g c = IsSound-kept c.self.inside.memory c.whiten.new.self (invariant_of-self g c)

pub returns-clause-cost : goal.returns-clause-cost
returns-clause-cost g c =
    c.whiten.ensures.cost ∙ ap (λ (v : Heap). c.args.steps.now + v.pages) c.self.view_is
