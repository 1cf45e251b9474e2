use Rattle.std.proofs.Common.{◌∙◌, sym, ap}
use Rattle.mm_object.specs.Heap.{Heap, cells_in}
use Rattle.mm_object.proofs.Sound.{cells-heap}
use Rattle.mm_object.proofs.heap.Heap.close.Goals as goal

pub returns-clause-cells : goal.returns-clause-cells
returns-clause-cells c =
    sym (cells-heap c.self.inside.memory c.self.inside.cells c.self.invariant)
    ∙ ap (λ (v : Heap). cells_in v) c.self.view_is
