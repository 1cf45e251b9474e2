use Rattle.std.proofs.Common.{◌∙◌, sym, ap}
use Rattle.mm_object.specs.Heap.{Heap, cells_in}
use Rattle.mm_object.proofs.Sound.{cells-heap}
use Rattle.mm_object.proofs.Calls.{sound}
use Rattle.mm_object.proofs.heap.Heap.cells.Goals as goal

pub returns-clause-cells : goal.returns-clause-cells
returns-clause-cells c =
    sym (cells-heap c.self.inside.memory c.self.inside.cells c.self.invariant)
    ∙ ap (λ (v : Heap). cells_in v) c.self.view_is

pub returns-clause-sound : goal.returns-clause-sound
returns-clause-sound c =
    sound c.self.inside.memory c.self.inside.cells c.self.invariant c.args.self.now c.self.view_is
