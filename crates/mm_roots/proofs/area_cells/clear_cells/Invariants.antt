use Rattle.std.proofs.Common.{◌≡◌, ◌+◌}
use Rattle.mm_object.specs.Heap.{IsSound}
use Rattle.mm_roots.specs.Areas.{ClearsCells}
use Rattle.mm_roots.proofs.area_cells.clear_cells.Given as goal

-- the cells so far are 0
abbrev pub invariant-loop-s : goal.invariant-loop-s
invariant-loop-s g l = record {
  cleared : ClearsCells l.fn.heap l.heap l.base l.s;
  sound : IsSound l.heap;
  cost : l.steps ≡ l.fn.steps + l.s;
}
