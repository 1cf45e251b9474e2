use Rattle.std.proofs.Common.{◌≡◌, ◌≤◌, ◌+◌, ◌*◌, ℕ, Some, take, drop}
use Rattle.mm_object.specs.Object.{views_of}
use Rattle.mm_object.specs.Heap.{IsSound}
use Rattle.mm_count.specs.Table.{IsSameTable}
use Rattle.mm_roots.specs.declared.area_shape.AreaShape.{AreaShape}
use Rattle.mm_roots.specs.Areas.{area_at}
use Rattle.mm_roots.specs.Views.{area_words}
use Rattle.mm_gc.specs.AreaCells.{outside_with}
use Rattle.mm_gc.specs.Counts.{HasCounts}
use Rattle.mm_gc.proofs.area_cells.lower_cells.Given as goal

abbrev pub invariant-loop-s : goal.invariant-loop-s
invariant-loop-s g l =
    record {
      counts : (area : AreaShape) (others : ℕ → ℕ) → area_at l.fn.areas l.fn.number ≡ Some area
          → HasCounts l.fn.count l.fn.heap
          (outside_with (take l.fn.counted (area_words l.fn.heap.raw area)) others)
          → HasCounts l.count l.heap
          (outside_with (drop l.s (take l.fn.counted (area_words l.fn.heap.raw area))) others);
      views : views_of l.heap.objects ≡ views_of l.fn.heap.objects;
      table : IsSameTable l.fn.count l.count;
      rest : l.heap ≡ record l.fn.heap { objects = l.heap.objects };
      sound : IsSound l.heap;
      cost : l.steps ≤ l.fn.steps + 9 * l.s;
    }
