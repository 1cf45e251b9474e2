use Rattle.std.proofs.Common.{◌-◌, ◌+◌, ◌*◌, ◌≤◌}
use Rattle.mm_object.specs.Object.{views_of}
use Rattle.mm_object.specs.Heap.{IsSound}
use Rattle.mm_mark.specs.Marker.{marking, KeepsGray}
use Rattle.mm_mark.specs.Colours.{IsSameButColours}
use Rattle.mm_mark.specs.Parts.{IsSameCycle}
use Rattle.mm_mark.specs.Stale.{IsTidy, stale_of}
use Rattle.mm_mark.specs.Draining.{IsDraining, unscanned}
use Rattle.mm_mark.proofs.Potential.{slots_done}
use Rattle.mm_mark.proofs.marker.Marker.drain.Given as goal

abbrev pub invariant-parts : goal.invariant-parts
invariant-parts g l = record {
  draining : IsDraining (views_of l.fn.heap.objects) (marking l.self l.heap);
  keeps : KeepsGray l.self (views_of l.heap.objects);
  rest : IsSameButColours l.fn.heap l.heap;
  tidy : IsTidy (marking l.fn.self l.fn.heap) → IsTidy (marking l.self l.heap);
  paid : IsTidy (marking l.fn.self l.fn.heap)
      → l.steps + 8 * stale_of (marking l.self l.heap) + 16 * unscanned (views_of l.heap.objects)
      ≤ l.fn.steps + 8 * stale_of (marking l.fn.self l.fn.heap) + 16 * unscanned (views_of l.fn.heap.objects)
      + 16 * slots_done l.self.partly;
  sound : IsSound l.fn.heap → IsSound l.heap;
  cycle : IsSameCycle l.fn.self l.self;
}

abbrev pub decreases-parts : goal.decreases-parts
decreases-parts g l = unscanned (views_of l.heap.objects) - slots_done l.self.partly
