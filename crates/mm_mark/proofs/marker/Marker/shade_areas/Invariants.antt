use Rattle.std.proofs.Common.{◌-◌}
use Rattle.mm_model.specs.Areas.{most_areas}
use Rattle.mm_object.specs.Object.{views_of}
use Rattle.mm_object.specs.Heap.{IsSound}
use Rattle.mm_mark.specs.Marker.{IsSameButQueue, AreKnown, marking}
use Rattle.mm_mark.specs.Stale.{KeepsFewStale}
use Rattle.mm_mark.specs.Colours.{AreShaded}
use Rattle.mm_mark.proofs.marker.Marker.shade_areas.Given as goal

abbrev pub invariant-areas : goal.invariant-areas
invariant-areas g l = record {
  shaded : AreShaded l.areas l.fn.heap l.heap l.from l.fn.steps l.steps;
  cycle : IsSameButQueue l.fn.self l.self;
  known : AreKnown l.self (views_of l.heap.objects);
  sound : IsSound l.fn.heap → IsSound l.heap;
  few : KeepsFewStale (marking l.fn.self l.fn.heap) (marking l.self l.heap);
}

abbrev pub decreases-areas : goal.decreases-areas
decreases-areas g l = most_areas - l.from
