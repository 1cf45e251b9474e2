use Rattle.std.proofs.Common.{◌≡◌, ◌+◌, ◌*◌, take}
use Rattle.mm_object.specs.Object.{views_of}
use Rattle.mm_object.specs.Heap.{IsSound}
use Rattle.mm_roots.specs.Views.{cell_words}
use Rattle.mm_mark.specs.Marker.{IsSameButQueue, AreKnown, marking}
use Rattle.mm_mark.specs.Stale.{KeepsFewStale}
use Rattle.mm_mark.specs.Colours.{IsGrayed}
use Rattle.mm_mark.proofs.marker.Marker.shade_area.Given as goal

abbrev pub invariant-loop-s : goal.invariant-loop-s
invariant-loop-s g l = record {
  grayed : IsGrayed l.fn.heap l.heap (take l.s (cell_words l.fn.heap.raw l.area.base l.area.cells));
  cycle : IsSameButQueue l.fn.self l.self;
  known : AreKnown l.self (views_of l.heap.objects);
  sound : IsSound l.fn.heap → IsSound l.heap;
  few : KeepsFewStale (marking l.fn.self l.fn.heap) (marking l.self l.heap);
  ticked : l.steps ≡ l.fn.steps + 2 * l.s;
}
