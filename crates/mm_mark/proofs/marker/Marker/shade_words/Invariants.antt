use Rattle.std.proofs.Common.{◌≡◌, ◌+◌, take}
use Rattle.mm_object.specs.Object.{views_of}
use Rattle.mm_object.specs.Heap.{IsSound}
use Rattle.mm_mark.specs.Marker.{IsSameButQueue, AreKnown, marking}
use Rattle.mm_mark.specs.Stale.{KeepsFewStale}
use Rattle.mm_mark.specs.Colours.{IsGrayed}
use Rattle.mm_mark.proofs.marker.Marker.shade_words.Given as goal

abbrev pub invariant-loop-i : goal.invariant-loop-i
invariant-loop-i g l = record {
  grayed : IsGrayed l.fn.heap l.heap (take l.i l.words);
  cycle : IsSameButQueue l.fn.self l.self;
  known : AreKnown l.self (views_of l.heap.objects);
  sound : IsSound l.fn.heap → IsSound l.heap;
  few : KeepsFewStale (marking l.fn.self l.fn.heap) (marking l.self l.heap);
  ticked : l.steps ≡ l.fn.steps + l.i;
}
