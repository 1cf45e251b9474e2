use Rattle.std.proofs.Common.{◌≡◌, ◌+◌, ◌-◌, ◌*◌, take, drop}
use Rattle.mm_model.specs.Views.ByBase.{Begins}
use Rattle.mm_model.specs.Views.ObjectView.{ObjectView, scanned_words_of}
use Rattle.mm_object.specs.Object.{views_of}
use Rattle.mm_object.specs.Heap.{IsSound}
use Rattle.mm_mark.specs.Marker.{IsSameButQueue, AreKnown, marking}
use Rattle.mm_mark.specs.Stale.{KeepsFewStale}
use Rattle.mm_mark.specs.Colours.{IsGrayed}
use Rattle.mm_mark.proofs.marker.Marker.shade_slots.Given as goal

abbrev pub invariant-loop-s : goal.invariant-loop-s
invariant-loop-s g l = record {
  grayed : (object : ObjectView) → Begins (views_of l.fn.heap.objects) l.from.base object
      → IsGrayed l.fn.heap l.heap (take (l.s - l.from.slots_done) (drop l.from.slots_done (scanned_words_of object)));
  cycle : IsSameButQueue l.fn.self l.self;
  known : AreKnown l.self (views_of l.heap.objects);
  sound : IsSound l.fn.heap → IsSound l.heap;
  few : KeepsFewStale (marking l.fn.self l.fn.heap) (marking l.self l.heap);
  ticked : l.steps ≡ l.fn.steps + 2 * (l.s - l.from.slots_done);
}
