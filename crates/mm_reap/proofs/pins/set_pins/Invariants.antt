use Rattle.std.proofs.Common.{◌+◌, ◌*◌, ◌≤◌, take}
use Rattle.mm_object.specs.Heap.{IsSound}
use Rattle.mm_count.specs.Table.{IsRight}
use Rattle.mm_count.specs.DeadApart.{IsRecounted}
use Rattle.mm_reap.specs.Pins.{ArePinned}
use Rattle.mm_reap.proofs.pins.set_pins.Given as goal

abbrev pub invariant-loop-word : goal.invariant-loop-word
invariant-loop-word g l = record {
  pins : ArePinned l.fn.heap.objects l.heap.objects (take l.word-index l.word-items) l.pinned;
  heap : IsRecounted l.fn.heap l.heap;
  right : IsRight l.count l.heap;
  sound : IsSound l.heap;
  cost : l.steps ≤ l.initial.steps + 3 * l.word-index;
}
