use Rattle.std.proofs.Common.{◌+◌, ◌*◌, ◌≤◌, ℕ, take}
use Rattle.mm_object.specs.Object.{views_of}
use Rattle.mm_object.specs.Heap.{IsSound}
use Rattle.mm_count.specs.Table.{IsRight, IsSameTable}
use Rattle.mm_count.specs.Counts.{IsCountedBy}
use Rattle.mm_count.specs.Listed.{AllListed, NonePinned}
use Rattle.mm_count.specs.Apart.{AreCountsApart}
use Rattle.mm_count.specs.DeadApart.{IsRecounted}
use Rattle.mm_sweep.specs.Sweep.{counted_slots_of}
use Rattle.mm_sweep.proofs.sweeping.drop_counts.Given as goal

abbrev pub invariant-loop-i : goal.invariant-loop-i
invariant-loop-i g l =
    record {
      counts : (outside : ℕ → ℕ) → IsCountedBy l.fn.heap.objects outside
          → AreCountsApart (take l.i l.dead.words) l.heap.objects outside;
      heap : IsRecounted l.fn.heap l.heap;
      listed : AllListed l.fn.heap.objects → AllListed l.heap.objects;
      unpinned : NonePinned l.fn.heap.objects → NonePinned l.heap.objects;
      table : IsSameTable l.fn.count l.count;
      right : IsRight l.count l.heap;
      sound : IsSound l.heap;
      cost : l.steps ≤ l.fn.steps + 2 * l.i + 10 * counted_slots_of (views_of l.fn.heap.objects)
          (take l.i l.dead.words);
    }
