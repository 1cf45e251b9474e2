use Rattle.std.proofs.Common.{◌+◌, ◌*◌, ◌≤◌, ℕ, List, [], take}
use Rattle.mm_object.specs.Heap.{IsSound}
use Rattle.mm_count.specs.Table.{IsRight, IsSameTable}
use Rattle.mm_count.specs.Listed.{NonePinned}
use Rattle.mm_count.specs.Apart.{AreCountsApart}
use Rattle.mm_count.specs.DeadApart.{AreDeadApart, IsRecounted}
use Rattle.mm_sweep.proofs.sweeping.leave_all.Given as goal

abbrev pub invariant-loop-i : goal.invariant-loop-i
invariant-loop-i g l =
    record {
      left : AreDeadApart [] l.fn.heap.objects → AreDeadApart (take l.i l.dead.words) l.heap.objects;
      counts : (dropped : List ℕ) (outside : ℕ → ℕ) → AreCountsApart dropped l.fn.heap.objects outside
          → AreCountsApart dropped l.heap.objects outside;
      heap : IsRecounted l.fn.heap l.heap;
      unpinned : NonePinned l.fn.heap.objects → NonePinned l.heap.objects;
      table : IsSameTable l.fn.count l.count;
      right : IsRight l.count l.heap;
      sound : IsSound l.heap;
      cost : l.steps ≤ l.fn.steps + 9 * l.i;
    }
