use Rattle.std.proofs.Common.{◌≤◌, ◌+◌, ◌-◌, ◌*◌, [], ℕ, List, length, take}
use Rattle.mm_object.specs.Object.{views_of}
use Rattle.mm_count.specs.Table.{IsSameTable}
use Rattle.mm_count.specs.DeadApart.{IsRecounted}
use Rattle.mm_reap.specs.Slots.{counted_slots_of}
use Rattle.mm_reap.specs.Filled.{IsFilled}
use Rattle.mm_reap.specs.Pins.{ListsPinned}
use Rattle.mm_reap.specs.Found.{AreReapable, IsReaped}
use Rattle.mm_reap.proofs.following.follow_all.Given as goal

abbrev pub invariant-loop-i : goal.invariant-loop-i
invariant-loop-i g l = record {
  order : l.i ≤ l.found;
  few : l.found ≤ l.k + counted_slots_of (views_of l.fn.heap.objects) (take l.i l.dead.words);
  pinned : ListsPinned l.heap.objects [];
  filled : IsFilled l.fn.dead l.dead l.k l.found;
  reaped : IsReaped l.count l.heap (take l.found l.dead.words);
  reapable : (stack : List ℕ) (outside : ℕ → ℕ)
      → AreReapable l.fn.heap.objects stack [] (take l.k l.fn.dead.words) outside
      → AreReapable l.heap.objects stack (take l.i l.dead.words) (take l.found l.dead.words) outside;
  table : IsSameTable l.fn.count l.count;
  heap : IsRecounted l.fn.heap l.heap;
  cost : l.steps ≤ l.initial.steps + 3 * l.i
      + 21 * counted_slots_of (views_of l.fn.heap.objects) (take l.i l.dead.words);
}

abbrev pub decreases-loop-i : goal.decreases-loop-i
decreases-loop-i g l = length l.fn.dead.words - l.i
