use Rattle.std.proofs.Common.{◌≤◌, ◌+◌, ◌*◌, [], ℕ, List, length, take}
use Rattle.mm_count.specs.Table.{IsSameTable}
use Rattle.mm_count.specs.DeadApart.{IsRecounted}
use Rattle.mm_reap.specs.Filled.{IsFilled}
use Rattle.mm_reap.specs.Pins.{ArePinnedFrom}
use Rattle.mm_reap.specs.Found.{AreReapable, IsReaped}
use Rattle.mm_reap.proofs.dead.take_entries.Given as goal

abbrev pub invariant-loop-i : goal.invariant-loop-i
invariant-loop-i g l = record {
  few : l.k + l.i ≤ length l.fn.count.entries;
  entries : l.i ≤ length l.count.entries;
  pinned : ArePinnedFrom l.i l.count.entries l.heap.objects;
  filled : IsFilled l.fn.dead l.dead 0 l.k;
  reaped : IsReaped l.count l.heap (take l.k l.dead.words);
  reapable : (stack dropped : List ℕ) (outside : ℕ → ℕ) → AreReapable l.fn.heap.objects stack dropped [] outside
      → AreReapable l.heap.objects stack dropped (take l.k l.dead.words) outside;
  table : IsSameTable l.fn.count l.count;
  heap : IsRecounted l.fn.heap l.heap;
  cost : l.steps + 10 * l.i ≤ l.initial.steps + 10 * length l.fn.count.entries;
}

abbrev pub decreases-loop-i : goal.decreases-loop-i
decreases-loop-i g l = l.i
