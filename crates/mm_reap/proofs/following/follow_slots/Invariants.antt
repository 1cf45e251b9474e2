use Rattle.std.proofs.Common.{◌≤◌, ◌+◌, ◌*◌, ℕ, List, take}
use Rattle.mm_count.specs.Table.{IsSameTable}
use Rattle.mm_count.specs.DeadApart.{IsRecounted}
use Rattle.mm_reap.specs.Filled.{IsFilled}
use Rattle.mm_reap.specs.Pins.{ListsPinnedOrNamed}
use Rattle.mm_reap.specs.Found.{AreReapable, IsReaped}
use Rattle.mm_reap.proofs.following.follow_slots.Given as goal

abbrev pub invariant-loop-s : goal.invariant-loop-s
invariant-loop-s g l = record {
  few : l.found ≤ l.k + l.s;
  pinned : ListsPinnedOrNamed l.heap.objects l.base l.s;
  filled : IsFilled l.fn.dead l.dead l.k l.found;
  reaped : IsReaped l.count l.heap (take l.found l.dead.words);
  reapable : (stack dropped : List ℕ) (outside : ℕ → ℕ)
      → AreReapable l.fn.heap.objects stack dropped (take l.k l.fn.dead.words) outside
      → AreReapable l.heap.objects stack dropped (take l.found l.dead.words) outside;
  table : IsSameTable l.fn.count l.count;
  heap : IsRecounted l.fn.heap l.heap;
  cost : l.steps ≤ l.initial.steps + 11 * l.s;
}
