use Rattle.std.proofs.Common.{◌≡◌, ◌+◌, ◌*◌, ◌≤◌, length}
use Rattle.mm_object.specs.Object.{views_of}
use Rattle.mm_mark.specs.Marker.{IsSameButQueue, AreKnown, marking}
use Rattle.mm_mark.specs.Stale.{IsTidy, stale_of}
use Rattle.mm_mark.proofs.marker.Marker.next_queued.Given as goal

abbrev pub invariant-entries : goal.invariant-entries
invariant-entries g l = record {
  cycle : IsSameButQueue l.fn.self l.self;
  tidy : IsTidy (marking l.fn.self l.heap) → IsTidy (marking l.self l.heap);
  paid : IsTidy (marking l.fn.self l.heap)
      → l.steps + 8 * stale_of (marking l.self l.heap) ≤ l.fn.steps + 8 * stale_of (marking l.fn.self l.heap);
  fewer : IsTidy (marking l.fn.self l.heap) → stale_of (marking l.self l.heap) ≤ stale_of (marking l.fn.self l.heap);
  known : AreKnown l.self (views_of l.heap.objects);
  left : l.self.left_out ≡ l.fn.self.left_out;
  cost : l.steps + 2 * length l.self.queue ≡ l.fn.steps + 2 * length l.fn.self.queue;
}

abbrev pub decreases-entries : goal.decreases-entries
decreases-entries g l = length l.self.queue
