use Rattle.std.proofs.Common.{◌+◌, ◌*◌, ◌-◌, ◌/◌, ◌<◌, ◌≤◌, length}
use Rattle.mm_object.specs.Object.{views_of}
use Rattle.mm_mark.specs.Marker.{IsSameButQueue}
use Rattle.mm_mark.specs.Parts.{AreOthersKnown}
use Rattle.mm_mark.proofs.Refilled.{walking}
use Rattle.mm_mark.proofs.marker.Marker.refill.Given as goal

abbrev pub invariant-loop-base : goal.invariant-loop-base
invariant-loop-base g l =
    record {
      others : AreOthersKnown (walking l.self l.from) (views_of l.heap.objects) l.first;
      cycle : IsSameButQueue l.fn.self l.self;
      begun : l.first < l.from;
      from : l.first < 4096 * l.heap.pages → l.from ≤ 4096 * l.heap.pages;
      cost : l.steps + l.first / 4096 ≤ l.fn.steps + 2 * length l.self.queue + l.from / 4096;
    }

-- what is left of the region
abbrev pub decreases-loop-base : goal.decreases-loop-base
decreases-loop-base g l = 4096 * l.heap.pages - l.from
