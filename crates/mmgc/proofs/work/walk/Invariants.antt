use Rattle.std.proofs.Common.{◌≡◌, ◌≤◌, ◌*◌, ◌-◌}
use Rattle.mm_object.specs.Object.{views_of}
use Rattle.mmgc.specs.Walking.{work_below}
use Rattle.mmgc.proofs.work.walk.Given as goal

-- the objects below were counted, each of which takes at least four bytes for each of its work
abbrev pub invariant-loop-base : goal.invariant-loop-base
invariant-loop-base g l =
    record {
      counted : l.work ≡ work_below l.from (views_of l.heap.objects);
      fits : 4 * l.work ≤ l.from;
      within : l.from ≤ 16777216;
    }

abbrev pub decreases-loop-base : goal.decreases-loop-base
decreases-loop-base g l = 16777216 - l.from
