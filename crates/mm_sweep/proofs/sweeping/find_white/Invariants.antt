use Rattle.std.proofs.Common.{◌≡◌, ◌+◌, ◌*◌, ◌-◌, ◌/◌, ◌≤◌, drop, take}
use Rattle.mm_words.specs.Location.{location_of}
use Rattle.mm_object.specs.Object.{views_of}
use Rattle.mm_sweep.specs.Sweep.{AreWhiteBelow}
use Rattle.mm_sweep.proofs.sweeping.find_white.Given as goal

abbrev pub invariant-loop-base : goal.invariant-loop-base
invariant-loop-base g l =
    record {
      found : AreWhiteBelow (views_of l.heap.objects) l.from (take l.k l.dead.words);
      dead : location_of l.dead ≡ location_of l.fn.dead;
      behind : drop l.k l.dead.words ≡ drop l.k l.fn.dead.words;
      few : 16 * l.k ≤ l.from + 15 - 4096;
      from : l.from ≤ 4096 * l.heap.pages;
      cost : l.steps ≤ l.fn.steps + 2 * l.k + l.from / 4096;
    }

-- what is left of the region
abbrev pub decreases-loop-base : goal.decreases-loop-base
decreases-loop-base g l = 4096 * l.heap.pages - l.from
