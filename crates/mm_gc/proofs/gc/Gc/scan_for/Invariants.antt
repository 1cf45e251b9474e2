use Rattle.std.proofs.Common.{◌≡◌, ℕ, ◌+◌, ◌-◌, ◌*◌, ◌≤◌, true}
use Rattle.mm_mark.specs.Stale.{HasFewStale, IsPaid}
use Rattle.mm_gc.specs.Gc.{view_of_gc}
use Rattle.mm_gc.specs.Steps.{marking_in}
use Rattle.mm_gc.proofs.Marking.Stepping.{IsScanning}
use Rattle.mm_gc.proofs.gc.Gc.scan_for.Given as goal

abbrev pub invariant-parts : goal.invariant-parts
invariant-parts g l =
    record {
      scanning : IsScanning (view_of_gc l.fn.self) l.k l.cost (view_of_gc l.self)
          (g.J.Finalizer.tells l.fn.journal l.journal);
      runs : l.self.marker.running ≡ true;
      paid : (stale : ℕ) → HasFewStale (marking_in l.fn.self) stale
          → IsPaid (marking_in l.self) l.steps (l.fn.steps + 16 * l.cost + 8 * stale);
      few : l.cost ≤ l.k + 64;
    }

abbrev pub decreases-parts : goal.decreases-parts
decreases-parts g l = l.k - l.cost
