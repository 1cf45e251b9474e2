use Rattle.std.proofs.Common.{ℕ, ◌-◌, ◌<◌, ◌≤◌}
use Rattle.mm_audit.specs.Places.{IsVacantRun}
use Rattle.mm_audit.proofs.places.Places.lowest_run.Given as goal

-- no run begins below
abbrev pub invariant-loop-first : goal.invariant-loop-first
invariant-loop-first l = record {
  some : 1 ≤ l.first;
  none : (page : ℕ) → page < l.first → IsVacantRun l.self.vacant l.limit l.count page → ⊥;
}

abbrev pub decreases-loop-first : goal.decreases-loop-first
decreases-loop-first l = l.limit - l.first
