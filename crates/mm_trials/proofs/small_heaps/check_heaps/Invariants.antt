use Rattle.std.proofs.Common.{◌≤◌}
use Rattle.mm_trials.proofs.small_heaps.check_heaps.Given as goal

abbrev pub invariant-loop-seed : goal.invariant-loop-seed
invariant-loop-seed g l = record {
  pages : 8 ≤ l.why.pages;
}
