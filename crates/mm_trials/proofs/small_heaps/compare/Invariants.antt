use Rattle.std.proofs.Common.{◌≡◌}
use Rattle.mm_trials.proofs.small_heaps.compare.Given as goal

abbrev pub invariant-loop-object : goal.invariant-loop-object
invariant-loop-object g l = record {
  pages : l.why.pages ≡ l.fn.why.pages;
}
