use Rattle.std.proofs.Common.{◌≡◌}
use Rattle.mm_trials.proofs.long_paths.all_are_short.Given as goal

abbrev pub invariant-loop-leaf : goal.invariant-loop-leaf
invariant-loop-leaf g l = record {
  pages : l.why.pages ≡ l.fn.why.pages;
}

abbrev pub invariant-loop-middle : goal.invariant-loop-middle
invariant-loop-middle g l = record {
  pages : l.why.pages ≡ l.fn.why.pages;
}
