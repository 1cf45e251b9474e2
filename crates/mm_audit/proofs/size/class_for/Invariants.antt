use Rattle.std.proofs.Common.{ℕ, ◌-◌, ◌<◌, ◌≤◌, get_or}
use Rattle.mm_model.specs.Places.SizeClass.{class_sizes}
use Rattle.mm_audit.proofs.size.class_for.Given as goal

-- the cells of each class before are too small
abbrev pub invariant-loop-class : goal.invariant-loop-class
invariant-loop-class l = record {
  within : l.class ≤ 18;
  smaller : (k : ℕ) → k < l.class → get_or class_sizes k 0 < l.bytes;
}

abbrev pub decreases-loop-class : goal.decreases-loop-class
decreases-loop-class l = 18 - l.class
