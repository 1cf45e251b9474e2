use Rattle.std.proofs.Common.{◌≡◌, ◌<◌, ℕ, true}
use Rattle.mm_sets.specs.Set.{members, IsSet}
use Rattle.mm_model.specs.Areas.{most_areas}
use Rattle.mm_roots.proofs.area_table.fill_set.Given as goal

-- the numbers so far are members
abbrev pub invariant-loop-number : goal.invariant-loop-number
invariant-loop-number l = record {
  set : IsSet most_areas l.set;
  members : (number : ℕ) → number < l.number → members l.set number ≡ true;
}
