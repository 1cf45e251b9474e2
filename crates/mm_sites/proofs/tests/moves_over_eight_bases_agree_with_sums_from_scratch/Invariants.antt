-- The region stays as large as it is.
use Rattle.std.proofs.Common.{◌≡◌, length}
use Rattle.mm_sites.proofs.tests.moves_over_eight_bases_agree_with_sums_from_scratch.Given as goal

abbrev pub invariant-loop-code : goal.invariant-loop-code
invariant-loop-code g l = length l.sites ≡ 768
