use Rattle.std.proofs.Common.{◌≡◌, ℕ, ◌/◌, ◌<◌, slice_index}
use Rattle.mm_sets.proofs.bits.lowest_bit.Given as goal

abbrev pub invariant-loop-i : goal.invariant-loop-i
invariant-loop-i l = (j : ℕ) → l.from / 32 < j → j < l.i → slice_index l.words j ≡ 0
