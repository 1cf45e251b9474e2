use Rattle.std.proofs.Common.{◌≡◌, ◌==◌, ℕ, ◌<◌, true, get_or}
use Rattle.mm_trace.proofs.word.spaces.Given as goal

abbrev pub invariant-loop-i : goal.invariant-loop-i
invariant-loop-i l = (k : ℕ) → k < l.i → (get_or l.line k 0 == 32) ≡ true
