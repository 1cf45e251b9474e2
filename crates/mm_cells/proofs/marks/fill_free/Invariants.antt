-- The words of the page are written one by one, and no others.
use Rattle.std.proofs.Common.{◌≡◌, ℕ, ◌<◌, ◌≤◌, get_or}
use Rattle.mm_cells.specs.declared.marks.TheConstants.{ALL_FREE}
use Rattle.mm_cells.proofs.marks.fill_free.Given as goal

abbrev pub invariant-loop-word : goal.invariant-loop-word
invariant-loop-word l = record {
  filled : (k : ℕ) → l.first ≤ k → k < l.word → get_or l.table k 0 ≡ ALL_FREE;
  below : (k : ℕ) → k < l.first → get_or l.table k 0 ≡ get_or l.initial.table k 0;
  above : (k : ℕ) → l.word ≤ k → get_or l.table k 0 ≡ get_or l.initial.table k 0;
}
