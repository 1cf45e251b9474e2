-- The words of the page are rewritten one by one, and no others.
use Rattle.std.proofs.Common.{◌≡◌, ℕ, ◌<◌, ◌≤◌, get_or}
use Rattle.mm_cells.specs.Marks.{WhitensWord}
use Rattle.mm_cells.proofs.marks.whiten.Given as goal

abbrev pub invariant-loop-word : goal.invariant-loop-word
invariant-loop-word l = record {
  white : (k : ℕ) → l.first ≤ k → k < l.word → WhitensWord (get_or l.initial.table k 0) (get_or l.table k 0);
  below : (k : ℕ) → k < l.first → get_or l.table k 0 ≡ get_or l.initial.table k 0;
  above : (k : ℕ) → l.word ≤ k → get_or l.table k 0 ≡ get_or l.initial.table k 0;
}
