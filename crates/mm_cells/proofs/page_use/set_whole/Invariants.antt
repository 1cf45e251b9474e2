-- The words of the later pages are written one by one, and no others.
use Rattle.std.proofs.Common.{◌≡◌, ◌+◌, ◌<◌, ◌≤◌, ◌⊎◌, ℕ}
use Rattle.mm_cells.specs.declared.page_use.PageUse.TheVariants.{Later}
use Rattle.mm_cells.specs.Uses.{told_at}
use Rattle.mm_cells.proofs.page_use.set_whole.Given as goal

abbrev pub invariant-loop-distance : goal.invariant-loop-distance
invariant-loop-distance l = record {
  later : (k : ℕ) → 0 < k → k < l.distance → told_at l.uses (l.first + k) ≡ Later k;
  others : (page : ℕ) → (page ≤ l.first) ⊎ (l.first + l.distance ≤ page)
      → told_at l.uses page ≡ told_at l.fn.uses page;
}
