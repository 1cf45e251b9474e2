use Rattle.mm_pages.proofs.tree.+free_at.Given as goal

abbrev pub decreases-free_at : goal.decreases-free_at
decreases-free_at l = l.height
