use Rattle.mm_pages.proofs.tree.+find.Given as goal

abbrev pub decreases-find : goal.decreases-find
decreases-find g l = l.height
