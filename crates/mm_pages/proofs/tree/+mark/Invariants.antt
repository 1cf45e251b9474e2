use Rattle.mm_pages.proofs.tree.+mark.Given as goal

abbrev pub decreases-mark : goal.decreases-mark
decreases-mark g l = l.height
