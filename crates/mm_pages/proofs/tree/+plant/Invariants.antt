use Rattle.mm_pages.proofs.tree.+plant.Given as goal

abbrev pub decreases-plant : goal.decreases-plant
decreases-plant l = l.height
