use Rattle.mm_trials.proofs.arena.+carve_pairs.Given as goal

abbrev pub decreases-carve_pairs : goal.decreases-carve_pairs
decreases-carve_pairs l = l.pairs
