use Rattle.mm_trials.proofs.long_paths.paths_through_a_display_tree_are_short.Given as goal

abbrev pub ghosts-check_tree : goal.ghosts-check_tree
ghosts-check_tree g a = record { name = a.blank.name; parts = a.blank.parts }
