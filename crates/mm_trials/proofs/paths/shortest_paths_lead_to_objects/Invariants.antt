use Rattle.mm_trials.proofs.paths.shortest_paths_lead_to_objects.Given as goal

abbrev pub ghosts-check_paths : goal.ghosts-check_paths
ghosts-check_paths g a = record { name = a.blank.name; parts = a.blank.parts }
