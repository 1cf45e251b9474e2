use Rattle.mm_trials.proofs.long_paths.a_path_leads_through_all_of_a_ring.Given as goal

abbrev pub ghosts-check_ring : goal.ghosts-check_ring
ghosts-check_ring g a = record { name = a.blank.name; parts = a.blank.parts }
