use Rattle.mm_trials.proofs.small_heaps.a_path_is_as_long_as_it_takes_rounds_to_reach_its_object.Given as goal

abbrev pub ghosts-check_heaps : goal.ghosts-check_heaps
ghosts-check_heaps g a = record { name = a.blank.name; parts = a.blank.parts }
