use Rattle.mm_trials.proofs.reading.what_the_layers_say_of_a_heap_is_what_was_made.Given as goal

abbrev pub ghosts-read_parts : goal.ghosts-read_parts
ghosts-read_parts g a = record { name = a.blank.name; parts = a.blank.parts }
