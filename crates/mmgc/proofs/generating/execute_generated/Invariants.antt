use Rattle.mmgc.proofs.generating.execute_generated.Given as goal

abbrev pub ghosts-execute_quietly : goal.ghosts-execute_quietly
ghosts-execute_quietly a = record { name = a.blank.name; parts = a.blank.parts }
