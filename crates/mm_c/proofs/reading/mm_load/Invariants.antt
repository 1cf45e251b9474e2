use Rattle.mm_c.proofs.reading.mm_load.Given as goal

abbrev pub ghosts-load : goal.ghosts-load
ghosts-load a = record { name = a.blank.name; parts = a.blank.parts }
