use Rattle.mmgc.proofs.execute.execute_booked.Given as goal

abbrev pub ghosts-execute : goal.ghosts-execute
ghosts-execute g a = record { name = a.blank.name; parts = a.blank.parts }

abbrev pub ghosts-execute_at_site : goal.ghosts-execute_at_site
ghosts-execute_at_site g a = record { name = a.blank.name; parts = a.blank.parts }
