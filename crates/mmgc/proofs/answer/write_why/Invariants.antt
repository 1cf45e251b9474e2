use Rattle.mmgc.proofs.answer.write_why.Given as goal

abbrev pub ghosts-find_object : goal.ghosts-find_object
ghosts-find_object g a = record { name = a.blank.name; parts = a.blank.parts }
