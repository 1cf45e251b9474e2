use Rattle.mm_c.proofs.in_bulk.mm_read.Given as goal

abbrev pub ghosts-read : goal.ghosts-read
ghosts-read a = record { name = a.blank.name; parts = a.blank.parts }
