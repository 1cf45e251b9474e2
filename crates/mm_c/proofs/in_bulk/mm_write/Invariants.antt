use Rattle.mm_c.proofs.in_bulk.mm_write.Given as goal

abbrev pub ghosts-write : goal.ghosts-write
ghosts-write a = record { name = a.blank.name; parts = a.blank.parts }
