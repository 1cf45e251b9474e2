use Rattle.mm_gc.proofs.gc.Gc.close.Given as goal

abbrev pub ghosts-close_counted : goal.ghosts-close_counted
ghosts-close_counted a = record { name = a.blank.name; parts = a.blank.parts }
