use Rattle.mm_c.proofs.phases.mm_tick.Given as goal

abbrev pub ghosts-tick : goal.ghosts-tick
ghosts-tick a = record { name = a.blank.name; parts = a.blank.parts }
