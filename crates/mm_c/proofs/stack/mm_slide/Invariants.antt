use Rattle.mm_c.proofs.stack.mm_slide.Given as goal

abbrev pub ghosts-slide : goal.ghosts-slide
ghosts-slide a = record { name = a.blank.name; parts = a.blank.parts }
