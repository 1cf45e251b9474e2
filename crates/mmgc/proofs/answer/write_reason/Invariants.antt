use Rattle.mmgc.proofs.answer.write_reason.Given as goal

abbrev pub ghosts-search_heap : goal.ghosts-search_heap
ghosts-search_heap g a = record { name = a.blank.name; parts = a.blank.parts }
