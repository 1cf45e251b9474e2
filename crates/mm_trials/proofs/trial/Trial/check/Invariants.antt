use Rattle.mm_trials.proofs.trial.Trial.check.Given as goal

abbrev pub ghosts-tell_colours : goal.ghosts-tell_colours
ghosts-tell_colours g a = record { name = a.blank.name; parts = a.blank.parts }

abbrev pub ghosts-tell_composites : goal.ghosts-tell_composites
ghosts-tell_composites g a = record { name = a.blank.name; parts = a.blank.parts }
