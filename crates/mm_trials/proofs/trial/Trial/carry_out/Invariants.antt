use Rattle.mm_trials.proofs.trial.Trial.carry_out.Given as goal

abbrev pub ghosts-execute : goal.ghosts-execute
ghosts-execute g a = record { name = a.blank.name; parts = a.blank.parts }
