-- Each log is computed.
use Rattle.mm_model.specs.Places.SizeClass.{class_sizes}
use Rattle.mm_examples.proofs.Running.{log_if}
use Rattle.mm_examples.proofs.room.room.Goals as goal

pub returns-clause-found : goal.returns-clause-found
unfolding class_sizes
returns-clause-found c = log_if _ _ _ (search) (search)

pub returns-clause-full : goal.returns-clause-full
unfolding class_sizes
returns-clause-full c = log_if _ _ _ (search) (search)

pub returns-clause-grown : goal.returns-clause-grown
unfolding class_sizes
returns-clause-grown c = log_if _ _ _ (search) (search)

pub returns-clause-ended_cycle : goal.returns-clause-ended_cycle
unfolding class_sizes
returns-clause-ended_cycle c = log_if _ _ _ (search) (search)
