-- Each log is computed.
use Rattle.mm_model.specs.Places.SizeClass.{class_sizes}
use Rattle.mm_examples.proofs.Running.{log_if}
use Rattle.mm_examples.proofs.finishing.freed_in_a_cycle.Goals as goal

pub returns-clause-partly_scanned : goal.returns-clause-partly_scanned
unfolding class_sizes
returns-clause-partly_scanned c = log_if _ _ _ (search) (search)

pub returns-clause-target : goal.returns-clause-target
unfolding class_sizes
returns-clause-target c = log_if _ _ _ (search) (search)
