-- Each log is computed.
use Rattle.mm_model.specs.Places.SizeClass.{class_sizes}
use Rattle.mm_examples.proofs.Running.{log_if}
use Rattle.mm_examples.proofs.counting.ends.Goals as goal

pub returns-clause-threshold : goal.returns-clause-threshold
unfolding class_sizes
returns-clause-threshold c = log_if _ _ _ (search) (search)

pub returns-clause-finalizer : goal.returns-clause-finalizer
unfolding class_sizes
returns-clause-finalizer c = log_if _ _ _ (search) (search)
