-- Each log is computed.
use Rattle.mm_model.specs.Places.SizeClass.{class_sizes}
use Rattle.mm_examples.proofs.Running.{log_if}
use Rattle.mm_examples.proofs.cycles.cycles.Goals as goal

pub returns-clause-gone_object : goal.returns-clause-gone_object
unfolding class_sizes
returns-clause-gone_object c = log_if _ _ _ (search) (search)

pub returns-clause-collection : goal.returns-clause-collection
unfolding class_sizes
returns-clause-collection c = log_if _ _ _ (search) (search)

pub returns-clause-turns : goal.returns-clause-turns
unfolding class_sizes
returns-clause-turns c = log_if _ _ _ (search) (search)
