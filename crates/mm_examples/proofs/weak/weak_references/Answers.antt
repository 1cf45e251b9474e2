-- Each log is computed.
use Rattle.mm_model.specs.Places.SizeClass.{class_sizes}
use Rattle.mm_examples.proofs.Running.{log_if}
use Rattle.mm_examples.proofs.weak.weak_references.Goals as goal

pub returns-clause-freed_target : goal.returns-clause-freed_target
unfolding class_sizes
returns-clause-freed_target c = log_if _ _ _ (search) (search)

pub returns-clause-unheld : goal.returns-clause-unheld
unfolding class_sizes
returns-clause-unheld c = log_if _ _ _ (search) (search)
