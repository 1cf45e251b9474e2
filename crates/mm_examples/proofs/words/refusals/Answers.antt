-- Each log is computed.
use Rattle.mm_model.specs.Places.SizeClass.{class_sizes}
use Rattle.mm_examples.proofs.Running.{log_if}
use Rattle.mm_examples.proofs.words.refusals.Goals as goal

pub returns-clause-cells : goal.returns-clause-cells
unfolding class_sizes
returns-clause-cells c = log_if _ _ _ (search) (search)

pub returns-clause-full_stack : goal.returns-clause-full_stack
unfolding class_sizes
returns-clause-full_stack c = log_if _ _ _ (search) (search)

pub returns-clause-shapes : goal.returns-clause-shapes
unfolding class_sizes
returns-clause-shapes c = log_if _ _ _ (search) (search)
