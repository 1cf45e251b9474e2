-- Each log is computed.
use Rattle.mm_model.specs.Places.SizeClass.{class_sizes}
use Rattle.mm_examples.proofs.Running.{log_if}
use Rattle.mm_examples.proofs.answers.numbers.Goals as goal

pub returns-clause-number_on_the_stack : goal.returns-clause-number_on_the_stack
unfolding class_sizes
returns-clause-number_on_the_stack c = log_if _ _ _ (search) (search)

pub returns-clause-zero_count : goal.returns-clause-zero_count
unfolding class_sizes
returns-clause-zero_count c = log_if _ _ _ (search) (search)
