-- Each log is computed.
use Rattle.mm_model.specs.Places.SizeClass.{class_sizes}
use Rattle.mm_examples.proofs.Running.{log_if}
use Rattle.mm_examples.proofs.areas.areas.Goals as goal

pub returns-clause-numbers : goal.returns-clause-numbers
unfolding class_sizes
returns-clause-numbers c = log_if _ _ _ (search) (search)

pub returns-clause-counted_cell : goal.returns-clause-counted_cell
unfolding class_sizes
returns-clause-counted_cell c = log_if _ _ _ (search) (search)

pub returns-clause-unscanned : goal.returns-clause-unscanned
unfolding class_sizes
returns-clause-unscanned c = log_if _ _ _ (search) (search)

pub returns-clause-inner_word : goal.returns-clause-inner_word
unfolding class_sizes
returns-clause-inner_word c = log_if _ _ _ (search) (search)
