-- Each log is computed.
use Rattle.mm_model.specs.Places.SizeClass.{class_sizes}
use Rattle.mm_examples.proofs.Running.{log_if}
use Rattle.mm_examples.proofs.full.reaps_at_the_end.Goals as goal

pub returns-clause-of_collect : goal.returns-clause-of_collect
unfolding class_sizes
returns-clause-of_collect c = log_if _ _ _ (search) (search)

pub returns-clause-of_finish : goal.returns-clause-of_finish
unfolding class_sizes
returns-clause-of_finish c = log_if _ _ _ (search) (search)

pub returns-clause-of_begin : goal.returns-clause-of_begin
unfolding class_sizes
returns-clause-of_begin c = log_if _ _ _ (search) (search)
