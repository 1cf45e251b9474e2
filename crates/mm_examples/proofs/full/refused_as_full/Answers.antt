-- Each log is computed.
use Rattle.mm_model.specs.Places.SizeClass.{class_sizes}
use Rattle.mm_examples.proofs.Running.{log_if}
use Rattle.mm_examples.proofs.full.refused_as_full.Goals as goal

pub returns-clause-run_of_pages : goal.returns-clause-run_of_pages
unfolding class_sizes
returns-clause-run_of_pages c = log_if _ _ _ (search) (search)

pub returns-clause-greatest_region : goal.returns-clause-greatest_region
unfolding class_sizes
returns-clause-greatest_region c = log_if _ _ _ (search) (search)

pub returns-clause-left : goal.returns-clause-left
unfolding class_sizes
returns-clause-left c = log_if _ _ _ (search) (search)

pub returns-clause-threshold : goal.returns-clause-threshold
unfolding class_sizes
returns-clause-threshold c = log_if _ _ _ (search) (search)
