-- Each log is computed.
use Rattle.mm_model.specs.Places.SizeClass.{class_sizes}
use Rattle.mm_examples.proofs.Running.{log_if}
use Rattle.mm_examples.proofs.answers.answers.Goals as goal

pub returns-clause-causes : goal.returns-clause-causes
unfolding class_sizes
returns-clause-causes c = log_if _ _ _ (search) (search)

pub returns-clause-cells : goal.returns-clause-cells
unfolding class_sizes
returns-clause-cells c = log_if _ _ _ (search) (search)

pub returns-clause-dropped_area : goal.returns-clause-dropped_area
unfolding class_sizes
returns-clause-dropped_area c = log_if _ _ _ (search) (search)
