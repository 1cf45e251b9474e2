-- Each log is computed.
use Rattle.mm_model.specs.Places.SizeClass.{class_sizes}
use Rattle.mm_examples.proofs.Running.{log_if}
use Rattle.mm_examples.proofs.cycles.barriers.Goals as goal

pub returns-clause-black_birth : goal.returns-clause-black_birth
unfolding class_sizes
returns-clause-black_birth c = log_if _ _ _ (search) (search)

pub returns-clause-moved : goal.returns-clause-moved
unfolding class_sizes
returns-clause-moved c = log_if _ _ _ (search) (search)
