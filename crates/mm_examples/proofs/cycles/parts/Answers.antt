-- Each log is computed.
use Rattle.mm_model.specs.Places.SizeClass.{class_sizes}
use Rattle.mm_examples.proofs.Running.{log_if}
use Rattle.mm_examples.proofs.cycles.parts.Goals as goal

pub returns-clause-first : goal.returns-clause-first
unfolding class_sizes
returns-clause-first c = log_if _ _ _ (search) (search)

pub returns-clause-second : goal.returns-clause-second
unfolding class_sizes
returns-clause-second c = log_if _ _ _ (search) (search)
