-- Each log is computed.
use Rattle.mm_model.specs.Places.SizeClass.{class_sizes}
use Rattle.mm_examples.proofs.Running.{log_if}
use Rattle.mm_examples.proofs.finishing.kept_at_the_end.Goals as goal

pub returns-clause-counted_slot : goal.returns-clause-counted_slot
unfolding class_sizes
returns-clause-counted_slot c = log_if _ _ _ (search) (search)

pub returns-clause-stack_alone : goal.returns-clause-stack_alone
unfolding class_sizes
returns-clause-stack_alone c = log_if _ _ _ (search) (search)
