-- Each log is computed.
use Rattle.mm_model.specs.Places.SizeClass.{class_sizes}
use Rattle.mm_examples.proofs.Running.{log_if}
use Rattle.mm_examples.proofs.finalizers.finalizers.Goals as goal

pub returns-clause-counted_slots : goal.returns-clause-counted_slots
unfolding class_sizes
returns-clause-counted_slots c = log_if _ _ _ (search) (search)

pub returns-clause-wrapped_sum : goal.returns-clause-wrapped_sum
unfolding class_sizes
returns-clause-wrapped_sum c = log_if _ _ _ (search) (search)

pub returns-clause-both_ends : goal.returns-clause-both_ends
unfolding class_sizes
returns-clause-both_ends c = log_if _ _ _ (search) (search)
