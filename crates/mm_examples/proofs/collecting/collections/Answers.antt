-- Each log is computed.
use Rattle.mm_model.specs.Places.SizeClass.{class_sizes}
use Rattle.mm_examples.proofs.Running.{log_if}
use Rattle.mm_examples.proofs.collecting.collections.Goals as goal

pub returns-clause-finalizers : goal.returns-clause-finalizers
unfolding class_sizes
returns-clause-finalizers c = log_if _ _ _ (search) (search)

pub returns-clause-leaf : goal.returns-clause-leaf
unfolding class_sizes
returns-clause-leaf c = log_if _ _ _ (search) (search)

pub returns-clause-counted_slot : goal.returns-clause-counted_slot
unfolding class_sizes
returns-clause-counted_slot c = log_if _ _ _ (search) (search)
