-- Each log is computed.
use Rattle.mm_model.specs.Places.SizeClass.{class_sizes}
use Rattle.mm_examples.proofs.Running.{log_if}
use Rattle.mm_examples.proofs.words.words.Goals as goal

pub returns-clause-last_byte : goal.returns-clause-last_byte
unfolding class_sizes
returns-clause-last_byte c = log_if _ _ _ (search) (search)

pub returns-clause-slots : goal.returns-clause-slots
unfolding class_sizes
returns-clause-slots c = log_if _ _ _ (search) (search)
