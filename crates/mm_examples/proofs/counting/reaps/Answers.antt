-- Each log is computed.
use Rattle.mm_model.specs.Places.SizeClass.{class_sizes}
use Rattle.mm_examples.proofs.Running.{log_if}
use Rattle.mm_examples.proofs.counting.reaps.Goals as goal

pub returns-clause-stack : goal.returns-clause-stack
unfolding class_sizes
returns-clause-stack c = log_if _ _ _ (search) (search)

pub returns-clause-chain : goal.returns-clause-chain
unfolding class_sizes
returns-clause-chain c = log_if _ _ _ (search) (search)

pub returns-clause-ring : goal.returns-clause-ring
unfolding class_sizes
returns-clause-ring c = log_if _ _ _ (search) (search)

pub returns-clause-loose_word : goal.returns-clause-loose_word
unfolding class_sizes
returns-clause-loose_word c = log_if _ _ _ (search) (search)
