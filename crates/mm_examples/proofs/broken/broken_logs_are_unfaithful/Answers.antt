-- The lemma says it.
use Rattle.mm_examples.proofs.Breaking.{broken-unfaithful}
use Rattle.mm_examples.proofs.broken.broken_logs_are_unfaithful.Goals as goal

pub returns : goal.returns
returns c = broken-unfaithful
