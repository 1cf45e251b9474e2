-- The lemma says it.
use Rattle.mm_audit.proofs.Answers.{answers_same}
use Rattle.mm_audit.proofs.laws.an_answer_is_determined.Goals as goal

pub returns-clause-same : goal.returns-clause-same
returns-clause-same c = answers_same
