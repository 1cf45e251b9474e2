-- The lemma says it.
use Rattle.mm_audit.proofs.Answers.{some_answer}
use Rattle.mm_audit.proofs.laws.every_log_has_an_answer.Goals as goal

pub returns : goal.returns
returns c = some_answer
