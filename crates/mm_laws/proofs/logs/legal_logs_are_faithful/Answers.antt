-- The lemma says it.
use Rattle.mm_laws.proofs.Turning.Faithful.{legal_log_is_faithful}
use Rattle.mm_laws.proofs.logs.legal_logs_are_faithful.Goals as goal

pub returns : goal.returns
returns c = legal_log_is_faithful
