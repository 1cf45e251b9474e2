-- The lemma says it.
use Rattle.mm_audit.proofs.Lines.{log_lines-joined}
use Rattle.mm_audit.proofs.laws.lines_make_up_a_log.Goals as goal

pub returns : goal.returns
returns c = log_lines-joined
