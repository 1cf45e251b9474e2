-- A spelling ends with a newline byte, and a rest has none.
use Rattle.mm_audit.proofs.Lines.{rest_is_no_spelling}
use Rattle.mm_audit.proofs.Fitting.{few_fit}
use Rattle.mm_audit.proofs.laws.a_rest_is_no_spelling.Goals as goal

pub returns-clause-rest : goal.returns-clause-rest
returns-clause-rest c = rest_is_no_spelling

pub returns-clause-ended : goal.returns-clause-ended
returns-clause-ended c = few_fit
