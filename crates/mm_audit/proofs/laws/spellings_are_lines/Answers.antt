-- The lemmas say it.
use Rattle.mm_audit.proofs.Lines.{log_lines-spelled}
use Rattle.mm_audit.proofs.Fitting.{whole_logs_fit}
use Rattle.mm_audit.proofs.laws.spellings_are_lines.Goals as goal

pub returns-clause-lines : goal.returns-clause-lines
returns-clause-lines c = log_lines-spelled

pub returns-clause-fits : goal.returns-clause-fits
returns-clause-fits c = whole_logs_fit
