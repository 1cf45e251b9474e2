-- The lemmas say it.
use Rattle.mm_audit.proofs.Fitting.{fewer_fit}
use Rattle.mm_audit.proofs.Answers.{before_fits, this_fits_not}
use Rattle.mm_audit.proofs.laws.each_front_fits.Goals as goal

pub returns-clause-fewer : goal.returns-clause-fewer
returns-clause-fewer c = fewer_fit

pub returns-clause-before : goal.returns-clause-before
returns-clause-before c = before_fits

pub returns-clause-not_this : goal.returns-clause-not_this
returns-clause-not_this c = this_fits_not
