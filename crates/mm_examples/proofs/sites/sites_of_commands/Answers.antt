-- The lines are read.
use Rattle.std.proofs.Common.{refl}
use Rattle.mm_model.specs.Logs.Trace.{line_reading, words_reading}
use Rattle.mm_examples.proofs.sites.sites_of_commands.Goals as goal

pub returns-clause-last : goal.returns-clause-last
unfolding line_reading words_reading
returns-clause-last c = refl

pub returns-clause-fault : goal.returns-clause-fault
unfolding line_reading words_reading
returns-clause-fault c = refl
