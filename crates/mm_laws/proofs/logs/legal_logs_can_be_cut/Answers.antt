-- The lemmas say it.
use Rattle.mm_laws.proofs.Stepping.Runs.{run-cut, cut-joined}
use Rattle.mm_laws.proofs.logs.legal_logs_can_be_cut.Goals as goal

pub returns : goal.returns
returns c = λ a first others log b. (run-cut a first others log b, cut-joined a first others log b)
