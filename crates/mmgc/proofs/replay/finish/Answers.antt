use Rattle.mmgc.specs.Keeping.{keeps-trans}
use Rattle.mmgc.proofs.Ends.{logged-written_out}
use Rattle.mmgc.proofs.replay.finish.Goals as goal

pub returns-clause-finished : goal.returns-clause-finished
returns-clause-finished g c start reach fault same of stopped =
    logged-written_out (c.total.ensures.totalled start reach fault same of stopped) c.finish_log.ensures.written

pub returns-clause-kept : goal.returns-clause-kept
returns-clause-kept g c = keeps-trans c.total.ensures.kept c.finish_log.ensures.kept
