use Rattle.mmgc.specs.Keeping.{keeps-trans}
use Rattle.mmgc.proofs.log.LogWriter.finish.Goals as goal

pub returns-clause-kept : goal.returns-clause-kept
returns-clause-kept g c = keeps-trans c.write_pending.ensures.kept c.flush.ensures.kept
