use Rattle.mmgc.specs.Keeping.{keeps-trans}
use Rattle.mmgc.proofs.log.LogWriter.line.Goals as goal

pub returns-clause-kept : goal.returns-clause-kept
returns-clause-kept g c = keeps-trans c.make_room.ensures.kept c.append.ensures.kept
