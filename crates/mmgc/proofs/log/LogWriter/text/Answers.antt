use Rattle.mmgc.specs.Keeping.{keeps-trans}
use Rattle.mmgc.proofs.log.LogWriter.text.Goals as goal

pub returns-clause-kept : goal.returns-clause-kept
returns-clause-kept g c = keeps-trans c.make_room.ensures.kept c.append_text.ensures.kept
