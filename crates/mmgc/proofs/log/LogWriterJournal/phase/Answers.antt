use Rattle.mm_model.specs.declared.line.Line.TheVariants as lines
use Rattle.mmgc.specs.Keeping.{writes-line}
use Rattle.mmgc.proofs.log.LogWriterJournal.phase.Goals as goal

pub returns : goal.returns
returns g c = (writes-line (lines.Phase c.args.what c.args.freed) c.line.ensures.written, c.line.ensures.kept)
