use Rattle.std.proofs.Common.{sym}
use Rattle.std.specs.Prelude.{length}
use Rattle.mm_model.specs.declared.line.Line.TheVariants as lines
use Rattle.mmgc.specs.Keeping.{writes-line}
use Rattle.mmgc.proofs.log.LogWriterFinalizer.finalize.Goals as goal

pub returns : goal.returns
returns g c = (
  rw
      (sym c.wrapping_sum.ensures)
      (writes-line (lines.Final c.args.base (length c.args.slots.now) c.wrapping_sum.result) c.line.ensures.written),
  c.line.ensures.kept,
)
