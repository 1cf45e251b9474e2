use Rattle.mmgc.proofs.Telling.{takes_first, takes_next}
use Rattle.mmgc.proofs.program.write_both.Goals as goal

pub returns-in_err-write_part : goal.returns-in_err-write_part
returns-in_err-write_part g c = takes_first c.from_residual.result c.args.next.now c.from_residual.ensures.0
    c.in_err-write_part.ensures

pub returns : goal.returns
returns g c = takes_next c.write_part-2.result c.in_ok-write_part.ensures c.write_part-2.ensures
