use Rattle.mmgc.proofs.GeneratedTraces.{generated}
use Rattle.mmgc.proofs.generating.generate_log.Goals as goal

pub returns-clause-generated : goal.returns-clause-generated
returns-clause-generated g c settings new =
    generated c.args.trace (c.execute_all.ensures settings new) c.write_total.ensures.ends
