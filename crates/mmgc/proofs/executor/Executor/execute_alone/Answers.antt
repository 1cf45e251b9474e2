use Rattle.std.proofs.Common.{None, refl, subst, sym}
use Rattle.mmgc.specs.Logging.{driver_with, kept_by}
use Rattle.mmgc.specs.Pacing.{Advances}
use Rattle.mmgc.proofs.Pacing.Carried.{advances-alone, is_ready}
use Rattle.mmgc.proofs.executor.Executor.execute_alone.Goals as goal

pub execute-requires-clause-commands : goal.execute-requires-clause-commands
execute-requires-clause-commands g c = (is_ready c.requires.ready).commands

pub execute-requires-clause-births : goal.execute-requires-clause-births
execute-requires-clause-births g c = (is_ready c.requires.ready).births

pub returns-clause-advanced : goal.returns-clause-advanced
returns-clause-advanced g c =
    let new = c.execute.new in
    let before = kept_by g.K.Sink.taken c.args.log.now in
    let after = kept_by g.K.Sink.taken new.log in
    subst (λ kept. Advances (driver_with c.args.heap.now kept) (driver_with new.heap kept) c.args.command.now before
    after) (sym c.requires.alone)
    (advances-alone c.sites_of_births_come_one_after_another.ensures c.args.heap.now new.heap None None
    c.args.command.now before after c.execute.ensures.carried.0 refl refl)
