use Rattle.std.proofs.Common.{None, Some, refl, subst, sym}
use Rattle.mmgc.specs.Logging.{driver_with, kept_by}
use Rattle.mmgc.specs.Pacing.{Advances, IsReady}
use Rattle.mmgc.proofs.Pacing.Carried.{advances-alone, is_ready}
use Rattle.mmgc.proofs.executor.Executor.execute.Goals as goal

pub execute-requires : goal.execute-requires
execute-requires g c = subst (λ kept. IsReady (driver_with c.args.heap.now kept)) c.in-Some.is c.requires

pub returns-in-Some-clause-advanced : goal.returns-in-Some-clause-advanced
returns-in-Some-clause-advanced g c =
    let new = c.execute.new in
    subst (λ kept. Advances (driver_with c.args.heap.now kept) (driver_with new.heap (Some new.self)) c.args.command.now
    (kept_by g.K.Sink.taken c.args.log.now) (kept_by g.K.Sink.taken new.log)) (sym c.in-Some.is)
    c.execute.ensures.advanced

pub execute_booked-requires-clause-commands : goal.execute_booked-requires-clause-commands
execute_booked-requires-clause-commands g c = (is_ready c.requires).commands

pub execute_booked-requires-clause-births : goal.execute_booked-requires-clause-births
execute_booked-requires-clause-births g c = (is_ready c.requires).births

pub returns-in-None-clause-advanced : goal.returns-in-None-clause-advanced
returns-in-None-clause-advanced g c =
    let new = c.execute_booked.new in
    let before = kept_by g.K.Sink.taken c.args.log.now in
    let after = kept_by g.K.Sink.taken new.log in
    subst (λ kept. Advances (driver_with c.args.heap.now kept) (driver_with new.heap kept) c.args.command.now before
    after) (sym c.in-None.is)
    (advances-alone c.sites_of_births_come_one_after_another.ensures c.args.heap.now new.heap None None
    c.args.command.now before after c.execute_booked.ensures.carried.0 refl refl)
