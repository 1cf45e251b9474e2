use Rattle.std.proofs.Common.{Some, refl, subst, sym}
use Rattle.mmgc.specs.Logging.{kept_by, left_of}
use Rattle.mmgc.specs.Pacing.{Advances, IsReady, team_of}
use Rattle.mmgc.proofs.Pacing.Carried.{advances-alone, advances-paced, is_ready, ready-team}
use Rattle.mmgc.proofs.executor.Bookkeeping.execute.Goals as goal

pub pace_command-requires-clause-ready : goal.pace_command-requires-clause-ready
pace_command-requires-clause-ready g c =
    (ready-team {team = team_of c.in-Some.pace c.args.heap.now c.args.self.now.book}
    (subst (λ pace. IsReady (record { heap = c.args.heap.now; pace = pace; book = c.args.self.now.book })) c.in-Some.is
    c.requires)).ready

pub pace_command-requires-clause-paid : goal.pace_command-requires-clause-paid
pace_command-requires-clause-paid g c =
    (ready-team {team = team_of c.in-Some.pace c.args.heap.now c.args.self.now.book}
    (subst (λ pace. IsReady (record { heap = c.args.heap.now; pace = pace; book = c.args.self.now.book })) c.in-Some.is
    c.requires)).paid

pub returns-in-Some-clause-advanced : goal.returns-in-Some-clause-advanced
returns-in-Some-clause-advanced g c =
    let new = c.pace_command.new in
    subst (λ pace. Advances (record { heap = c.args.heap.now; pace = pace; book = c.args.self.now.book })
    (record { heap = new.heap; pace = Some new.pace; book = new.book }) c.args.command.now
    (kept_by g.K.Sink.taken c.args.log.now) (kept_by g.K.Sink.taken new.log)) (sym c.in-Some.is)
    (advances-paced c.paced_lists_can_be_carried_on.ensures.one_more c.sites_of_births_come_one_after_another.ensures
    (team_of c.in-Some.pace c.args.heap.now c.args.self.now.book)
    (left_of g.K.Sink.taken (team_of new.pace new.heap new.book) c.args.self.now.book c.args.log.now new.log)
    c.args.command.now refl c.pace_command.ensures.rate c.pace_command.ensures.book c.pace_command.ensures.paced)

pub execute_booked-requires-clause-commands : goal.execute_booked-requires-clause-commands
execute_booked-requires-clause-commands g c = (is_ready c.requires).commands

pub execute_booked-requires-clause-births : goal.execute_booked-requires-clause-births
execute_booked-requires-clause-births g c = (is_ready c.requires).births

pub execute_booked-requires-clause-in_use : goal.execute_booked-requires-clause-in_use
execute_booked-requires-clause-in_use g c = (is_ready c.requires).in_use

pub returns-in-None-clause-advanced : goal.returns-in-None-clause-advanced
returns-in-None-clause-advanced g c =
    let new = c.execute_booked.new in
    subst (λ pace. Advances (record { heap = c.args.heap.now; pace = pace; book = c.args.self.now.book })
    (record { heap = new.heap; pace = pace; book = new.book }) c.args.command.now
    (kept_by g.K.Sink.taken c.args.log.now) (kept_by g.K.Sink.taken new.log)) (sym c.in-None.is)
    (advances-alone c.sites_of_births_come_one_after_another.ensures c.args.heap.now new.heap c.args.self.now.book
    new.book c.args.command.now (kept_by g.K.Sink.taken c.args.log.now) (kept_by g.K.Sink.taken new.log)
    c.execute_booked.ensures.carried.0 c.execute_booked.ensures.book c.execute_booked.ensures.carried.2)
