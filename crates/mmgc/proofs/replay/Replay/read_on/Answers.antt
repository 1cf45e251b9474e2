use Rattle.std.proofs.Common.{[], take, sym, subst, arith}
use Rattle.mm_io.specs.Told.{Gives}
use Rattle.mm_io.proofs.ToldLemmas.{Gives-nothing}
use Rattle.mmgc.proofs.Ends.{ended-read_fault}
use Rattle.mmgc.proofs.replay.Replay.read_on.Goals as goal

pub returns-in-Err-clause-turned : goal.returns-in-Err-clause-turned
returns-in-Err-clause-turned g c start bytes room p =
    ended-read_fault (omega (arith, room))
    (subst (λ left. Gives (g.S.Source.left c.args.source.now) left []) (sym c.in-Err.ensures.failed)
    (Gives-nothing (g.S.Source.left c.args.source.now))) p c.in-Err.ensures.faults.cause

pub returns-in-Ok-eq0-clause-turned : goal.returns-in-Ok-eq0-clause-turned
returns-in-Ok-eq0-clause-turned g c start bytes room p =
    let read = c.in-Ok-eq0.ensures in
    let given = subst (λ n. Gives (g.S.Source.left c.args.source.now) (g.S.Source.left c.read.new.self)
    (take n c.read.new.buf)) c.in-Ok-eq0.field-0-test read.given in
    c.last_line.ensures.ended start bytes _ (omega arith) (read.end c.in-Ok-eq0.field-0-test)
    read.faults.unraised given p

pub returns-in-Ok-clause-turned : goal.returns-in-Ok-clause-turned
returns-in-Ok-clause-turned g c start bytes room p =
    let read = c.in-Ok.ensures in
    c.next_piece.ensures.taken start bytes _ room read.faults.unraised read.given p
