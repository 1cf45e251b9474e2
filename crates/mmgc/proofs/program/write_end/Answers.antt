use Rattle.std.proofs.Common.{sym, subst}
use Rattle.mmgc.specs.Telling.{Takes, end_text}
use Rattle.mmgc.proofs.program.write_end.Goals as goal

pub returns-in-WriteFailed : goal.returns-in-WriteFailed
returns-in-WriteFailed g c =
    let before = c.args.err.now in
    let part = c.write_part-in-WriteFailed in
    subst (λ end. Takes (g.E.Sink.taken before) (g.E.Sink.taken part.new.err) (g.E.Sink.faults before)
    (g.E.Sink.faults part.new.err) part.result (end_text end))
    (sym c.in-WriteFailed.is) part.ensures

pub returns-in-TooLong : goal.returns-in-TooLong
returns-in-TooLong g c =
    let before = c.args.err.now in
    let part = c.write_part-in-TooLong in
    subst (λ end. Takes (g.E.Sink.taken before) (g.E.Sink.taken part.new.err) (g.E.Sink.faults before)
    (g.E.Sink.faults part.new.err) part.result (end_text end))
    (sym c.in-TooLong.is) part.ensures
