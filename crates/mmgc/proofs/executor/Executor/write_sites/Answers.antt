use Rattle.std.proofs.Common.{subst, sym}
use Rattle.mmgc.specs.Booking.{booked_text}
use Rattle.mmgc.specs.Carrying.{Grew}
use Rattle.mmgc.specs.Logging.{book_in, kept_by}
use Rattle.mmgc.proofs.executor.Executor.write_sites.Goals as goal

pub returns-in-Some-clause-written : goal.returns-in-Some-clause-written
returns-in-Some-clause-written g c =
    subst (λ found. Grew (kept_by g.K.Sink.taken c.args.log.now) (kept_by g.K.Sink.taken c.write_sites.new.log)
    (booked_text (book_in found))) (sym c.in-Some.is) c.write_sites.ensures.written
