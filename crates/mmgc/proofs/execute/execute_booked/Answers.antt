use Rattle.std.proofs.Common.{Some, refl, subst, sym}
use Rattle.mmgc.specs.Booking.{IsInUse, MayBookOn}
use Rattle.std.specs.Prelude.{IfSome}
use Rattle.mmgc.specs.Carrying.{group_of}
use Rattle.mmgc.proofs.execute.execute_booked.Goals as goal

pub returns-in-None-clause-carried : goal.returns-in-None-clause-carried
returns-in-None-clause-carried g c =
    let done = c.execute.ensures.carried.0 in (
      done,
      c.execute.ensures.carried.1,
      subst (λ found. MayBookOn c.args.heap.now c.args.command.now (group_of done) found c.args.book.now)
          (sym c.in-None.is) c.in-None.is,
    )

pub execute_at_site-requires-clause-in_use : goal.execute_at_site-requires-clause-in_use
execute_at_site-requires-clause-in_use g c =
    subst (λ found. IfSome found (IsInUse c.args.heap.now)) c.in-Some.is c.requires.in_use

pub returns-in-Some-clause-carried : goal.returns-in-Some-clause-carried
returns-in-Some-clause-carried g c =
    let did = c.execute_at_site.ensures.carried in (
      did.0,
      did.1,
      subst (λ found. MayBookOn c.args.heap.now c.args.command.now (group_of did.0) found
          (Some c.execute_at_site.new.book))
          (sym c.in-Some.is) (c.execute_at_site.new.book, refl, did.2),
    )
