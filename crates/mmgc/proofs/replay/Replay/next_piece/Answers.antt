use Rattle.std.proofs.Common.{refl, arith, length-append}
use Rattle.mmgc.proofs.Ends.{ended-fault, ended-too_long}
use Rattle.mmgc.proofs.replay.Replay.next_piece.Goals as goal

-- so many bytes there may not be
pub returns-then-room-count-clause-taken : goal.returns-then-room-count-clause-taken
returns-then-room-count-clause-taken g c start bytes input room clean given p =
    let past = c.if-room-count.true in
    ended-too_long c.args.piece.now given clean p (omega (arith, room)) (omega (arith, room, past)) c.requires.piece.1

pub returns-in-Ok-clause-taken : goal.returns-in-Ok-clause-taken
returns-in-Ok-clause-taken g c start bytes input room clean given p =
    record {
      piece = c.args.piece.now;
      given = given;
      count = refl;
      some = c.requires.piece.0;
      clean = clean;
      progress = c.in-Ok.ensures.progress start bytes (omega arith) p;
    }

pub returns-in-Err-clause-taken : goal.returns-in-Err-clause-taken
returns-in-Err-clause-taken g c start bytes input room clean given p =
    let more = length-append bytes c.args.piece.now in
    ended-fault c.args.piece.now given clean (omega (arith, room, more)) _
    (c.in-Err.ensures.progress start bytes (omega arith) p)
