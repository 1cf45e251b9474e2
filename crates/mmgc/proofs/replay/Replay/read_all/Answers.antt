use Rattle.std.proofs.Common.{◌++◌, length-append, arith, ◌∙◌}
use Rattle.mm_io.proofs.ToldLemmas.{Gives-append}
use Rattle.mmgc.specs.Keeping.{keeps-trans}
use Rattle.mmgc.specs.Logging.{moment_of}
use Rattle.mmgc.proofs.Ends.{ended-since}
use Rattle.mmgc.proofs.replay.Replay.read_all.Goals as goal

pub turn-requires-clause-room : goal.turn-requires-clause-room
turn-requires-clause-room g c =
    let came = c.loop-count.invariant.came c.requires.0 c.requires.1 in
    record { start = c.requires.0; bytes = came.bytes; progress = came.progress; room = omega (arith, came.room) }

pub overflow_sub-room : goal.overflow_sub-room
overflow_sub-room g c = c.in-Ok.ensures.room_left

pub loop-count-smaller : goal.loop-count-smaller
loop-count-smaller g c =
    let came = c.loop-count.invariant.came c.requires.0 c.requires.1 in
    let t = c.in-Ok.ensures.turned c.requires.0 came.bytes came.room came.progress in
    omega (arith, t.some, c.in-Ok.ensures.room_left)

pub loop-count-preserved : goal.loop-count-preserved
loop-count-preserved g c =
    let inv = c.loop-count.invariant in
    let first = inv.came c.requires.0 c.requires.1 in
    let taken = c.in-Ok.ensures.turned c.requires.0 first.bytes first.room first.progress in
    record {
      came = λ start p.
          let came = inv.came start p in
          let t = c.in-Ok.ensures.turned start came.bytes came.room came.progress in
          let more = length-append came.bytes t.piece in
          record {
            bytes = came.bytes ++ t.piece;
            given = Gives-append (g.S.Source.left c.args.source.now) (g.S.Source.left c.loop-count.source)
                (g.S.Source.left c.turn.new.source) came.bytes t.piece came.given t.given;
            room = omega (arith, more, t.count, c.in-Ok.ensures.room_left, came.room);
            progress = t.progress;
          };
      clean = taken.clean ∙ inv.clean;
      kept = keeps-trans inv.kept c.turn.ensures.kept;
      buffer = omega (arith, c.turn.auto.buffer, inv.buffer);
    }

pub returns-in-Err-clause-ended : goal.returns-in-Err-clause-ended
returns-in-Err-clause-ended g c start p =
    let inv = c.loop-count.invariant in
    let came = inv.came start p in
    ended-since {now = moment_of g.K.Sink.taken c.turn.new.heap c.turn.new.self c.turn.new.log}
    (g.S.Source.left c.args.source.now) (g.S.Source.faults c.args.source.now) came.given inv.clean
    (c.in-Err.ensures.turned start came.bytes came.room came.progress)

pub returns-in-Err-clause-kept : goal.returns-in-Err-clause-kept
returns-in-Err-clause-kept g c = keeps-trans c.loop-count.invariant.kept c.turn.ensures.kept
