use Rattle.std.proofs.Common.{[], ◌∷◌, ◌++◌, ◌+◌, Some, take, drop, refl, append-nil, ap, sym, subst}
use Rattle.std.proofs.lemmas.Result.{err_from_is_err_and}
use Rattle.mm_model.specs.Logs.Trace.{complete_lines}
use Rattle.mmgc.specs.Keeping.{keeps-same, keeps-trans}
use Rattle.mmgc.specs.Logging.{driver_of, kept_by, moment_of}
use Rattle.mmgc.specs.Replaying.{Progress, Stopped}
use Rattle.mmgc.proofs.Replays.{line_room, held_room, piece_here, piece_next, front_next, goes-on-held}
use Rattle.mmgc.proofs.replay.Replay.take_piece.Goals as goal

-- nothing was taken yet
pub loop-end-init : goal.loop-end-init
loop-end-init g c =
    record {
      front = [];
      here = refl;
      progress = λ start bytes room p. subst (λ all. Progress start all
          (moment_of g.K.Sink.taken c.args.heap.now c.args.self.now c.args.log.now)) (sym (append-nil bytes)) p;
      kept = keeps-same;
    }

pub take_ended-requires-clause-room : goal.take_ended-requires-clause-room
take_ended-requires-clause-room g c =
    let way = c.requires in
    let before = c.loop-end.invariant in
    record {
      start = way.start;
      bytes = way.bytes ++ before.front;
      progress = before.progress way.start way.bytes way.room way.progress;
      room = line_room way.bytes before.front c.loop-end.rest.now c.args.piece.now before.here c.in-Some.end
          c.in-Some.ensures.0 way.room;
    }

-- whatever follows in the piece
pub returns-in_err-take_ended-clause-progress : goal.returns-in_err-take_ended-clause-progress
returns-in_err-take_ended-clause-progress g c start bytes room p =
    let before = c.loop-end.invariant in
    let rest = c.loop-end.rest.now in
    let piece = c.args.piece.now in
    let end = c.in-Some.end in
    let stopped = c.in_err-take_ended.ensures.progress start (bytes ++ before.front)
    (line_room bytes before.front rest piece before.here end c.in-Some.ensures.0 room)
    (before.progress start bytes room p) (drop (end + 1) rest) in
    let failed = err_from_is_err_and c.from_residual.result c.from_residual.ensures.1 in
    rw (failed.1, failed.2) (subst (λ all. Stopped start (complete_lines all) (Some
    (record { line = c.take_ended.new.self.lines; fault = c.in_err-take_ended.field-0.0 }))
    (driver_of c.take_ended.new.heap c.take_ended.new.self.executor) (kept_by g.K.Sink.taken c.take_ended.new.log))
    (piece_here bytes before.front rest piece before.here end c.in-Some.ensures.2) stopped)

pub returns-in_err-take_ended-clause-kept : goal.returns-in_err-take_ended-clause-kept
returns-in_err-take_ended-clause-kept g c = keeps-trans c.loop-end.invariant.kept c.take_ended.ensures.kept

pub loop-end-preserved : goal.loop-end-preserved
loop-end-preserved g c =
    let before = c.loop-end.invariant in
    let rest = c.loop-end.rest.now in
    let piece = c.args.piece.now in
    let end = c.in-Some.end in
    record {
      front = (before.front ++ take end rest) ++ 10 ∷ [];
      here = piece_next [] before.front rest piece before.here end c.in-Some.ensures.2;
      progress = λ start bytes room p.
          let next = c.in_ok-take_ended.ensures.progress start (bytes ++ before.front)
          (line_room bytes before.front rest piece before.here end c.in-Some.ensures.0 room)
          (before.progress start bytes room p) in
          subst (λ all. Progress start all
          (moment_of g.K.Sink.taken c.take_ended.new.heap c.take_ended.new.self c.take_ended.new.log))
          (front_next bytes before.front rest piece before.here (take end rest)) next;
      kept = keeps-trans before.kept c.take_ended.ensures.kept;
    }

pub hold-requires : goal.hold-requires
hold-requires g c =
    let way = c.requires in
    let before = c.loop-end.invariant in
    held_room way.bytes before.front c.loop-end.rest.now c.args.piece.now before.here
    (before.progress way.start way.bytes way.room way.progress) way.room

-- no newline is in the rest
pub returns-clause-progress : goal.returns-clause-progress
returns-clause-progress g c start bytes room p =
    let before = c.loop-end.invariant in
    let did = c.hold.ensures in
    goes-on-held bytes before.front c.loop-end.rest.now c.args.piece.now before.here
    (record {
      command = c.sites_of_lines_come_one_after_another.ensures.command;
      passed_over = c.sites_of_lines_come_one_after_another.ensures.passed_over;
      fault = c.sites_of_lines_come_one_after_another.ensures.fault;
      site = c.sites_of_lines_come_one_after_another.ensures.site;
      named = c.lines_of_sites_are_passed_over.ensures;
    })
    c.hold.new.self.cutter c.hold.new.self.lines (driver_of c.loop-end.heap c.hold.new.self.executor) c.hold.result
    (before.progress start bytes room p)
    c.in_default.ensures (ap (driver_of c.loop-end.heap) did.executor) did.held did.fits
    did.too_long
