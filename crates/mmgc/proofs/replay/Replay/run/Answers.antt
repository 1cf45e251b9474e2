use Rattle.std.proofs.Common.{ap, refl, subst, sym, ◌∙◌}
use Rattle.mmgc.specs.declared.extras.Extras.{Extras}
use Rattle.mmgc.specs.Appending.{IsReadyFor, asked_of}
use Rattle.mmgc.specs.Keeping.{keeps-trans}
use Rattle.mmgc.specs.Logging.{book_of, kept_by}
use Rattle.mm_model.specs.declared.settings.Settings.{Settings}
use Rattle.mmgc.specs.Replaying.{start_with}
use Rattle.mmgc.specs.Writing.{kept_bytes}
use Rattle.mmgc.proofs.Replays.{progress-began}
use Rattle.mmgc.proofs.Ends.{asked_on, replayed, was_whole}
use Rattle.mmgc.proofs.replay.Replay.run.Goals as goal

pub read_all-read-requires : goal.read_all-read-requires
read_all-read-requires g c =
    let kept = kept_by g.K.Sink.taken c.args.log.now in
    let extras = asked_of c.requires.new.0 (book_of c.args.self.now.executor) c.args.appendix.now in (
      start_with c.requires.new.1 extras kept,
      progress-began c.requires.new.1 extras kept c.requires.cutter c.requires.lines c.requires.whole
          c.requires.new.2 refl (c.nothing_is_entered_at_first.ensures c.requires.new.1 _),
    )

-- the heap shows a state behind what was read, whose settings are those with which it was made
pub finish-requires-clause-shows : goal.finish-requires-clause-shows
finish-requires-clause-shows g c =
    let kept = kept_by g.K.Sink.taken c.args.log.now in
    let extras = asked_of c.requires.new.0 (book_of c.args.self.now.executor) c.args.appendix.now in
    let carried = (c.read_all-read.ensures.ended (start_with c.requires.new.1 extras kept)
    (progress-began c.requires.new.1 extras kept c.requires.cutter c.requires.lines c.requires.whole c.requires.new.2
    refl (c.nothing_is_entered_at_first.ensures c.requires.new.1 _))).stopped.carried.carried in
    (carried.state, carried.shows)

pub finish-requires-clause-ready : goal.finish-requires-clause-ready
finish-requires-clause-ready g c =
    let kept = kept_by g.K.Sink.taken c.args.log.now in
    let extras = asked_of c.requires.new.0 (book_of c.args.self.now.executor) c.args.appendix.now in
    let carried = (c.read_all-read.ensures.ended (start_with c.requires.new.1 extras kept)
    (progress-began c.requires.new.1 extras kept c.requires.cutter c.requires.lines c.requires.whole c.requires.new.2
    refl (c.nothing_is_entered_at_first.ensures c.requires.new.1 _))).stopped.carried.carried in
    subst (λ (s : Settings). IsReadyFor s.max c.args.appendix.now)
    (c.requires.new.2.heap.shows.settings ∙ sym (carried.shows.settings ∙ carried.settings_stay)) c.requires.ready

pub returns-clause-replayed : goal.returns-clause-replayed
returns-clause-replayed g c rate settings new =
    let taken = g.K.Sink.taken in
    let faults = g.K.Sink.faults in
    let first = c.args.log.now in
    let last = c.finish.new.log in
    let extras = asked_of rate (book_of c.args.self.now.executor) c.args.appendix.now in
    let start = start_with settings extras (kept_by taken first) in
    let ended = c.read_all-read.ensures.ended start
    (progress-began settings extras (kept_by taken first) c.requires.cutter c.requires.lines c.requires.whole new refl
    (c.nothing_is_entered_at_first.ensures settings _)) in
    let kept = keeps-trans c.read_all-read.ensures.kept c.finish.ensures.kept in
    let asked = asked_on rate (book_of c.args.self.now.executor) (book_of c.read_all-read.new.self.executor) c.args.appendix.now
    ended.stopped.carried.asked in
    let logged = c.finish.ensures.finished start ended.reach ended.fault asked ended.fault_is ended.stopped in
    replayed
    (record {
      taken = taken first.sink.now;
      taken_after = taken last.sink.now;
      passed_after = g.K.Sink.passed last.sink.now;
      faults = faults first.sink.now;
      faults_after = faults last.sink.now;
    })
    c.read_all-read.new.heap ended last.broken last.pending.items c.finish.result c.finish.ensures.ends
    (λ e. c.finish.ensures.kept.stays_broken (ended.broken e))
    (record {
      started = ap (λ b. kept_bytes (taken first.sink.now) b first.pending.items) c.requires.whole
          ∙ ap (kept_bytes (taken first.sink.now) _) c.requires.pending;
      nothing_pending = c.finish.ensures.nothing_pending;
      grows = kept.grows;
      cause = λ broken. was_whole first.broken c.requires.whole (kept.cause broken);
      clean = kept.clean;
      passed = c.finish.ensures.passed;
    })
    logged
