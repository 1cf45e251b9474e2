use Rattle.std.proofs.Common.{sym, subst, ap}
use Rattle.mm_model.specs.Views.View.{view_of}
use Rattle.mm_why.specs.Path.{shown_in}
use Rattle.mmgc.specs.declared.extras.Extras.{Extras}
use Rattle.mmgc.specs.Added.{IsAnswer}
use Rattle.mmgc.specs.Appending.{Appended}
use Rattle.mmgc.specs.Keeping.{keeps-trans}
use Rattle.mmgc.specs.Logging.{driver_of, kept_by}
use Rattle.mmgc.specs.Replaying.{Stopped}
use Rattle.mmgc.specs.Run.{IsFaultOf, Logged, lines_in}
use Rattle.mmgc.proofs.Ends.{logged-whole, logged-other}
use Rattle.mmgc.proofs.replay.total.Goals as goal

pub returns-in-Whole-clause-totalled : goal.returns-in-Whole-clause-totalled
returns-in-Whole-clause-totalled g c start reach fault same of stopped =
    let none = subst (λ end. IsFaultOf end fault) c.in-Whole.is of in
    let stopped_whole = subst (λ f. Stopped start (lines_in reach) f (driver_of c.args.heap.now c.args.executor.now)
    (kept_by g.K.Sink.taken c.args.log.now)) none stopped in
    subst (λ end. Logged end start reach c.args.heap.now
    (kept_by g.K.Sink.taken c.write.new.log)) (sym c.in-Whole.is)
    (logged-whole c.totals_are_those_of_the_living.ensures reach c.totals.result stopped_whole c.totals.ensures
    c.line.ensures.written c.write_sites.ensures.written
    (λ a shows. subst (λ why. Appended (IsAnswer why (shown_in (view_of a)))
    (kept_by g.K.Sink.taken c.write_sites.new.log) (kept_by g.K.Sink.taken c.write.new.log))
    (sym (ap (λ (extras : Extras). extras.why) same)) (c.write.ensures.written a shows)))

pub returns-in-Whole-clause-kept : goal.returns-in-Whole-clause-kept
returns-in-Whole-clause-kept g c =
    keeps-trans (keeps-trans c.line.ensures.kept c.write_sites.ensures.kept) c.write.ensures.kept

pub returns-in_default-clause-totalled : goal.returns-in_default-clause-totalled
returns-in_default-clause-totalled g c start reach fault same of stopped =
    logged-other c.args.end reach c.in_default.not-Whole stopped
