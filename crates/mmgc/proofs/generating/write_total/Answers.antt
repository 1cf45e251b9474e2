use Rattle.std.proofs.Common.{[], ap, append-nil, subst, ◌∙◌}
use mathlib.Core.Path.{subst₂}
use Rattle.mm_model.specs.Logs.Journal.{Writes}
use Rattle.mm_model.specs.Logs.Spelling.{spelling}
use Rattle.mm_model.specs.declared.line.Line.TheVariants as lines
use Rattle.mm_model.proofs.Text.Journals.{writes-append}
use Rattle.mmgc.specs.Keeping.{keeps-trans}
use Rattle.mmgc.specs.Writing.{kept_bytes}
use Rattle.mmgc.proofs.Ends.{text_written, was_whole}
use Rattle.mmgc.proofs.generating.write_total.Goals as goal

pub returns-clause-ends : goal.returns-clause-ends
returns-clause-ends g c =
    let taken = g.K.Sink.taken in
    let faults = g.K.Sink.faults in
    let first = c.args.log.now in
    let last = c.finish_log.new.log in
    let line = spelling (lines.Total c.totals.result) in
    let bytes = kept_bytes (taken first.sink.now) first.broken first.pending.items in
    let kept = keeps-trans c.line.ensures.kept c.finish_log.ensures.kept in
    let both = subst
    (Writes bytes first.broken (kept_bytes (taken last.sink.now) last.broken last.pending.items) last.broken)
    (append-nil line) (writes-append line [] c.line.ensures.written c.finish_log.ensures.written) in
    let written = subst₂
    (λ broken totals. Writes bytes broken (kept_bytes (taken last.sink.now) last.broken last.pending.items) last.broken
    (spelling (lines.Total totals))) c.requires.whole c.totals.ensures both in
    text_written
    (record {
      taken = taken first.sink.now;
      taken_after = taken last.sink.now;
      passed_after = g.K.Sink.passed last.sink.now;
      faults = faults first.sink.now;
      faults_after = faults last.sink.now;
    })
    bytes _ last.broken last.pending.items c.finish_log.result c.finish_log.ensures.ends
    (record {
      started = ap (λ b. kept_bytes (taken first.sink.now) b first.pending.items) c.requires.whole
          ∙ ap (kept_bytes (taken first.sink.now) _) c.requires.pending;
      nothing_pending = c.finish_log.ensures.nothing_pending;
      grows = kept.grows;
      cause = λ broken. was_whole first.broken c.requires.whole (kept.cause broken);
      clean = kept.clean;
      passed = c.finish_log.ensures.passed;
    })
    written
