use Rattle.std.proofs.Common.{◌≡◌, ap, subst, sym, ◌∙◌, arith}
use Rattle.mm_model.proofs.Text.Journals.{writes-none, writes-append}
use Rattle.mm_sites.specs.Entries.{total_of}
use Rattle.mm_sites.specs.Text.{site_text, texts_below}
use Rattle.mmgc.specs.Carrying.{Grew}
use Rattle.mmgc.specs.Keeping.{keeps-same, keeps-trans}
use Rattle.mmgc.specs.Logging.{kept_by}
use Rattle.mmgc.proofs.site_book.SiteBook.write.Goals as goal

pub loop-site-init : goal.loop-site-init
loop-site-init g c =
    let first = kept_by g.K.Sink.taken c.args.log.now in
    let laws = c.texts_come_one_after_another.ensures in
    record {
      written = subst (Grew first first) (sym (laws.none (total_of c.args.self.now.sites)))
          (writes-none first.bytes first.broken);
      kept = keeps-same;
    }

pub loop-site-preserved : goal.loop-site-preserved
loop-site-preserved g c =
    let before = c.loop-site.invariant in
    let totals = total_of c.args.self.now.sites in
    let laws = c.texts_come_one_after_another.ensures in
    let site = c.loop-site.site in
    record {
      written = subst (Grew (kept_by g.K.Sink.taken c.args.log.now) (kept_by g.K.Sink.taken c.text.new.self))
          (sym (laws.one_more totals site))
          (writes-append (texts_below totals site) (site_text site (totals site)) before.written
          (subst (Grew (kept_by g.K.Sink.taken c.loop-site.log) (kept_by g.K.Sink.taken c.text.new.self))
          (c.as_slice.ensures.value ∙ c.site_text.ensures ∙ ap (site_text site) c.total.ensures) c.text.ensures.written));
      kept = keeps-trans before.kept c.text.ensures.kept;
    }

pub returns-clause-written : goal.returns-clause-written
returns-clause-written g c =
    let totals = total_of c.args.self.now.sites in
    let all : c.loop-site.site ≡ 4096 = omega (arith, c.loop-site-test.false, c.loop-site.auto.site-end) in
    subst (Grew (kept_by g.K.Sink.taken c.args.log.now) (kept_by g.K.Sink.taken c.loop-site.log))
    (ap (texts_below totals) all ∙ sym (c.texts_come_one_after_another.ensures.all totals))
    c.loop-site.invariant.written
