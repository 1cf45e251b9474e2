use Rattle.mm_sites.specs.Entries.{total_of}
use Rattle.mm_sites.specs.Text.{texts_below}
use Rattle.mmgc.specs.Carrying.{Grew}
use Rattle.mmgc.specs.Logging.{kept_by, KeepsOn}
use Rattle.mmgc.proofs.site_book.SiteBook.write.Given as goal

-- the lines of the sites so far were written
abbrev pub invariant-loop-site : goal.invariant-loop-site
invariant-loop-site g l =
    record {
      written : Grew (kept_by g.K.Sink.taken l.fn.log) (kept_by g.K.Sink.taken l.log)
          (texts_below (total_of l.fn.self.sites) l.site);
      kept : KeepsOn g.K.Sink.faults g.K.Sink.taken l.fn.log l.log;
    }
