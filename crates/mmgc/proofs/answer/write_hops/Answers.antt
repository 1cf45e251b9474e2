use Rattle.std.proofs.Common.{subst, take}
use Rattle.std.specs.List.{flat_map}
use Rattle.mm_model.proofs.Text.Journals.{writes-none, writes-append}
use Rattle.mmgc.specs.Added.{hop_spelling}
use Rattle.mmgc.specs.Keeping.{keeps-same, keeps-trans}
use Rattle.mmgc.specs.Logging.{kept_by}
use Rattle.mmgc.specs.Carrying.{Grew}
use Rattle.mmgc.proofs.AddedLines.{hops_more}
use Rattle.mmgc.proofs.answer.write_hops.Goals as goal

pub loop-k-init : goal.loop-k-init
loop-k-init g c =
    let first = kept_by g.K.Sink.taken c.args.log.now in
    record { written = writes-none first.bytes first.broken; kept = keeps-same }

pub loop-k-preserved : goal.loop-k-preserved
loop-k-preserved g c =
    let before = c.loop-k.invariant in
    let hops = c.args.why.now.hops in
    let k = c.loop-k.k in
    record {
      written = subst (Grew (kept_by g.K.Sink.taken c.args.log.now) (kept_by g.K.Sink.taken c.write_hop.new.log))
          (hops_more hops k c.hop.result c.hop.ensures)
          (writes-append (flat_map hop_spelling (take k hops)) (hop_spelling c.hop.result) before.written
          c.write_hop.ensures.written);
      kept = keeps-trans before.kept c.write_hop.ensures.kept;
    }
