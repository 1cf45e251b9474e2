use Rattle.std.proofs.Common.{codes, ◌++◌, subst}
use Rattle.std.specs.List.{flat_map}
use Rattle.mm_model.proofs.Text.Journals.{writes-append}
use Rattle.mmgc.specs.Added.{hop_spelling}
use Rattle.mmgc.specs.Appending.{numbered}
use Rattle.mmgc.specs.Keeping.{keeps-trans}
use Rattle.mmgc.specs.Logging.{kept_by}
use Rattle.mmgc.specs.Carrying.{Grew}
use Rattle.mmgc.proofs.answer.write_path.Goals as goal

pub returns-clause-written : goal.returns-clause-written
returns-clause-written g c =
    let taken = g.K.Sink.taken in
    let hops = c.args.why.now.hops in
    subst (λ n. Grew (kept_by taken c.args.log.now) (kept_by taken c.write_hops.new.log)
    ((codes "path" ++ (numbered n ++ codes "\n")) ++ flat_map hop_spelling hops)) c.requires
    (writes-append (codes "path" ++ (numbered c.args.count ++ codes "\n")) (flat_map hop_spelling hops)
    c.write_length.ensures.written c.write_hops.ensures.written)

pub returns-clause-kept : goal.returns-clause-kept
returns-clause-kept g c = keeps-trans c.write_length.ensures.kept c.write_hops.ensures.kept
