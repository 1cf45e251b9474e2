use Rattle.std.proofs.Common.{take}
use Rattle.std.specs.List.{flat_map}
use Rattle.mmgc.specs.Added.{hop_spelling}
use Rattle.mmgc.specs.Logging.{kept_by, KeepsOn}
use Rattle.mmgc.specs.Carrying.{Grew}
use Rattle.mmgc.proofs.answer.write_hops.Given as goal

-- the hops so far were written
abbrev pub invariant-loop-k : goal.invariant-loop-k
invariant-loop-k g l =
    record {
      written : Grew (kept_by g.K.Sink.taken l.fn.log) (kept_by g.K.Sink.taken l.log)
          (flat_map hop_spelling (take l.k l.why.hops));
      kept : KeepsOn g.K.Sink.faults g.K.Sink.taken l.fn.log l.log;
    }
