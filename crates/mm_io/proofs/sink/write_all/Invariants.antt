use Rattle.std.proofs.Common.{length, ◌-◌}
use Rattle.mm_io.proofs.Pieces.{IsWritten}
use Rattle.mm_io.proofs.sink.write_all.Given as goal

abbrev pub invariant-loop-at : goal.invariant-loop-at
invariant-loop-at g l = IsWritten g.K.Sink.faults g.K.Sink.taken g.K.Sink.room g.K.Sink.kept l.initial.sink l.sink
    l.bytes l.at

abbrev pub decreases-loop-at : goal.decreases-loop-at
decreases-loop-at g l = length l.bytes - l.at
