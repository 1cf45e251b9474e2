use Rattle.std.proofs.Common.{◌≡◌, ℕ, ◌+◌, List, [], length}
use Rattle.mm_io.specs.Told.{Gives}
use Rattle.mmgc.specs.Logging.{moment_of, KeepsOn}
use Rattle.mmgc.specs.Replaying.{Progress, Start, most_bytes}
use Rattle.mmgc.proofs.replay.Replay.read_all.Given as goal

-- the bytes that the source gave so far were taken, wherever the replay began
abbrev pub invariant-loop-count : goal.invariant-loop-count
invariant-loop-count g l =
    record {
      came : (start : Start) →
          Progress start [] (moment_of g.K.Sink.taken l.fn.heap l.fn.self l.fn.log) →
          record {
            bytes : List ℕ;
            given : Gives (g.S.Source.left l.fn.source) (g.S.Source.left l.source) bytes;
            room : length bytes + l.room ≡ most_bytes;
            progress : Progress start bytes (moment_of g.K.Sink.taken l.heap l.self l.log);
          };
      clean : g.S.Source.faults l.source ≡ g.S.Source.faults l.fn.source;
      kept : KeepsOn g.K.Sink.faults g.K.Sink.taken l.fn.log l.log;
      buffer : length l.buffer ≡ 4096;
    }

abbrev pub decreases-loop-count : goal.decreases-loop-count
decreases-loop-count g l = l.room
