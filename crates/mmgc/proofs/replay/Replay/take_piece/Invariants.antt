use Rattle.std.proofs.Common.{◌≡◌, ℕ, ◌+◌, ◌≤◌, List, ◌++◌, length}
use Rattle.mmgc.specs.Logging.{moment_of, KeepsOn}
use Rattle.mmgc.specs.Replaying.{Progress, Start, most_bytes}
use Rattle.mmgc.proofs.replay.Replay.take_piece.Given as goal

-- the lines in front of the rest were taken, from wherever the replay stood
abbrev pub invariant-loop-end : goal.invariant-loop-end
invariant-loop-end g l =
    record {
      front : List ℕ;
      here : front ++ l.rest ≡ l.piece;
      progress : (start : Start) (bytes : List ℕ) → length bytes + length l.piece ≤ most_bytes →
          Progress start bytes (moment_of g.K.Sink.taken l.fn.heap l.fn.self l.fn.log) →
          Progress start (bytes ++ front) (moment_of g.K.Sink.taken l.heap l.self l.log);
      kept : KeepsOn g.K.Sink.faults g.K.Sink.taken l.fn.log l.log;
    }

abbrev pub decreases-loop-end : goal.decreases-loop-end
decreases-loop-end g l = length l.rest
