use Rattle.std.proofs.Common.{◌-◌, ◌≤◌, length, take}
use Rattle.mm_trace.specs.Lines.{IsWithinLine}
use Rattle.mm_trace.proofs.cutter.line_end.Given as goal

abbrev pub invariant-loop-at : goal.invariant-loop-at
invariant-loop-at l = record { within : l.at ≤ length l.bytes; front : IsWithinLine (take l.at l.bytes) }

abbrev pub decreases-loop-at : goal.decreases-loop-at
decreases-loop-at l = length l.bytes - l.at
