use Rattle.std.proofs.Common.{take}
use Rattle.mm_trace.specs.Lines.{IsWithinLine}
use Rattle.mm_trace.proofs.cutter.line_end_behind.Given as goal

abbrev pub invariant-loop-end : goal.invariant-loop-end
invariant-loop-end l = IsWithinLine (take l.end l.bytes)
