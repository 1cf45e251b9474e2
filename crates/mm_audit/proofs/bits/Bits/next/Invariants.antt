use Rattle.std.proofs.Common.{◌-◌, ◌≤◌}
use Rattle.mm_audit.specs.Bits.{NoneBetween}
use Rattle.mm_audit.proofs.bits.Bits.next.Given as goal

abbrev pub invariant-loop-first : goal.invariant-loop-first
invariant-loop-first l = (l.from ≤ l.first) × NoneBetween l.self l.from l.first

abbrev pub decreases-loop-first : goal.decreases-loop-first
decreases-loop-first l = l.self-inside.limit - l.first
