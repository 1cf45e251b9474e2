use Rattle.mm_audit.specs.Places.{IsSetFrom}
use Rattle.mm_audit.proofs.places.set_from.Given as goal

abbrev pub invariant-loop-k : goal.invariant-loop-k
invariant-loop-k l = IsSetFrom l.fn.numbers l.numbers l.first l.k l.member
