-- At the end all up to there are set.
use Rattle.std.proofs.Common.{arith}
use Rattle.mm_audit.proofs.places.set_from.Goals as goal

pub returns : goal.returns
returns c =
    let set = c.loop-k.invariant in
    let past = c.loop-k-test.false in
    let within = c.loop-k.auto.k-end in
    let order = c.requires.order in
    record {
      size = set.size;
      here = λ k from below. set.here k from (omega arith);
      below = set.below;
      behind = λ k low. set.behind k (omega arith);
    }
