-- The classes before are too small.
use Rattle.std.proofs.Common.{arith}
use Rattle.mm_model.specs.Places.SizeClass.{class_sizes}
use Rattle.mm_audit.proofs.ClassSizes.{one-more, class-is, last-fits}
use Rattle.mm_audit.proofs.size.class_for.Goals as goal

pub loop-class-preserved : goal.loop-class-preserved
unfolding class_sizes
loop-class-preserved c =
    let below = c.loop-class-test.true in
    record {
      within = omega arith;
      smaller = one-more c.args.bytes c.loop-class.class c.loop-class.invariant.smaller c.if-class-bytes.true;
    }

pub returns-else-class-bytes : goal.returns-else-class-bytes
unfolding class_sizes
returns-else-class-bytes c =
    class-is c.args.bytes c.loop-class.class c.loop-class.invariant.within c.loop-class.invariant.smaller
    c.if-class-bytes.false

pub returns-after-loop-class : goal.returns-after-loop-class
returns-after-loop-class c =
    let past = c.loop-class-test.false in
    let within = c.loop-class.invariant.within in
    class-is c.args.bytes c.loop-class.class within c.loop-class.invariant.smaller
    (last-fits c.args.bytes c.loop-class.class c.requires.small (omega arith))
