use Rattle.std.proofs.Common.{◌+◌, ◌*◌, arith}
use Rattle.mm_gc.specs.Gc.{view_of_gc}
use Rattle.mm_gc.specs.Steps.{marking_in}
use Rattle.mm_gc.proofs.Marking.Stepping.{scanning-begins, scanning-goes_on, scanning-drained, paid-on, part-few}
use Rattle.mm_gc.proofs.gc.Gc.scan_for.Goals as goal

pub parts-preserved : goal.parts-preserved
parts-preserved g c =
    record {
      scanning = scanning-goes_on (view_of_gc c.args.self.now) c.args.k c.parts.cost (view_of_gc c.parts.self)
          (view_of_gc c.scan_next.new.self) c.in-Some.slots
          (g.J.Finalizer.tells c.args.journal.now c.parts.journal) (g.J.Finalizer.tells c.parts.journal c.scan_next.new.journal) (g.J.Finalizer.tells c.args.journal.now c.scan_next.new.journal)
          (g.met.J.Finalizer.tells_on c.args.journal.now c.parts.journal c.scan_next.new.journal)
          c.parts.invariant.scanning c.parts-test.true c.in-Some.ensures.part;
      runs = c.scan_next.ensures.runs;
      paid = λ stale few.
          paid-on (marking_in c.parts.self) (marking_in c.scan_next.new.self) c.parts.steps c.scan_next.new.steps
          (c.args.steps.now + 16 * c.parts.cost + 8 * stale) (16 * (1 + c.in-Some.slots))
          (c.args.steps.now + 16 * (c.parts.cost + (1 + c.in-Some.slots)) + 8 * stale)
          (c.parts.invariant.paid stale few) c.in-Some.ensures.cost (omega arith);
      few =
          let slots = part-few (view_of_gc c.parts.self) (view_of_gc c.scan_next.new.self) c.in-Some.slots
          (g.J.Finalizer.tells c.parts.journal c.scan_next.new.journal)
          c.in-Some.ensures.part in
          omega (arith, slots, c.parts-test.true);
    }

pub parts-init : goal.parts-init
parts-init g c =
    record {
      scanning = scanning-begins (view_of_gc c.args.self.now) c.args.k
          (g.J.Finalizer.tells c.args.journal.now c.args.journal.now) (g.met.J.Finalizer.tells_nothing c.args.journal.now);
      runs = c.requires;
      paid = λ stale few. record { left = stale; few = few; paid = omega arith };
      few = omega arith;
    }

pub returns-clause-cost : goal.returns-clause-cost
returns-clause-cost g c stale few =
    let paid = (c.parts.invariant.paid stale few).paid in omega (arith, paid, c.parts.invariant.few)

pub returns-in-None-clause-cost : goal.returns-in-None-clause-cost
returns-in-None-clause-cost g c stale few =
    let so_far = c.parts.invariant.paid stale few in
    let last = c.in-None.ensures.cost so_far.left so_far.few in
    omega (arith, so_far.paid, last.paid, c.parts.invariant.few)

pub returns-in-None-clause-scans : goal.returns-in-None-clause-scans
returns-in-None-clause-scans g c =
    scanning-drained (view_of_gc c.args.self.now) c.args.k c.parts.cost (view_of_gc c.parts.self)
    (view_of_gc c.scan_next.new.self)
    (g.J.Finalizer.tells c.args.journal.now c.parts.journal) (g.J.Finalizer.tells c.parts.journal c.scan_next.new.journal) (g.J.Finalizer.tells c.args.journal.now c.scan_next.new.journal)
    (g.met.J.Finalizer.tells_on c.args.journal.now c.parts.journal c.scan_next.new.journal)
    c.parts.invariant.scanning c.parts-test.true c.in-None.ensures.part
