use Rattle.mm_gc.specs.Inside.{gc_of}
use Rattle.mm_gc.proofs.Ending.{ends-below, ends-reap, below-threshold, at-threshold}
use Rattle.mm_gc.proofs.gc.Gc.end.Goals as goal

pub returns-then-len-self-clause-ends : goal.returns-then-len-self-clause-ends
returns-then-len-self-clause-ends g c =
    ends-below c.args.self.now c.args.refused
    (g.J.Finalizer.tells c.args.journal.now c.args.journal.now) (g.met.J.Finalizer.tells_nothing c.args.journal.now)
    c.if-refused.false
    (below-threshold c.args.self.now (gc_of c.self.inside) c.self.view_is c.self.invariant c.len.result c.len.ensures
    c.if-len-self.true)

pub returns-clause-ends : goal.returns-clause-ends
returns-clause-ends g c =
    ends-reap c.args.self.now c.reap_at_end.new.self c.args.refused
    (g.J.Finalizer.tells c.args.journal.now c.reap_at_end.new.journal)
    c.if-refused.false
    (at-threshold c.args.self.now (gc_of c.self.inside) c.self.view_is c.self.invariant c.len.result c.len.ensures
    c.if-len-self.false)
    c.reap_at_end.ensures.row
