use Rattle.std.proofs.Common.{subst}
use Rattle.mm_gc.specs.Ending.{Ends}
use Rattle.mm_gc.specs.Inside.{gc_of}
use Rattle.mm_gc.proofs.Ending.{counted-keeps, executes-of}
use Rattle.mm_gc.proofs.gc.Gc.execute.Goals as goal

pub invariant_of-self : goal.invariant_of-self
invariant_of-self g c = counted-keeps (gc_of c.self.inside) c.self.invariant

pub returns : goal.returns
returns g c =
    record {
      step = executes-of c.args.self.now c.carry_out-reply.new.self c.end.new.self (gc_of c.self.inside) c.args.command.now
          c.carry_out-reply.result
          (g.J.Finalizer.tells c.args.journal.now c.carry_out-reply.new.journal) (g.J.Finalizer.tells c.carry_out-reply.new.journal c.end.new.journal) (g.J.Finalizer.tells c.args.journal.now c.end.new.journal)
          (g.met.J.Finalizer.tells_on c.args.journal.now c.carry_out-reply.new.journal c.end.new.journal)
          c.self.view_is c.carry_out-reply.ensures.row
          (subst
          (λ refused. Ends c.carry_out-reply.new.self c.end.new.self refused
          (g.J.Finalizer.tells c.carry_out-reply.new.journal c.end.new.journal))
          c.is_refused.ensures c.end.ensures.ends);
    }
