use Rattle.std.proofs.Common.{◌≤◌, length, subst, sym}
use Rattle.mm_roots.specs.Stack.{Cells}
use Rattle.mm_roots.proofs.Cells.{KeepsStack-less, cells_of-less}
use Rattle.mm_roots.proofs.stack.Stack.pop.Goals as goal

pub invariant_of-self : goal.invariant_of-self
invariant_of-self c = KeepsStack-less c.self.inside.cells c.self.inside.depth c.self.inside.limit c.self.invariant
    c.args.k
    (subst (λ (s : Cells). c.args.k ≤ length s.words) (sym c.self.view_is) c.requires)

pub returns : goal.returns
returns c = rw (← c.self.view_is) (cells_of-less c.self.inside.cells c.self.inside.depth c.self.inside.limit
    c.self.invariant c.args.k
    (subst (λ (s : Cells). c.args.k ≤ length s.words) (sym c.self.view_is) c.requires))
