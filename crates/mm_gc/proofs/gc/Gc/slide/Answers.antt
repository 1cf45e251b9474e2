use Rattle.std.proofs.Common.{◌<◌, length, sym, subst, arith}
use Rattle.mm_roots.specs.Stack.{Cells}
use Rattle.mm_gc.specs.Gc.{Gc, view_of_gc}
use Rattle.mm_gc.specs.Inside.{gc_of}
use Rattle.mm_gc.specs.Kept.{KeepsGc}
use Rattle.mm_gc.specs.Sliding.{IsSlid}
use Rattle.mm_gc.proofs.Sliding.{slid-answer, slid-keeps}
use Rattle.mm_gc.proofs.gc.Gc.slide.Goals as goal

pub invariant_of-self : goal.invariant_of-self
invariant_of-self g c =
    let gc = gc_of c.self.inside in
    subst (λ (s : Cells). KeepsGc (record gc { stack = s })) (sym c.remove_below_top.ensures.slid)
    (slid-keeps gc c.args.k c.self.invariant)

pub returns-clause-answer : goal.returns-clause-answer
returns-clause-answer g c =
    let gc = gc_of c.self.inside in
    let within : c.args.k < length gc.stack.words = omega (arith, c.depth.ensures.value, c.if-depth-k.false) in
    let after = record gc { stack = c.remove_below_top.new.stack } in
    subst (λ (old : Gc). IsSlid (view_of_gc old) (view_of_gc after) c.args.k) c.self.view_is
    (subst (λ (s : Cells). IsSlid (view_of_gc gc) (view_of_gc (record gc { stack = s })) c.args.k)
    (sym c.remove_below_top.ensures.slid) (slid-answer gc c.args.k within))
