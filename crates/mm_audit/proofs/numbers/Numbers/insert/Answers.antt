-- The word of a member is used.
use Rattle.std.proofs.Common.{◌<◌, true, List, Bool, length, sym, subst}
use Rattle.std.specs.Prelude.{slice_set}
use Rattle.mm_audit.specs.Numbers.{KeepsUsed}
use Rattle.mm_audit.proofs.Used.{used-set}
use Rattle.mm_audit.proofs.numbers.Numbers.insert.Goals as goal

pub invariant_of-self : goal.invariant_of-self
invariant_of-self c =
    let s = c.self.inside in
    let inside = subst (λ (v : List Bool). c.args.n < length v) (sym c.self.view_is) c.requires.inside in
    subst (λ v. KeepsUsed v c.set-2.new.self) (sym c.set.ensures)
    (subst (λ v. KeepsUsed (slice_set s.marks c.args.n true) v) (sym c.set-2.ensures)
    (used-set s.marks s.used c.self.invariant c.args.n inside))
