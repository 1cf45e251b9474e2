-- Nothing is marked.
use Rattle.std.proofs.Common.{◌+◌, ◌-◌, ◌/◌, false, replicate, sym, subst, arith}
use Rattle.mm_audit.specs.Numbers.{KeepsUsed}
use Rattle.mm_audit.proofs.Used.{used-none}
use Rattle.mm_audit.proofs.numbers.Numbers.make.Goals as goal

pub invariant_of-result : goal.invariant_of-result
invariant_of-result c =
    let count = (c.args.limit + 64 - 1) / 64 in
    subst (λ v. KeepsUsed v c.in_ok-used.used) (sym c.in_ok-marks.ensures)
    (subst (λ v. KeepsUsed (replicate c.args.limit false) v) (sym c.in_ok-used.ensures)
    (used-none c.args.limit count c.requires.most (omega arith)))
