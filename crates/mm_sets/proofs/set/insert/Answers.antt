use Rattle.std.proofs.Common.{ℕ, subst, arith}
use Rattle.mm_sets.specs.Bits.{ChangesBit}
use Rattle.mm_sets.proofs.Changes.{IsSet-inserted}
use Rattle.mm_sets.proofs.set.insert.Goals as goal

pub returns-clause-set : goal.returns-clause-set
returns-clause-set c = λ limit below s.
    let before = c.args.set.now in
    let middle = c.set_bit.new.words in
    IsSet-inserted limit c.args.n before middle c.set_bit-2.new.words below s (omega arith)
    (subst (λ (k : ℕ). ChangesBit before middle k 1) c.member_bit.ensures c.set_bit.ensures) c.set_bit-2.ensures
