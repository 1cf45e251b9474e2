use Rattle.std.proofs.Common.{◌≡◌, ◌≤◌, ◌+◌, ◌/◌, ℕ, slice_index, subst, arith}
use Rattle.mm_sets.specs.Bits.{ChangesBit}
use Rattle.mm_sets.proofs.Changes.{IsSet-cleared, IsSet-emptied}
use Rattle.mm_sets.proofs.set.remove.Goals as goal

pub returns-then-set-n-eq0-clause-set : goal.returns-then-set-n-eq0-clause-set
returns-then-set-n-eq0-clause-set c = λ limit below s.
    let before = c.args.set.now in
    let middle = c.clear_bit.new.words in
    IsSet-emptied limit c.args.n before middle c.clear_bit-then-set-n-eq0.new.words below s (omega arith)
    (subst (λ (k : ℕ). ChangesBit before middle k 0) c.member_bit.ensures c.clear_bit.ensures.change)
    c.clear_bit-then-set-n-eq0.ensures.change c.if-set-n-eq0.true

pub returns-else-set-n-eq0-clause-set : goal.returns-else-set-n-eq0-clause-set
returns-else-set-n-eq0-clause-set c = λ limit below s.
    let before = c.args.set.now in
    let after = c.clear_bit.new.words in
    let word : c.member_bit.result / 32 ≡ 4 + c.args.n / 32 = omega (arith, c.member_bit.ensures) in
    IsSet-cleared limit c.args.n before after below s c.clear_bit.auto.words
    (subst (λ (k : ℕ). ChangesBit before after k 0) c.member_bit.ensures c.clear_bit.ensures.change)
    c.if-set-n-eq0.false
    (subst (λ (i : ℕ). slice_index after i ≤ slice_index before i) word c.clear_bit.ensures.falls)
