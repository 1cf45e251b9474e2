use Rattle.std.proofs.Common.{◌≡◌, ◌+◌, ◌*◌, ◌/◌, ℕ, arith, subst, sym, ◌∙◌, eqb-true}
use Rattle.mm_sets.specs.Bits.{bit_of, IsLowestBitOf}
use Rattle.mm_sets.proofs.Sets.{IsLowestFrom-beside}
use Rattle.mm_sets.proofs.set.lowest_beside.Goals as goal

pub returns-in-Some : goal.returns-in-Some
returns-in-Some c = λ limit s.
    let shown : bit_of c.args.set.now (c.args.from / 32) ≡ 1 =
    eqb-true _ 1 (sym c.test_bit.ensures ∙ c.if-not-test_bit.false) in
    IsLowestFrom-beside limit c.args.set.now c.args.from c.in-Some.found s (omega arith) shown
    (subst (λ (k : ℕ). IsLowestBitOf c.args.set.now k (32 * (4 + c.args.from / 32 + 1)) c.in-Some.found)
    c.member_bit.ensures c.in-Some.ensures)
