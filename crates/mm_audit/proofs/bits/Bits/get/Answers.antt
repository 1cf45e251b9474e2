-- A bit tells its mark.
use Rattle.std.proofs.Common.{◌≡◌, nat_eq, length, Some, sym, ap, ◌∙◌, arith}
use Rattle.std.specs.Prelude.{slice_get}
use Rattle.mm_audit.specs.Bits.{bit_of, bits_of}
use Rattle.mm_audit.proofs.Marks.{length-bits, bits-told}
use Rattle.mm_audit.proofs.bits.Bits.get.Goals as goal

pub test_bit-requires : goal.test_bit-requires
test_bit-requires c =
    let s = c.self.inside in
    let size : length (bits_of s.words.items s.limit) ≡ length c.args.self.now = ap length c.self.view_is in
    let count = c.self.invariant.size in
    let len = ap length c.deref.ensures.value in
    omega (arith, length-bits s.words.items s.limit)

pub returns : goal.returns
returns c =
    let s = c.self.inside in
    let size : length (bits_of s.words.items s.limit) ≡ length c.args.self.now = ap length c.self.view_is in
    ap (λ v. slice_get v c.args.n) (sym c.self.view_is)
    ∙ bits-told s.words.items s.limit c.args.n (omega (arith, length-bits s.words.items s.limit))
    ∙ ap (λ ws. Some (nat_eq (bit_of ws c.args.n) 1)) (sym c.deref.ensures.value)
    ∙ ap (λ b. Some b) (sym c.test_bit.ensures)
