-- One mark is taken away.
use Rattle.std.proofs.Common.{◌≡◌, false, length, ap, ◌∙◌, arith}
use Rattle.std.specs.Prelude.{slice_set}
use Rattle.mm_audit.specs.Bits.{bits_of}
use Rattle.mm_audit.proofs.Marks.{length-bits, bits-changed, kept-changed}
use Rattle.mm_audit.proofs.bits.Bits.clear.Goals as goal

pub clear_bit-requires : goal.clear_bit-requires
clear_bit-requires c =
    let s = c.self.inside in
    let size : length (bits_of s.words.items s.limit) ≡ length c.args.self.now = ap length c.self.view_is in
    let count = c.self.invariant.size in
    omega (arith, length-bits s.words.items s.limit)

pub invariant_of-self : goal.invariant_of-self
invariant_of-self c =
    let s = c.self.inside in
    let size : length (bits_of s.words.items s.limit) ≡ length c.args.self.now = ap length c.self.view_is in
    kept-changed s.words.items c.clear_bit.new.words.items s.limit c.args.n 0 c.self.invariant
    (omega (arith, length-bits s.words.items s.limit)) c.clear_bit.ensures

pub returns : goal.returns
returns c =
    let s = c.self.inside in
    let size : length (bits_of s.words.items s.limit) ≡ length c.args.self.now = ap length c.self.view_is in
    bits-changed s.words.items c.clear_bit.new.words.items s.limit c.args.n 0
    (omega (arith, length-bits s.words.items s.limit)) c.clear_bit.ensures
    ∙ ap (λ v. slice_set v c.args.n false) c.self.view_is
