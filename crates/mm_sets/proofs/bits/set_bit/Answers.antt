use Rattle.std.proofs.Common.{arith, w32}
use Rattle.std.proofs.lemmas.Nat.Bits.{bit_at_set_same, bit_at_set_other}
use Rattle.mm_sets.proofs.BitWrites.{ChangesBit-write}
use Rattle.mm_sets.proofs.bits.set_bit.Goals as goal

pub returns : goal.returns
returns c = ChangesBit-write c.args.words.now c.args.k _ 1 c.requires
    (bit_at_set_same w32 _ _ (omega arith))
    (λ i lt ne. bit_at_set_other w32 _ _ (omega arith) i ne)
