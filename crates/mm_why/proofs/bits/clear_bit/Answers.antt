use Rattle.std.proofs.Common.{◌/◌, ◌<◌, length, arith, w32}
use Rattle.std.proofs.lemmas.Nat.Bits.{bit_at_clear_same, bit_at_clear_other}
use Rattle.mm_why.proofs.BitWrites.{ChangesBit-write}
use Rattle.mm_why.proofs.bits.clear_bit.Goals as goal

pub returns : goal.returns
returns c =
    let within : c.args.k / 32 < length c.args.words.now = omega (arith, c.requires) in
    ChangesBit-write c.args.words.now c.args.k _ 0 within
    (bit_at_clear_same w32 _ _ (omega arith))
    (λ i lt ne. bit_at_clear_other w32 _ _ (omega arith) i lt ne)
