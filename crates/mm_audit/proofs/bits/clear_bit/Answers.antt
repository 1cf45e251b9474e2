-- A bit is cleared, and the others of its word stay.
use Rattle.std.proofs.Common.{◌/◌, w64, arith}
use Rattle.std.proofs.lemmas.List.{get_or_read}
use Rattle.std.proofs.lemmas.Nat.Bits.{bit_at_clear_same, bit_at_clear_other}
use Rattle.mm_audit.proofs.Marks.{write-changes}
use Rattle.mm_audit.proofs.bits.clear_bit.Goals as goal

pub returns : goal.returns
returns c =
    let words = c.args.words.now.items in
    let read = get_or_read words (c.args.k / 64) _ c.requires c.index_mut.ensures.value 0 in
    write-changes words c.args.k _ _ 0 c.requires read (bit_at_clear_same w64 _ _ (omega arith))
    (λ i small ne. bit_at_clear_other w64 _ _ (omega arith) i small ne)
