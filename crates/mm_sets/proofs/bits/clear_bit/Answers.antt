use Rattle.std.proofs.Common.{◌/◌, ◌≤◌, ℕ, slice_index, sym, subst, arith, w32}
use Rattle.std.proofs.lemmas.List.{get_or-set_same}
use Rattle.std.proofs.lemmas.Nat.{and_le_l}
use Rattle.std.proofs.lemmas.Nat.Bits.{bit_at_clear_same, bit_at_clear_other}
use Rattle.mm_sets.proofs.BitWrites.{ChangesBit-write}
use Rattle.mm_sets.proofs.bits.clear_bit.Goals as goal

pub returns-clause-change : goal.returns-clause-change
returns-clause-change c = ChangesBit-write c.args.words.now c.args.k _ 0 c.requires
    (bit_at_clear_same w32 _ _ (omega arith))
    (λ i lt ne. bit_at_clear_other w32 _ _ (omega arith) i lt ne)

pub returns-clause-falls : goal.returns-clause-falls
returns-clause-falls c = subst (λ (x : ℕ). x ≤ slice_index c.args.words.now (c.args.k / 32))
    (sym (get_or-set_same c.args.words.now (c.args.k / 32) _ 0 c.requires)) (and_le_l _ _)
