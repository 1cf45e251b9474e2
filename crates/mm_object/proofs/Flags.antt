-- Flags by their two bits.
use Rattle.std.proofs.Common.{◌≡◌, ℕ, zero, suc, ◌<◌, refl, arith}
use Rattle.mm_cells.specs.declared.marks.CellBits.{CellBits}
use Rattle.mm_cells.specs.Marks.{IsFlags}
use Rattle.mm_object.specs.Object.{flags_with, has_finalizer, has_weak_object}

bits : (n : ℕ) → n < 4
    → record { 0 = n } ≡ flags_with (has_finalizer (record { 0 = n })) (has_weak_object (record { 0 = n }))
bits zero h = refl
bits (suc zero) h = refl
bits (suc (suc zero)) h = refl
bits (suc (suc (suc zero))) h = refl
bits (suc (suc (suc (suc n)))) h = absurd (omega arith)

pub flags-parts : (flags : CellBits) → IsFlags flags → flags ≡ flags_with (has_finalizer flags) (has_weak_object flags)
flags-parts flags h = bits flags.0 h
