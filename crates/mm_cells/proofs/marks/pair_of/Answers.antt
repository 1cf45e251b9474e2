-- The higher word stands above the bits of the lower one.
use Rattle.std.proofs.Common.{◌≡◌, ◌∙◌, ◌+◌, ◌*◌, ◌%◌, ◌^◌, ◌<◌, ℕ, bit_or, ap, arith}
use Rattle.std.proofs.lemmas.Nat.{or_comm, or_disjoint}
use Rattle.std.specs.Int.Bits.{and_shifted}
use Rattle.mm_cells.specs.Marks.{mark_of, mark_in}
use Rattle.mm_cells.proofs.Bits.Pairs.{code_in-low_word, code_in-high_word}
use Rattle.mm_cells.proofs.marks.pair_of.Goals as goal

paired : (low high : ℕ) → low < 2 ^ 32 → high < 2 ^ 32 →
    bit_or low (high * 2 ^ 32 % 2 ^ 64) ≡ high * 2 ^ 32 + low
paired low high low_fits high_fits =
    let whole : high * 2 ^ 32 % 2 ^ 64 ≡ high * 2 ^ 32 = omega arith in
    ap (bit_or low) whole ∙ or_comm low (high * 2 ^ 32)
    ∙ or_disjoint (high * 2 ^ 32) low (and_shifted high 32 low low_fits)

pub returns-clause-low : goal.returns-clause-low
returns-clause-low c = λ p within.
    ap (λ w. mark_in w p) (paired c.args.low c.args.high (omega arith) (omega arith))
    ∙ ap mark_of (code_in-low_word c.args.high c.args.low p within)

pub returns-clause-high : goal.returns-clause-high
returns-clause-high c = λ p within.
    ap (λ w. mark_in w (8 + p)) (paired c.args.low c.args.high (omega arith) (omega arith))
    ∙ ap mark_of (code_in-high_word c.args.high c.args.low p (omega arith))
