-- Two words of marks side by side.
use Rattle.std.proofs.Common.{◌≡◌, ℕ, suc, ◌+◌, ◌-◌, ◌*◌, ◌/◌, ◌^◌, ◌<◌, ap, sym, ◌∙◌, refl, arith}
use Rattle.std.proofs.Math.Nat.{pow-suc, one-le-pow, div-div-eq-div-mul, mul-add-div_right, mul-add-mod_self_right}
use Rattle.std.proofs.lemmas.Nat.{pow-add, div-mul-add}
use Rattle.mm_cells.specs.Marks.{code_in}

-- the digits of the lower word
code_in-lower : (p r high low : ℕ) → code_in (high * 16 ^ (r + suc p) + low) p ≡ code_in low p
code_in-lower p r high low =
    let split : high * 16 ^ (r + suc p) + low ≡ high * 16 ^ r * 16 * 16 ^ p + low =
    rw (pow-add 16 r (suc p), pow-suc 16 p) (grind arith) in
    rw (split, mul-add-div_right (one-le-pow p 16 (omega arith)) (high * 16 ^ r * 16) low)
    (mul-add-mod_self_right (high * 16 ^ r) 16 (low / 16 ^ p))

pub code_in-low_word : (high low p : ℕ) → p < 8 → code_in (high * 2 ^ 32 + low) p ≡ code_in low p
code_in-low_word high low p within =
    let at : 8 ≡ (7 - p) + suc p = omega arith in
    ap (λ k. code_in (high * 16 ^ k + low) p) at ∙ code_in-lower p (7 - p) high low

-- those of the higher one
code_in-higher : (k high low p : ℕ) → low < 16 ^ k → code_in (high * 16 ^ k + low) (k + p) ≡ code_in high p
code_in-higher k high low p below =
    rw (
      pow-add 16 k p,
      sym (div-div-eq-div-mul (high * 16 ^ k + low) (16 ^ k) (16 ^ p)),
      div-mul-add high (16 ^ k) low below,
    ) refl

pub code_in-high_word : (high low p : ℕ) → low < 2 ^ 32 → code_in (high * 2 ^ 32 + low) (8 + p) ≡ code_in high p
code_in-high_word high low p below = code_in-higher 8 high low p below
