-- How many digits a number has.
use Rattle.std.proofs.Common.{◌≡◌, ℕ, zero, suc, ◌+◌, ◌*◌, ◌/◌, ◌^◌, ◌<◌, ◌≤◌, length, decimal, ◌∙◌, ap, length-append}
use Rattle.std.proofs.Common.{arith}
use Rattle.std.proofs.Math.Nat.{pow-le-pow_right}
use Rattle.std.proofs.lemmas.Fmt.{decimal_digit, decimal_step}
use Rattle.std.proofs.lemmas.Nat.{pow-add}

pow-more : (k : ℕ) → 10 ^ (k + 1) ≡ 10 * 10 ^ k
pow-more k = pow-add 10 k 1 ∙ omega arith

pub length-decimal : (k n : ℕ) → 10 ^ k ≤ n → n < 10 ^ (k + 1) → n < 2 ^ 64 → length (decimal n) ≡ k + 1
length-decimal zero n least most wide = ap length (decimal_digit n (omega arith))
length-decimal (suc k) n least most wide =
    let e : suc k ≡ k + 1 = omega arith in
    let below : 10 * 10 ^ k ≤ n = rw (e, pow-more k) at least in
    let above : n < 10 * 10 ^ (k + 1) = rw (pow-more (suc k), e) at most in
    let ten : 0 < 10 = omega arith in
    let least_power : 0 ≤ k = omega arith in
    let one : 10 ^ 0 ≤ 10 ^ k = pow-le-pow_right ten least_power in
    let rest = length-decimal k (n / 10) (omega arith) (omega arith) (omega arith) in
    ap length (decimal_step n (omega arith) wide) ∙ length-append (decimal (n / 10)) _
    ∙ ap (λ m. m + 1) (rest ∙ omega arith)
