-- The first four bytes of a line, compared as one number.
use Rattle.std.proofs.Common.{◌≡◌, ℕ, ◌+◌, ◌-◌, ◌*◌, ◌<◌, ◌≤◌, List, [], ◌∷◌, ◌++◌, length, take, drop, get_or, refl}
use Rattle.std.proofs.Common.{arith}
use Rattle.std.proofs.lemmas.List.{take_all}

-- numbers of two digits, the lower one first, to the base 256
two_digits : (a b m n : ℕ) → a < 256 → b < 256 → a + 256 * m ≡ b + 256 * n → (a ≡ b) × (m ≡ n)
two_digits a b m n k l e = (omega arith, omega arith)

pub four_bytes : (line front : List ℕ) → 4 ≤ length line → length front ≡ 4
    → ((i : ℕ) → get_or line i 0 < 256) → ((i : ℕ) → get_or front i 0 < 256)
    → get_or line 0 0 + get_or line 1 0 * 256 + get_or line 2 0 * 65536 + get_or line 3 0 * 16777216
    ≡ get_or front 0 0 + get_or front 1 0 * 256 + get_or front 2 0 * 65536 + get_or front 3 0 * 16777216
    → line ≡ front ++ take (length line - 4) (drop 4 line)
four_bytes (a ∷ b ∷ c ∷ d ∷ rest) (e ∷ f ∷ g ∷ h ∷ []) some four fits fit same =
    let low = two_digits a e (b + 256 * (c + 256 * d)) (f + 256 * (g + 256 * h)) (fits 0) (fit 0) (omega arith) in
    let next = two_digits b f (c + 256 * d) (g + 256 * h) (fits 1) (fit 1) low.1 in
    let last = two_digits c g d h (fits 2) (fit 2) next.1 in
    let all : take (length (a ∷ b ∷ c ∷ d ∷ rest) - 4) rest ≡ rest = take_all _ rest (omega arith) in
    rw (low.0, next.0, last.0, last.1, all) refl
four_bytes line front some four fits fit same = absurd (omega arith)
