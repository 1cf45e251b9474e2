-- Numbers one after another.
use Rattle.std.proofs.Common.{◌≡◌, ℕ, zero, suc, ◌+◌, List, [], ◌∷◌, ◌++◌, ap, ◌∙◌, arith}
use Rattle.std.specs.List.{range_with_len}

last : (low n next : ℕ) → low + n ≡ next → range_with_len low (suc n) ≡ range_with_len low n ++ next ∷ []
last low zero next e = let same : low ≡ next = omega arith in ap (λ (k : ℕ). k ∷ []) same
last low (suc n) next e = ap (λ (xs : List ℕ). low ∷ xs) (last (low + 1) n next (omega arith))

pub range-more : (n : ℕ) → range_with_len 0 (n + 1) ≡ range_with_len 0 n ++ n ∷ []
range-more n = let on : n + 1 ≡ suc n = omega arith in ap (range_with_len 0) on ∙ last 0 n n (omega arith)
