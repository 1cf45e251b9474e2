-- Elements of the front of a list.
use Rattle.std.proofs.Common.{◌≡◌, ℕ, zero, suc, ◌<◌, List, [], ◌∷◌, take, Some, refl, arith}
use Rattle.std.specs.Prelude.{slice_get}

pub get-take : {X : Type 0} (n k : ℕ) (xs : List X) → k < n → slice_get (take n xs) k ≡ slice_get xs k
get-take zero k xs h = absurd (omega arith)
get-take (suc n) k [] h = refl
get-take (suc n) zero (x ∷ xs) h = refl
get-take (suc n) (suc k) (x ∷ xs) h = get-take n k xs (omega arith)

pub get-take_within : {X : Type 0} (n k : ℕ) (xs : List X) (x : X) → slice_get (take n xs) k ≡ Some x → k < n
get-take_within zero k xs x h = cc
get-take_within (suc n) k [] x h = cc
get-take_within (suc n) zero (y ∷ xs) x h = omega arith
get-take_within (suc n) (suc k) (y ∷ xs) x h = let rest = get-take_within n k xs x h in omega arith
