-- Two calls in a row, taken as one.
use Rattle.std.proofs.Common.{◌≡◌, ◌≤◌, ◌+◌, ◌-◌, ℕ, zero, suc, Option, None, Some, List, [], ◌∷◌, ◌++◌, take}
use Rattle.std.proofs.Common.{length}
use Rattle.std.proofs.Common.{length-append, ap, refl, sym, ◌∙◌, arith, append_assoc}
use Rattle.std.proofs.lemmas.List.{length-take}
use Rattle.std.proofs.lemmas.Grind.{common_steps}
use Rattle.std.proofs.Math.Seq.{take-append-add, take-append_seam}
use Rattle.mm_io.specs.Told.{Appends, AppendsFront, Gives, KeepsFirst, StillTells}

-- a sink that took x and then y has taken both, in this order
pub Appends-append : (a b c : Option (List ℕ)) (x y : List ℕ) → Appends a b x → Appends b c y → Appends a c (x ++ y)
Appends-append a b None x y first second = tt
Appends-append a None (Some c) x y first second = absurd second
Appends-append None (Some b) (Some c) x y first second = absurd first
Appends-append (Some a) (Some b) (Some c) x y first second = rw (second, first) (append_assoc a x y)

-- a sink that took x and then some front of y has taken a front of both
pub AppendsFront-append : (a b c : Option (List ℕ)) (x y : List ℕ) → Appends a b x → AppendsFront b c y
    → AppendsFront a c (x ++ y)
AppendsFront-append a b c x y first second =
    (length x + second.0, rw (take-append-add x y second.0) (Appends-append a b c x (take second.0 y) first second.1))

-- a sink that took x has taken a front of x and whatever was to follow
pub AppendsFront-of-Appends : (a b : Option (List ℕ)) (x y : List ℕ) → Appends a b x → AppendsFront a b (x ++ y)
AppendsFront-of-Appends a b x y first = (length x, rw (take-append_seam x y) first)

-- a source that gave x and then y has given both, in this order
pub Gives-append : (a b c : Option (List ℕ)) (x y : List ℕ) → Gives a b x → Gives b c y → Gives a c (x ++ y)
Gives-append a b None x y first second = tt
Gives-append a None (Some c) x y first second = absurd second
Gives-append None (Some b) (Some c) x y first second = absurd first
Gives-append (Some a) (Some b) (Some c) x y first second = rw (first, second) (sym (append_assoc x y c))

-- a sink that had room for m and then n more had room for all of them
pub StillTells-append : (room m n : ℕ) (a b c : Option (List ℕ)) (x : List ℕ) → length x ≤ m → Appends a b x
    → StillTells room a b m → StillTells room b c n → StillTells room a c (m + n)
StillTells-append room m n None b c x short first m_told n_told = tt
StillTells-append room m n (Some a) None c x short first m_told n_told = λ fits. cc (m_told (omega (arith, fits)))
StillTells-append room m n (Some a) (Some b) c x short first m_told n_told =
    λ fits. n_told (omega (arith, fits, length-append a x, ap length first))

-- the first of two pieces that stand behind each other
take-both : (n : ℕ) (x y : List ℕ) → take n (x ++ y) ≡ take n x ++ take (n - length x) y
take-both zero x y = ap (λ m. take m y) none
  where
    none : 0 ≡ 0 - length x
    none = omega arith
take-both (suc n) [] y = ap (λ m. take m y) all
  where
    all : suc n ≡ suc n - 0
    all = omega arith
take-both (suc n) (b ∷ x) y = ap (λ bs. b ∷ bs) (take-both n x y ∙ ap (λ m. take n x ++ take m y) less)
  where
    less : n - length x ≡ suc n - suc (length x)
    less = omega arith

-- what there is room for of two pieces is so much of the first, and then so much of the second
take-room : (room : ℕ) (a x y : List ℕ)
    → take (room - length a) (x ++ y)
    ≡ take (room - length a) x ++ take (room - length (a ++ take (room - length a) x)) y
take-room room a x y =
    take-both (room - length a) x y
    ∙ ap (λ n. take (room - length a) x ++ take n y)
    (omega (arith, length-append a (take (room - length a) x), length-take (room - length a) x))

-- a sink that kept what it could of x and then of y kept what it could of both
pub KeepsFirst-append : (room : ℕ) (a b c : Option (List ℕ)) (x y : List ℕ) → KeepsFirst room a b x
    → KeepsFirst room b c y → KeepsFirst room a c (x ++ y)
KeepsFirst-append room None None None x y first second = tt
KeepsFirst-append room None None (Some c) x y first second = absurd second
KeepsFirst-append room None (Some b) c x y first second = absurd first
KeepsFirst-append room (Some a) None c x y first second = absurd first
KeepsFirst-append room (Some a) (Some b) None x y first second = absurd second
KeepsFirst-append room (Some a) (Some b) (Some c) x y first second =
    second ∙ ap (λ bs. bs ++ take (room - length bs) y) first
    ∙ append_assoc a (take (room - length a) x) (take (room - length (a ++ take (room - length a) x)) y)
    ∙ ap (λ bs. a ++ bs) (sym (take-room room a x y))

-- a sink that isn't called takes nothing
pub Appends-nothing : (a : Option (List ℕ)) → Appends a a []
Appends-nothing None = tt
Appends-nothing (Some a) = grind (arith, common_steps)

-- a source that isn't called gives nothing
pub Gives-nothing : (a : Option (List ℕ)) → Gives a a []
Gives-nothing None = tt
Gives-nothing (Some a) = refl
