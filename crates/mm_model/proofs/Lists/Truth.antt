-- What tests joined by `&&` and `||` and turned by `not` say.
use Rattle.std.proofs.Common.{◌≡◌, Bool, true, false, not, refl}
use Rattle.std.specs.Prelude.{◌&&◌, ◌||◌}

pub together : (a b : Bool) → a ≡ true → b ≡ true → (a && b) ≡ true
together true true p q = refl
together true false p q = cc
together false b p q = cc

pub or_true : (a b : Bool) → b ≡ true → (a || b) ≡ true
or_true true b e = refl
or_true false b e = e

pub holds-not : (b : Bool) → not b ≡ false → b ≡ true
holds-not true e = refl
holds-not false e = cc

pub not_true : (b : Bool) → not b ≡ true → b ≡ true → ⊥
not_true true p q = cc
not_true false p q = cc

pub not-false : (b : Bool) → b ≡ false → not b ≡ true
not-false true e = cc
not-false false e = refl

pub no_other : {b : Bool} → b ≡ false → b ≡ true → ⊥
no_other p q = cc
