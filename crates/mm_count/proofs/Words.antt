-- Composites and their words.
use Rattle.std.proofs.Common.{◌≡◌, ◌<◌, ◌≤◌, ◌+◌, ◌*◌, ◌/◌, ◌%◌, ◌^◌, ℕ, Bool, true, false, refl, ap, ◌∙◌, arith}
use Rattle.std.specs.Prelude.{◌==◌, if◌then◌else◌}
use Rattle.mm_count.specs.declared.composite.Composite.{Composite}
use Rattle.mm_count.specs.Composite.{composite_in, word_of, FitsWord}

abbrev number : Bool → ℕ
number b = if b then 1 else 0

-- the five parts of a word
parted : (count place s p l : ℕ) → count < 2 ^ 8 → place < 2 ^ 20 → s ≤ 1 → p ≤ 1 → l ≤ 1 → (w : ℕ)
    → w ≡ count + 2 ^ 8 * place + 2 ^ 29 * s + 2 ^ 30 * p + 2 ^ 31 * l
    → (w % 2 ^ 8 ≡ count) × (w / 2 ^ 8 % 2 ^ 20 ≡ place) × (w / 2 ^ 29 % 2 ≡ s) × (w / 2 ^ 30 % 2 ≡ p)
    × (w / 2 ^ 31 % 2 ≡ l)
parted count place s p l c q a b d w e =
    let low : w / 2 ^ 8 ≡ place + 2 ^ 21 * s + 2 ^ 22 * p + 2 ^ 23 * l = omega arith in
    let high : w / 2 ^ 29 ≡ s + 2 * p + 4 * l = omega arith in
    let higher : w / 2 ^ 30 ≡ p + 2 * l = omega arith in
    let highest : w / 2 ^ 31 ≡ l = omega arith in
    (omega arith, omega arith, omega arith, omega arith, omega arith)

flag : (b : Bool) → (number b == 1) ≡ b
flag true = refl
flag false = refl

small : (b : Bool) → number b ≤ 1
small true = omega arith
small false = omega arith

weigh : (b : Bool) (n : ℕ) → (if b then n else 0) ≡ n * number b
weigh true n = omega arith
weigh false n = omega arith

-- a composite is what its word says
pub composite_in-word_of : (c : Composite) → FitsWord c → composite_in (word_of c) ≡ c
composite_in-word_of c fits =
    let s = weigh c.sticky (2 ^ 29) in
    let p = weigh c.pinned (2 ^ 30) in
    let l = weigh c.listed (2 ^ 31) in
    let is : word_of c ≡ c.count + 2 ^ 8 * c.place + 2 ^ 29 * number c.sticky + 2 ^ 30 * number c.pinned
    + 2 ^ 31 * number c.listed = omega arith in
    let parts = parted c.count c.place (number c.sticky) (number c.pinned) (number c.listed) fits.count fits.place
    (small c.sticky) (small c.pinned) (small c.listed) (word_of c) is in
    let sticky : (word_of c / 2 ^ 29 % 2 == 1) ≡ c.sticky = ap (λ n. n == 1) parts.2 ∙ flag c.sticky in
    let pinned : (word_of c / 2 ^ 30 % 2 == 1) ≡ c.pinned = ap (λ n. n == 1) parts.3 ∙ flag c.pinned in
    let listed : (word_of c / 2 ^ 31 % 2 == 1) ≡ c.listed = ap (λ n. n == 1) parts.4 ∙ flag c.listed in
    same parts.0 parts.1 sticky pinned listed
  where
    same : {count count' place place' : ℕ} {s s' p p' l l' : Bool} → count ≡ count' → place ≡ place' → s ≡ s' → p ≡ p'
        → l ≡ l'
        → ◌≡◌ {A = Composite} (record { count = count; place = place; sticky = s; pinned = p; listed = l })
        (record { count = count'; place = place'; sticky = s'; pinned = p'; listed = l' })
    same a b c d e = cc

pub fits-composite_in : (word : ℕ) → FitsWord (composite_in word)
fits-composite_in word = record { count = omega arith; place = omega arith }
