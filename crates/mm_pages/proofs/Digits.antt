-- The height of the tree, and the binary digits of the number of pages.
use Rattle.std.proofs.Common.{◌≡◌, ℕ, suc, ◌+◌, ◌-◌, ◌*◌, ◌^◌, ◌<◌, ◌≤◌, inl, inr, sym, subst, arith}
use Rattle.std.proofs.Math.Nat.{pow-suc, pow-le-pow_right}
use Rattle.std.proofs.lemmas.Bool.{cases_lt}
use Rattle.std.proofs.lemmas.Nat.{leading_top}
use lib.Count.{count_leading_zeros}
use Rattle.mm_pages.specs.Pages.{IsQuick}

pub height-digits : (pages height digits : ℕ) → 2 ^ height < 2 * pages → pages < 2 ^ digits → height ≤ digits
height-digits pages height digits tight fits = elim (cases_lt digits height) [
  | inr h ↦ h
  | inl h ↦ absurd (omega (
    arith,
    pow-le-pow_right {n = 2} (omega arith) {i = suc digits} {j = height} h,
    pow-suc 2 digits,
  ))
]

two_digits : (pages digits : ℕ) → 2 ≤ pages → pages < 2 ^ digits → 2 ≤ digits
two_digits pages digits two fits = elim (cases_lt digits 2) [
  | inr h ↦ h
  | inl h ↦ absurd (omega (arith, pow-le-pow_right {n = 2} (omega arith) {i = digits} {j = 1} (omega arith)))
]

pub IsQuick-height : (pages height before after : ℕ) → 2 ≤ pages → 2 ^ height < 2 * pages →
    after ≤ before + (3 + 5 * height) → IsQuick pages before after
IsQuick-height pages height before after two tight steps =
    λ digits fits. omega (arith, height-digits pages height digits tight fits, two_digits pages digits two fits)

pub small_height : (height : ℕ) → 2 ^ height < 2 * 4096 → height ≤ 12
small_height height h = elim (cases_lt 12 height) [
  | inr a ↦ a
  | inl a ↦ absurd (omega (arith, pow-le-pow_right {n = 2} (omega arith) {i = 13} {j = height} a))
]

-- the number of binary digits of one less than the pages
pub record Width (pages height : ℕ) : Type 0 where
  pub wide : pages ≤ 2 ^ height
  pub tight : 2 ^ height < 2 * pages

pub Width-digits : (pages : ℕ) → 2 ≤ pages → pages ≤ 4096 → Width pages (32 - count_leading_zeros 32 (pages - 1))
Width-digits pages two most =
    let top = leading_top 32 (pages - 1) (omega arith) (omega arith) in
    let height : 32 - count_leading_zeros 32 (pages - 1) ≡ suc top.0 = omega (arith, top.1) in
    let least : 2 ^ top.0 ≤ pages - 1 = top.2 in
    let most : pages - 1 < 2 ^ suc top.0 = top.3 in
    subst (λ (x : ℕ). Width pages x) (sym height) (record {
      wide = omega arith;
      tight = omega (
        arith,
        pow-suc 2 top.0,
      );
    })
