-- Where the cells of a page begin, counted in bytes and in units of 16 bytes.
use Rattle.std.proofs.Common.{◌≡◌, ℕ, ◌+◌, ◌*◌, ◌/◌, ◌%◌, ◌<◌, ◌≤◌, inl, inr, arith, ◌∙◌, ap}
use Rattle.std.proofs.Math.Nat.{mul-le-mul_right}
use Rattle.std.proofs.lemmas.Bool.{cases_lt}
use Rattle.std.proofs.lemmas.Grind.{div_ceil_times}
use Rattle.std.proofs.lemmas.Nat.{div-mul-add, mod-mul-add, div-add-mod'}
use Rattle.std.specs.Int.{div_ceil}

-- a cell that fits begins below the page's end, and ends by it
pub cell-fits : (number cells size : ℕ) → number < cells → cells * size ≤ 4096 → number * size + size ≤ 4096
cell-fits number cells size within fit = grind (arith, mul-le-mul_right)

-- a multiple of a size, and what is left of it
pub div-whole : (number size : ℕ) → 0 < size → number * size / size ≡ number
div-whole number size some = ap (λ (x : ℕ). x / size) (omega arith) ∙ div-mul-add number size 0 some

pub mod-whole : (number size : ℕ) → 0 < size → number * size % size ≡ 0
mod-whole number size some = ap (λ (x : ℕ). x % size) (omega arith) ∙ mod-mul-add number size 0 some

pub whole-div : (offset size : ℕ) → offset % size ≡ 0 → offset ≡ offset / size * size
whole-div offset size whole = omega (arith, div-add-mod' offset size)

pub div-rest : (offset size : ℕ) → 0 < size →
    (offset / size * size ≤ offset) × (offset < offset / size * size + size)
div-rest offset size some = (omega (arith, div-add-mod' offset size), omega (arith, div-add-mod' offset size))

-- as many of a size as reach an offset, rounded up
pub div_ceil-below : (offset size number : ℕ) → 0 < size → offset ≤ number * size → div_ceil offset size ≤ number
div_ceil-below offset size number some fits =
    let times = div_ceil_times offset size some in
    elim (cases_lt number (div_ceil offset size)) [
      | inr h ↦ h
      | inl h ↦
          let more : number + 1 ≤ div_ceil offset size = omega arith in
          absurd (omega (arith, times.1, mul-le-mul_right size more))
    ]

pub div_ceil-reaches : (offset size number : ℕ) → 0 < size → div_ceil offset size ≤ number → offset ≤ number * size
div_ceil-reaches offset size number some below =
    let times = div_ceil_times offset size some in
    omega (arith, times.0, mul-le-mul_right size below)

-- the page and the place in it of a unit
pub page-of_grain : (page place : ℕ) → place < 256 → (256 * page + place) / 256 ≡ page
page-of_grain page place within = omega arith

pub place-of_grain : (page place : ℕ) → place < 256 → (256 * page + place) % 256 ≡ place
place-of_grain page place within = omega arith

pub grain-parts : (grain : ℕ) → 16 * grain ≡ 4096 * (grain / 256) + 16 * (grain % 256)
grain-parts grain = omega arith
