-- The free cells of a word, which has a bit set for each of them once the two low bits of each mark are joined.
use Rattle.std.proofs.Common.{◌≡◌, ℕ, ◌-◌, ◌*◌, ◌/◌, ◌%◌, ◌^◌, ◌<◌, ◌==◌, true, false, min, bit_and, refl, sym, ap}
use Rattle.std.proofs.Common.{◌∙◌, inl, inr, arith}
use Rattle.std.proofs.Math.Nat.{div-div-eq-div-mul, mul_comm}
use Rattle.std.proofs.lemmas.Bool.{agree_below_at, cases_eq, eqb-true}
use Rattle.std.proofs.lemmas.Bool.Decides.{nat_tests}
use Rattle.std.proofs.lemmas.Nat.{and_le_r}
use Rattle.std.proofs.lemmas.Nat.Bits.{bit_at_and, bit_at-zero, bit_at-lt, bit_at-trailing_zeros}
use Rattle.std.specs.Int.{bit_at, trailing_zeros, w32, w64}
use Rattle.mm_cells.specs.declared.marks.Mark.TheVariants.{Free}
use Rattle.mm_cells.specs.declared.marks.TheConstants.{ALL_FREE, LOWEST_BITS, LOWEST_BITS_OF_PAIR}
use Rattle.mm_cells.specs.Marks.{mark_of, code_in, mark_in, NoneFree, IsLowestFree}
use Rattle.mm_cells.proofs.Bits.Codes.{pow-sixteen}

-- a mark says free by its low two bits
pub low_bits-free : (code : ℕ) → mark_of code ≡ Free → code % 4 ≡ 3
low_bits-free code free = elim (cases_eq (code % 4) 3) [
  | inl here ↦ here
  | inr other ↦
      let low : (code % 4 == 3) ≡ false = grind (arith, nat_tests) in
      absurd (let taken = rw low at free in cc)
]

pub free-low_bits : (code : ℕ) → code % 4 ≡ 3 → mark_of code ≡ Free
free-low_bits code three =
    let low : (code % 4 == 3) ≡ true = grind (arith, nat_tests) in
    rw low refl

-- the two low bits of the mark at a place
pub low_bit : (word place : ℕ) → bit_at word (4 * place) ≡ code_in word place % 2
low_bit word place = rw pow-sixteen (omega arith)

pub next_bit : (word place : ℕ) → bit_at (word / 2) (4 * place) ≡ code_in word place / 2 % 2
next_bit word place =
    let halved : word / 2 / 16 ^ place ≡ word / 16 ^ place / 2 =
    div-div-eq-div-mul word 2 (16 ^ place) ∙ ap (λ m. word / m) (mul_comm 2 (16 ^ place))
    ∙ sym (div-div-eq-div-mul word (16 ^ place) 2) in
    rw (pow-sixteen, halved) (omega arith)

-- the masks have the lowest bit of each place, and no other
abbrev pub AreLowest : ℕ → ℕ → Type 0
AreLowest mask places = (i : ℕ) → i < 4 * places → bit_at mask i ≡ 1 - i % 4

pub lowest_bits : AreLowest LOWEST_BITS 8
lowest_bits i within =
    eqb-true (bit_at LOWEST_BITS i) (1 - i % 4)
    (agree_below_at (λ p. bit_at LOWEST_BITS p == 1 - p % 4) (λ _. true) 32 i refl within)

pub lowest_bits-pair : AreLowest LOWEST_BITS_OF_PAIR 16
lowest_bits-pair i within =
    eqb-true (bit_at LOWEST_BITS_OF_PAIR i) (1 - i % 4)
    (agree_below_at (λ p. bit_at LOWEST_BITS_OF_PAIR p == 1 - p % 4) (λ _. true) 64 i refl within)

-- the bits of a word, or of two, that stand for free cells
module _ (word mask places : ℕ) (are : AreLowest mask places) where
  free_bits : ℕ
  free_bits = bit_and (bit_and word (word / 2)) mask

  free_bits-at : (i : ℕ) → bit_at free_bits i ≡ min (min (bit_at word i) (bit_at (word / 2) i)) (bit_at mask i)
  unfolding free_bits
  free_bits-at i =
      bit_at_and (bit_and word (word / 2)) mask i ∙ ap (λ x. min x (bit_at mask i)) (bit_at_and word (word / 2) i)

  -- such a bit is set just where the mark says free
  free_bit : (place : ℕ) → bit_at free_bits (4 * place) ≡ 1 → mark_in word place ≡ Free
  free_bit place set =
      free-low_bits (code_in word place)
      (omega (arith, free_bits-at (4 * place), low_bit word place, next_bit word place))

  bit_free : (place : ℕ) → place < places → mark_in word place ≡ Free → bit_at free_bits (4 * place) ≡ 1
  bit_free place within free =
      omega (
        arith,
        free_bits-at (4 * place),
        low_bit word place,
        next_bit word place,
        low_bits-free (code_in word place) free,
        are (4 * place) (omega arith),
      )

  pub NoneFree-bits : bit_and (bit_and word (word / 2)) mask ≡ 0 → NoneFree (mark_in word) places
  unfolding free_bits
  NoneFree-bits none = λ place within free.
      let set = bit_free place within free in
      let unset = bit_at-zero (4 * place) in
      absurd (omega (arith, rw none at set))

  pub IsLowestFree-bits : (at : ℕ) → at < 4 * places → bit_at (bit_and (bit_and word (word / 2)) mask) at ≡ 1 →
      ((i : ℕ) → i < at → bit_at (bit_and (bit_and word (word / 2)) mask) i ≡ 0) →
      IsLowestFree (mark_in word) places (at / 4)
  unfolding free_bits
  IsLowestFree-bits at within first before =
      let lowest : bit_at mask at ≡ 1 = let one = bit_at-lt mask at in omega (arith, first, free_bits-at at) in
      let whole : at ≡ 4 * (at / 4) = let low = are at within in omega arith in
      let set : bit_at free_bits (4 * (at / 4)) ≡ 1 = ap (λ i. bit_at free_bits i) (sym whole) ∙ first in
      record {
        within = omega arith;
        free = free_bit (at / 4) set;
        lowest = λ place below free.
            let set = bit_free place (omega arith) free in
            let unset = before (4 * place) (omega arith) in
            absurd (omega arith);
      }

pub NoneFree-word : (word : ℕ) → bit_and (bit_and word (word / 2)) LOWEST_BITS ≡ 0 → NoneFree (mark_in word) 8
NoneFree-word word none = NoneFree-bits word LOWEST_BITS 8 lowest_bits none

pub NoneFree-pair : (pair : ℕ) → bit_and (bit_and pair (pair / 2)) LOWEST_BITS_OF_PAIR ≡ 0 →
    NoneFree (mark_in pair) 16
NoneFree-pair pair none = NoneFree-bits pair LOWEST_BITS_OF_PAIR 16 lowest_bits-pair none

pub IsLowestFree-word : (word : ℕ) → 0 < bit_and (bit_and word (word / 2)) LOWEST_BITS →
    IsLowestFree (mark_in word) 8 (trailing_zeros w32 (bit_and (bit_and word (word / 2)) LOWEST_BITS) / 4)
IsLowestFree-word word some =
    let bits = bit_and (bit_and word (word / 2)) LOWEST_BITS in
    let fits : bits < 2 ^ 32 = let most = and_le_r (bit_and word (word / 2)) LOWEST_BITS in omega arith in
    let first = bit_at-trailing_zeros w32 bits some fits in
    IsLowestFree-bits word LOWEST_BITS 8 lowest_bits (trailing_zeros w32 bits) first.0 first.1 first.2

pub IsLowestFree-pair : (pair : ℕ) → 0 < bit_and (bit_and pair (pair / 2)) LOWEST_BITS_OF_PAIR →
    IsLowestFree (mark_in pair) 16 (trailing_zeros w64 (bit_and (bit_and pair (pair / 2)) LOWEST_BITS_OF_PAIR) / 4)
IsLowestFree-pair pair some =
    let bits = bit_and (bit_and pair (pair / 2)) LOWEST_BITS_OF_PAIR in
    let fits : bits < 2 ^ 64 = let most = and_le_r (bit_and pair (pair / 2)) LOWEST_BITS_OF_PAIR in omega arith in
    let first = bit_at-trailing_zeros w64 bits some fits in
    IsLowestFree-bits pair LOWEST_BITS_OF_PAIR 16 lowest_bits-pair (trailing_zeros w64 bits) first.0 first.1 first.2

-- a word of which each cell is free
pub ALL_FREE-code : (place : ℕ) → place < 8 → code_in ALL_FREE place ≡ 3
ALL_FREE-code place within =
    eqb-true (code_in ALL_FREE place) 3
    (agree_below_at (λ p. code_in ALL_FREE p == 3) (λ _. true) 8 place refl within)
