-- The cells of a word that are sought, from a place on, by a mask that has a bit set for each of them.
use Rattle.std.proofs.Common.{◌≡◌, ℕ, ◌+◌, ◌-◌, ◌*◌, ◌/◌, ◌%◌, ◌^◌, ◌<◌, ◌==◌, min, max, bit_and, bit_or, sym}
use Rattle.std.proofs.Common.{ap, ◌∙◌, inl, inr, refl, subst, arith}
use Rattle.std.specs.Prelude.{if◌then◌else◌}
use Rattle.std.proofs.lemmas.Bool.{cases_lt, cases_eq}
use Rattle.std.proofs.Math.Nat.{div-div-eq-div-mul, div-le_self}
use Rattle.std.proofs.lemmas.Nat.{and_le_l, or_of_32, pow-add}
use Rattle.std.proofs.lemmas.Nat.Bits.{bit_at_and, bit_at_or, bit_at_not, bit_at_above, bit_at-zero, bit_at-lt}
use Rattle.std.proofs.lemmas.Nat.Bits.{bit_at-trailing_zeros}
use Rattle.std.specs.Int.{bit_at, bit_not, trailing_zeros, w32}
use Rattle.mm_model.specs.declared.object.Colour.{Colour}
use Rattle.mm_model.specs.declared.object.Colour.TheVariants.{White, Gray, Black}
use Rattle.mm_cells.specs.declared.marks.CellBits.{CellBits}
use Rattle.mm_cells.specs.declared.marks.Mark.{Mark}
use Rattle.mm_cells.specs.declared.marks.Mark.TheVariants.{Free, Taken}
use Rattle.mm_cells.specs.declared.marks.Sought.{Sought}
use Rattle.mm_cells.specs.declared.marks.Sought.TheVariants as sought
use Rattle.mm_cells.specs.declared.marks.TheConstants.{LOWEST_BITS}
use Rattle.mm_cells.specs.Marks.{code_in, colour_of, flags_of, colour_code, mark_of, mark_in}
use Rattle.mm_cells.specs.Marks.{IsSought, NoneSought, IsLowestSought, IsMaskOf}
use Rattle.mm_cells.proofs.Bits.Free.{low_bits-free, free-low_bits, low_bit, next_bit, lowest_bits}

pub bit_at-shifted : (n k i : ℕ) → bit_at (n / 2 ^ k) i ≡ bit_at n (k + i)
bit_at-shifted n k i =
    ap (λ x. x % 2) (div-div-eq-div-mul n (2 ^ k) (2 ^ i) ∙ ap (λ x. n / x) (sym (pow-add 2 k i)))

-- the colour of a mark by its low two bits
sought-low : (colour : Colour) (n : ℕ) (flags : CellBits) → n ≡ colour_code colour →
    IsSought (sought.Of colour) (if n == 3 then Free else Taken (colour_of n) flags)
sought-low White n flags e = rw e refl
sought-low Gray n flags e = rw e refl
sought-low Black n flags e = rw e refl

low-sought : (colour : Colour) (n : ℕ) (flags : CellBits) → n < 4 →
    IsSought (sought.Of colour) (if n == 3 then Free else Taken (colour_of n) flags) → n ≡ colour_code colour
low-sought colour n flags small is = elim (cases_eq n 0) [
  | inl white ↦ white ∙ ap colour_code (rw white at is)
  | inr not_white ↦ elim (cases_eq n 1) [
    | inl black ↦ black ∙ ap colour_code (rw black at is)
    | inr not_black ↦ elim (cases_eq n 2) [
      | inl gray ↦ gray ∙ ap colour_code (rw gray at is)
      | inr not_gray ↦
          let free : n ≡ 3 = omega arith in
          absurd (rw free at is)
    ]
  ]
]

pub white-low : (code : ℕ) (flags : CellBits) → mark_of code ≡ Taken White flags → code % 4 ≡ 0
white-low code flags is =
    low-sought White (code % 4) (flags_of code) (omega arith)
    (subst (λ (mark : Mark). IsSought (sought.Of White) mark) (sym is) refl)

-- the bits of a mask are chosen among those of another word
pub IsMaskOf-bits : (what : Sought) (word bits : ℕ) →
    ((place : ℕ) → place < 8 → bit_at bits (4 * place) ≡ 1 → IsSought what (mark_in word place)) →
    ((place : ℕ) → place < 8 → IsSought what (mark_in word place) → bit_at bits (4 * place) ≡ 1) →
    IsMaskOf what word (bit_and bits LOWEST_BITS)
IsMaskOf-bits what word bits set unset = record {
  places = λ i within one.
      let small = bit_at-lt LOWEST_BITS i in
      let first = bit_at-lt bits i in
      omega (arith, bit_at_and bits LOWEST_BITS i, lowest_bits i within);
  set = λ place within one.
      let first = bit_at-lt bits (4 * place) in
      set place within (omega (arith, bit_at_and bits LOWEST_BITS (4 * place), lowest_bits (4 * place) (omega arith)));
  unset = λ place within is.
      omega (
        arith,
        bit_at_and bits LOWEST_BITS (4 * place),
        lowest_bits (4 * place) (omega arith),
        unset place within is,
      );
}

module _ (word : ℕ) (fits : word < 2 ^ 32) where
  half-lt : word / 2 < 2 ^ 32
  half-lt = omega arith

  taken-at : (place : ℕ) → place < 8 →
      bit_at (bit_not w32 (bit_and word (word / 2))) (4 * place)
      ≡ 1 - min (code_in word place % 2) (code_in word place / 2 % 2)
  taken-at place within =
      let small : bit_and word (word / 2) < 2 ^ 32 = let most = and_le_l word (word / 2) in omega arith in
      omega (
        arith,
        bit_at_not w32 (bit_and word (word / 2)) (4 * place) small (omega arith),
        bit_at_and word (word / 2) (4 * place),
        low_bit word place,
        next_bit word place,
      )

  pub IsMaskOf-taken : IsMaskOf sought.Taken word (bit_and (bit_not w32 (bit_and word (word / 2))) LOWEST_BITS)
  IsMaskOf-taken =
      IsMaskOf-bits sought.Taken word (bit_not w32 (bit_and word (word / 2)))
      (λ place within set free.
      omega (arith, taken-at place within, low_bits-free (code_in word place) free))
      (λ place within taken. elim (cases_eq (code_in word place % 4) 3) [
        | inl free ↦ absurd (taken (free-low_bits (code_in word place) free))
        | inr other ↦ omega (arith, taken-at place within)
      ])

  -- a bit that is set just where the low two bits say the colour
  IsMaskOf-colour : (colour : Colour) (bits : ℕ) →
      ((place : ℕ) → place < 8 → bit_at bits (4 * place) ≡ 1 → code_in word place % 4 ≡ colour_code colour) →
      ((place : ℕ) → place < 8 → code_in word place % 4 ≡ colour_code colour → bit_at bits (4 * place) ≡ 1) →
      IsMaskOf (sought.Of colour) word (bit_and bits LOWEST_BITS)
  IsMaskOf-colour colour bits set unset =
      IsMaskOf-bits (sought.Of colour) word bits
      (λ place within one.
      sought-low colour (code_in word place % 4) (flags_of (code_in word place)) (set place within one))
      (λ place within is.
      unset place within (low-sought colour (code_in word place % 4) (flags_of (code_in word place)) (omega arith) is))

  white-at : (place : ℕ) → place < 8 →
      bit_at (bit_not w32 (bit_or word (word / 2))) (4 * place)
      ≡ 1 - max (code_in word place % 2) (code_in word place / 2 % 2)
  white-at place within =
      let small : bit_or word (word / 2) < 2 ^ 32 = or_of_32 word (word / 2) fits half-lt in
      omega (
        arith,
        bit_at_not w32 (bit_or word (word / 2)) (4 * place) small (omega arith),
        bit_at_or word (word / 2) (4 * place),
        low_bit word place,
        next_bit word place,
      )

  pub IsMaskOf-white :
      IsMaskOf (sought.Of White) word (bit_and (bit_not w32 (bit_or word (word / 2))) LOWEST_BITS)
  IsMaskOf-white =
      IsMaskOf-colour White (bit_not w32 (bit_or word (word / 2)))
      (λ place within one. omega (arith, white-at place within))
      (λ place within low. omega (arith, white-at place within))

  gray-at : (place : ℕ) → place < 8 →
      bit_at (bit_and (bit_not w32 word) (word / 2)) (4 * place)
      ≡ min (1 - code_in word place % 2) (code_in word place / 2 % 2)
  gray-at place within =
      omega (
        arith,
        bit_at_and (bit_not w32 word) (word / 2) (4 * place),
        bit_at_not w32 word (4 * place) fits (omega arith),
        low_bit word place,
        next_bit word place,
      )

  pub IsMaskOf-gray : IsMaskOf (sought.Of Gray) word (bit_and (bit_and (bit_not w32 word) (word / 2)) LOWEST_BITS)
  IsMaskOf-gray =
      IsMaskOf-colour Gray (bit_and (bit_not w32 word) (word / 2))
      (λ place within one. omega (arith, gray-at place within))
      (λ place within low. omega (arith, gray-at place within))

  black-at : (place : ℕ) → place < 8 →
      bit_at (bit_and word (bit_not w32 (word / 2))) (4 * place)
      ≡ min (code_in word place % 2) (1 - code_in word place / 2 % 2)
  black-at place within =
      omega (
        arith,
        bit_at_and word (bit_not w32 (word / 2)) (4 * place),
        bit_at_not w32 (word / 2) (4 * place) half-lt (omega arith),
        low_bit word place,
        next_bit word place,
      )

  pub IsMaskOf-black : IsMaskOf (sought.Of Black) word (bit_and (bit_and word (bit_not w32 (word / 2))) LOWEST_BITS)
  IsMaskOf-black =
      IsMaskOf-colour Black (bit_and word (bit_not w32 (word / 2)))
      (λ place within one. omega (arith, black-at place within))
      (λ place within low. omega (arith, black-at place within))

-- where those bits before a place are shifted out
pub NoneSought-word : (what : Sought) (word mask from : ℕ) → IsMaskOf what word mask → mask / 2 ^ (4 * from) ≡ 0 →
    NoneSought what (mark_in word) from 8
NoneSought-word what word mask from is none = λ place reached within suits.
    let at : 4 * from + (4 * place - 4 * from) ≡ 4 * place = omega arith in
    let unset : bit_at mask (4 * place) ≡ 0 =
    ap (λ i. bit_at mask i) (sym at) ∙ sym (bit_at-shifted mask (4 * from) (4 * place - 4 * from))
    ∙ ap (λ n. bit_at n (4 * place - 4 * from)) none ∙ bit_at-zero (4 * place - 4 * from) in
    omega (arith, unset, is.unset place within suits)

pub IsLowestSought-word : (what : Sought) (word mask from : ℕ) → mask < 2 ^ 32 → IsMaskOf what word mask →
    0 < mask / 2 ^ (4 * from) →
    IsLowestSought what (mark_in word) from 8 (from + trailing_zeros w32 (mask / 2 ^ (4 * from)) / 4)
IsLowestSought-word what word mask from fits is some =
    let shifted = mask / 2 ^ (4 * from) in
    let small : shifted < 2 ^ 32 = let most = div-le_self mask (2 ^ (4 * from)) in omega arith in
    let first = bit_at-trailing_zeros w32 shifted some small in
    let zeros = trailing_zeros w32 shifted in
    let at = 4 * from + zeros in
    let set : bit_at mask at ≡ 1 = sym (bit_at-shifted mask (4 * from) zeros) ∙ first.1 in
    let within : at < 32 = elim (cases_lt at 32) [
      | inl below ↦ below
      | inr above ↦ absurd (omega (arith, bit_at_above mask 32 at fits above))
    ] in
    let whole : at ≡ 4 * (from + zeros / 4) = let low = is.places at within set in omega arith in
    record {
      reached = omega arith;
      within = omega arith;
      is = is.set (from + zeros / 4) (omega arith) (ap (λ i. bit_at mask i) (sym whole) ∙ set);
      lowest = λ place reached below suits.
          let off = 4 * place - 4 * from in
          let there : 4 * from + off ≡ 4 * place = omega arith in
          let unset : bit_at mask (4 * place) ≡ 0 =
          ap (λ i. bit_at mask i) (sym there) ∙ sym (bit_at-shifted mask (4 * from) off) ∙ first.2 off (omega arith) in
          omega (arith, unset, is.unset place (omega arith) suits);
    }
