-- A word whose taken cells become white: the flags stay, and so does what says free.
use Rattle.std.proofs.Common.{◌≡◌, ℕ, ◌+◌, ◌-◌, ◌*◌, ◌/◌, ◌%◌, ◌^◌, ◌<◌, ◌==◌, false, true, refl, min, max, bit_and}
use Rattle.std.proofs.Common.{bit_or, sym, ap, subst}
use Rattle.std.proofs.Common.{◌∙◌, inl, inr, arith}
use Rattle.std.proofs.lemmas.Bool.{agree_below_at, cases_eq, cases_lt, eqb-true, ne_eqb}
use Rattle.std.proofs.lemmas.Nat.{and_le_r}
use Rattle.std.proofs.lemmas.Nat.Bits.{bit_at_and, bit_at_or, bit_at-lt, bit_at_lowest}
use Rattle.std.specs.Int.{bit_at}
use Rattle.mm_model.specs.declared.object.Colour.TheVariants.{White}
use Rattle.mm_cells.specs.declared.marks.Mark.TheVariants.{Taken}
use Rattle.mm_cells.specs.declared.marks.TheConstants.{FLAG_BITS, LOWEST_BITS}
use Rattle.mm_cells.specs.Marks.{mark_of, colour_of, flags_of, code_in, mark_in, whitened_mark, IsPlain, WhitensWord}
use Rattle.mm_cells.proofs.Bits.Codes.{pow-sixteen}
use Rattle.mm_cells.proofs.Bits.Free.{free-low_bits, low_bits-free, low_bit, next_bit, lowest_bits}
use Rattle.mm_cells.proofs.Bits.Sought.{bit_at-shifted}

-- the mask of flags, bit by bit
flag_bits : (i : ℕ) → i < 32 → bit_at FLAG_BITS i ≡ i % 4 / 2
flag_bits i within =
    eqb-true (bit_at FLAG_BITS i) (i % 4 / 2)
    (agree_below_at (λ p. bit_at FLAG_BITS p == p % 4 / 2) (λ _. true) 32 i refl within)

-- the bits of the mark at a place
bit_of_place : (word place j : ℕ) → bit_at word (4 * place + j) ≡ word / 16 ^ place / 2 ^ j % 2
bit_of_place word place j =
    sym (bit_at-shifted word (4 * place) j) ∙ ap (λ x. word / x / 2 ^ j % 2) (pow-sixteen place)

-- a word that is shifted up by one
bit_at-doubled : (n k i : ℕ) → i ≡ 1 + k → bit_at (n * 2) i ≡ bit_at n k
bit_at-doubled n k i next =
    let halved : n * 2 / 2 ^ 1 ≡ n = omega arith in
    ap (λ x. bit_at (n * 2) x) next ∙ sym (bit_at-shifted (n * 2) 1 k) ∙ ap (λ x. bit_at x k) halved

module _ (word : ℕ) where
  free : ℕ
  free = bit_and (bit_and word (word / 2)) LOWEST_BITS

  whitened : ℕ
  whitened = bit_or (bit_or (bit_and word FLAG_BITS) free) (free * 2)

  free-at : (i : ℕ) → i < 32 → bit_at free i ≡ min (min (bit_at word i) (bit_at (word / 2) i)) (1 - i % 4)
  unfolding free
  free-at i within =
      bit_at_and (bit_and word (word / 2)) LOWEST_BITS i
      ∙ ap (λ x. min x (bit_at LOWEST_BITS i)) (bit_at_and word (word / 2) i)
      ∙ ap (λ x. min (min (bit_at word i) (bit_at (word / 2) i)) x) (lowest_bits i within)

  whitened-at : (i : ℕ) → i < 32 →
      bit_at whitened i ≡ max (max (min (bit_at word i) (i % 4 / 2)) (bit_at free i)) (bit_at (free * 2) i)
  unfolding whitened
  whitened-at i within =
      bit_at_or (bit_or (bit_and word FLAG_BITS) free) (free * 2) i
      ∙ ap (λ x. max x (bit_at (free * 2) i)) (bit_at_or (bit_and word FLAG_BITS) free i)
      ∙ ap (λ x. max (max x (bit_at free i)) (bit_at (free * 2) i))
      (bit_at_and word FLAG_BITS i ∙ ap (λ x. min (bit_at word i) x) (flag_bits i within))

  -- where no mark begins, no bit says free
  free-off : (i : ℕ) → i < 32 → 0 < i % 4 → bit_at free i ≡ 0
  free-off i within off = omega (arith, free-at i within)

  free-here : (place : ℕ) → place < 8 →
      bit_at free (4 * place) ≡ min (code_in word place % 2) (code_in word place / 2 % 2)
  free-here place within =
      omega (arith, free-at (4 * place) (omega arith), low_bit word place, next_bit word place)

  shifted-here : (place : ℕ) → place < 8 → bit_at (free * 2) (4 * place) ≡ 0
  shifted-here place within = elim (cases_lt 0 place) [
    | inl above ↦
        bit_at-doubled free (4 * place - 1) (4 * place) (omega arith)
        ∙ free-off (4 * place - 1) (omega arith) (omega arith)
    | inr none ↦
        let at : 4 * place ≡ 0 = omega arith in
        let even : free * 2 % 2 ≡ 0 = omega arith in
        ap (λ x. bit_at (free * 2) x) at ∙ bit_at_lowest (free * 2) ∙ even
  ]

  -- the four bits at a place
  low_bits : (place : ℕ) → place < 8 →
      code_in whitened place % 4 ≡ 3 * min (code_in word place % 2) (code_in word place / 2 % 2)
  low_bits place within =
      let second : code_in whitened place / 2 % 2 ≡ bit_at whitened (4 * place + 1) =
      omega (arith, bit_of_place whitened place 1) in
      let here = free-here place within in
      let shifted : bit_at (free * 2) (4 * place + 1) ≡ bit_at free (4 * place) =
      bit_at-doubled free (4 * place) (4 * place + 1) (omega arith) in
      let zero : bit_at whitened (4 * place) ≡ bit_at free (4 * place) =
      omega (arith, whitened-at (4 * place) (omega arith), shifted-here place within) in
      let one : bit_at whitened (4 * place + 1) ≡ bit_at free (4 * place) =
      omega (
        arith,
        whitened-at (4 * place + 1) (omega arith),
        free-off (4 * place + 1) (omega arith) (omega arith),
        shifted,
      ) in
      omega (arith, low_bit whitened place, second, zero, one, here)

  flag-same : (place j : ℕ) → place < 8 → 1 < j → j < 4 → bit_at whitened (4 * place + j) ≡ bit_at word (4 * place + j)
  flag-same place j within two four =
      let shifted : bit_at (free * 2) (4 * place + j) ≡ 0 =
      bit_at-doubled free (4 * place + (j - 1)) (4 * place + j) (omega arith)
      ∙ free-off (4 * place + (j - 1)) (omega arith) (omega arith) in
      let off : bit_at free (4 * place + j) ≡ 0 = free-off (4 * place + j) (omega arith) (omega arith) in
      let small = bit_at-lt word (4 * place + j) in
      let rest : (4 * place + j) % 4 / 2 ≡ 1 = omega arith in
      omega (arith, whitened-at (4 * place + j) (omega arith), shifted, off, small, rest)

  high_bits : (place : ℕ) → place < 8 → code_in whitened place / 4 ≡ code_in word place / 4
  high_bits place within =
      let third : code_in whitened place / 4 % 2 ≡ code_in word place / 4 % 2 =
      omega (
        arith,
        bit_of_place whitened place 2,
        bit_of_place word place 2,
        flag-same place 2 within (omega arith)
            (omega arith),
      ) in
      let fourth : code_in whitened place / 8 % 2 ≡ code_in word place / 8 % 2 =
      omega (
        arith,
        bit_of_place whitened place 3,
        bit_of_place word place 3,
        flag-same place 3 within (omega arith)
            (omega arith),
      ) in
      omega (arith, third, fourth)

-- by its bits, a mark is that of a white cell, or free
mark_of-whitened : (before after : ℕ) → after / 4 ≡ before / 4 →
    after % 4 ≡ 3 * min (before % 2) (before / 2 % 2) → mark_of after ≡ whitened_mark (mark_of before)
mark_of-whitened before after flags low = elim (cases_eq (before % 4) 3) [
  | inl here ↦
      free-low_bits after (omega arith) ∙ sym (ap whitened_mark (free-low_bits before here))
  | inr other ↦
      let none : after % 4 ≡ 0 = omega arith in
      let test : (before % 4 == 3) ≡ false = ne_eqb (before % 4) 3 other in
      let white : mark_of after ≡ Taken White (flags_of after) = rw none refl in
      let was : mark_of before ≡ Taken (colour_of (before % 4)) (flags_of before) = rw test refl in
      white ∙ ap (λ x. Taken White (record { 0 = x })) flags ∙ sym (ap whitened_mark was)
]

-- a free one keeps its flags
plain-whitened : (before after : ℕ) → after / 4 ≡ before / 4 →
    after % 4 ≡ 3 * min (before % 2) (before / 2 % 2) → IsPlain before → IsPlain after
plain-whitened before after flags low plain = λ free.
    let now : after % 4 ≡ 3 = low_bits-free after free in
    let was : before ≡ 3 = plain (free-low_bits before (omega arith)) in
    omega arith

mark_in-whitened : (word place : ℕ) → place < 8 →
    mark_in (bit_or (bit_or (bit_and word FLAG_BITS) (bit_and (bit_and word (word / 2)) LOWEST_BITS))
    (bit_and (bit_and word (word / 2)) LOWEST_BITS * 2 % 2 ^ 32)) place ≡ whitened_mark (mark_in word place)
unfolding free whitened
mark_in-whitened word place within =
    let fits : free word * 2 % 2 ^ 32 ≡ free word * 2 =
    let most = and_le_r (bit_and word (word / 2)) LOWEST_BITS in
    omega arith in
    ap (λ x. mark_in (bit_or (bit_or (bit_and word FLAG_BITS) (free word)) x) place) fits
    ∙ mark_of-whitened (code_in word place) (code_in (whitened word) place) (high_bits word place within)
    (low_bits word place within)

code_in-plain : (word place : ℕ) → place < 8 → IsPlain (code_in word place) →
    IsPlain (code_in (bit_or (bit_or (bit_and word FLAG_BITS) (bit_and (bit_and word (word / 2)) LOWEST_BITS))
    (bit_and (bit_and word (word / 2)) LOWEST_BITS * 2 % 2 ^ 32)) place)
unfolding free whitened
code_in-plain word place within plain =
    let fits : free word * 2 ≡ free word * 2 % 2 ^ 32 =
    let most = and_le_r (bit_and word (word / 2)) LOWEST_BITS in
    omega arith in
    subst (λ (x : ℕ). IsPlain (code_in (bit_or (bit_or (bit_and word FLAG_BITS) (free word)) x) place)) fits
    (plain-whitened (code_in word place) (code_in (whitened word) place) (high_bits word place within)
    (low_bits word place within) plain)

pub whitens-word : (word : ℕ) → WhitensWord word
    (bit_or (bit_or (bit_and word FLAG_BITS) (bit_and (bit_and word (word / 2)) LOWEST_BITS))
    (bit_and (bit_and word (word / 2)) LOWEST_BITS * 2 % 2 ^ 32))
whitens-word word = record { white = mark_in-whitened word; plain = code_in-plain word }
