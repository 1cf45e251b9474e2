-- The lowest bit that is set, found word by word.
use Rattle.std.proofs.Common.{◌≡◌, ◌≢◌, ℕ, ◌+◌, ◌-◌, ◌*◌, ◌/◌, ◌%◌, ◌^◌, ◌<◌, List, slice_index, w32}
use Rattle.std.proofs.Common.{arith, inl, inr, ap, sym, ◌∙◌}
use Rattle.std.proofs.Math.Nat.{div-le_self}
use Rattle.std.proofs.lemmas.Bool.{cases_lt}
use Rattle.std.proofs.lemmas.Nat.{shr-shr}
use Rattle.std.proofs.lemmas.Nat.Bits.{bit_at-trailing_zeros, bit_at-zero, bit_at_above}
use Rattle.std.specs.Int.{bit_at, trailing_zeros}
use Rattle.mm_sets.specs.Bits.{bit_of, IsLowestBit, IsLowestBitOf, NoBit}

-- a bit of a word that is 0
pub bit_of-zero : (words : List ℕ) (k : ℕ) → slice_index words (k / 32) ≡ 0 → bit_of words k ≡ 0
bit_of-zero words k e = ap (λ (w : ℕ). bit_at w (k % 32)) e ∙ bit_at-zero (k % 32)

-- bit b of word i
bit_of-word : (words : List ℕ) (i b : ℕ) → b < 32 → bit_of words (32 * i + b) ≡ bit_at (slice_index words i) b
bit_of-word words i b small =
    let word : (32 * i + b) / 32 ≡ i = omega arith in
    let place : (32 * i + b) % 32 ≡ b = omega arith in
    ap (λ (x : ℕ). bit_at (slice_index words x) ((32 * i + b) % 32)) word
    ∙ ap (λ (x : ℕ). bit_at (slice_index words i) x) place

-- bit b of word i is the lowest of the word that is 1
pub record IsLowestInWord (words : List ℕ) (i b : ℕ) : Type 0 where
  pub within : b < 32
  pub lowest : IsLowestBit words (32 * i) (32 * i + b)

pub IsLowestInWord-trailing_zeros : (words : List ℕ) (i : ℕ) → 0 < slice_index words i → slice_index words i < 2 ^ 32 →
    IsLowestInWord words i (trailing_zeros w32 (slice_index words i))
IsLowestInWord-trailing_zeros words i some fits =
    let t = bit_at-trailing_zeros w32 (slice_index words i) some fits in record {
      within = t.0;
      lowest = record {
        reached = omega arith;
        here = bit_of-word words i _ t.0 ∙ t.1;
        none_lower = λ j from below. let e : j ≡ 32 * i + j % 32 = omega (arith, t.0) in
            ap (bit_of words) e ∙ bit_of-word words i (j % 32) (omega arith) ∙ t.2 (j % 32) (omega (arith, t.0));
      };
    }

-- what is left of the word of bit `from` where the bits below it are shifted out
abbrev pub rest_of : List ℕ → ℕ → ℕ
rest_of words from = slice_index words (from / 32) / 2 ^ (from % 32)

bit_of-rest : (words : List ℕ) (from i : ℕ) → from % 32 + i < 32 →
    bit_of words (from + i) ≡ bit_at (rest_of words from) i
bit_of-rest words from i small =
    let e : from + i ≡ 32 * (from / 32) + (from % 32 + i) = omega arith in
    ap (bit_of words) e ∙ bit_of-word words (from / 32) (from % 32 + i) small
    ∙ ap (λ (x : ℕ). x % 2) (sym (shr-shr (slice_index words (from / 32)) (from % 32) i))

rest_short : (words : List ℕ) (from i : ℕ) → slice_index words (from / 32) < 2 ^ 32 →
    bit_at (rest_of words from) i ≡ 1 → from % 32 + i < 32
rest_short words from i fits one = elim (cases_lt (from % 32 + i) 32) [
  | inl lt ↦ lt
  | inr ge ↦ absurd (omega (
    arith,
    one,
    ap (λ (x : ℕ). x % 2) (shr-shr (slice_index words (from / 32)) (from % 32) i),
    bit_at_above (slice_index words (from / 32)) 32 (from % 32 + i) fits ge,
  ))
]

pub IsLowestBitOf-rest : (words : List ℕ) (from to : ℕ) → rest_of words from ≢ 0 →
    slice_index words (from / 32) < 2 ^ 32 → from / 32 < to →
    IsLowestBitOf words from (32 * to) (from + trailing_zeros w32 (rest_of words from))
IsLowestBitOf-rest words from to some fits before =
    let rest_fits : rest_of words from < 2 ^ 32 =
    omega (arith, div-le_self (slice_index words (from / 32)) (2 ^ (from % 32))) in
    let t = bit_at-trailing_zeros w32 (rest_of words from) (omega arith) rest_fits in
    let short = rest_short words from _ fits t.1 in record {
      within = omega (arith, short);
      lowest = record {
        reached = omega arith;
        here = bit_of-rest words from _ short ∙ t.1;
        none_lower = λ j ge lt. let e : j ≡ from + (j - from) = omega arith in
            ap (bit_of words) e ∙ bit_of-rest words from (j - from) (omega (arith, short))
            ∙ t.2 (j - from) (omega arith);
      };
    }

-- the rest of the word of bit `from` is 0, and so are the words between it and word i
pub NoBit-words : (words : List ℕ) (from i : ℕ) → rest_of words from ≡ 0 →
    ((j : ℕ) → from / 32 < j → j < i → slice_index words j ≡ 0) → NoBit words from (32 * i)
NoBit-words words from i none zeros = λ j ge lt. elim (cases_lt (from / 32) (j / 32)) [
  | inl later ↦ bit_of-zero words j (zeros (j / 32) later (omega arith))
  | inr same ↦ let e : j ≡ from + (j - from) = omega arith in
      ap (bit_of words) e ∙ bit_of-rest words from (j - from) (omega arith)
      ∙ ap (λ (w : ℕ). bit_at w (j - from)) none ∙ bit_at-zero (j - from)
]

pub IsLowestBitOf-word : (words : List ℕ) (from to i b : ℕ) → from / 32 < i → i < to →
    NoBit words from (32 * i) → IsLowestInWord words i b → IsLowestBitOf words from (32 * to) (32 * i + b)
IsLowestBitOf-word words from to i b after before none low =
    let within : b < 32 = low.within in record {
      within = omega arith;
      lowest = record {
        reached = omega arith;
        here = low.lowest.here;
        none_lower = λ j ge lt. elim (cases_lt j (32 * i)) [
          | inl l ↦ none j ge l
          | inr g ↦ low.lowest.none_lower j g lt
        ];
      };
    }
