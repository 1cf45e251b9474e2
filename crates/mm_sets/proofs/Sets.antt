-- Sets: how the summary and the members hold together.
use Rattle.std.proofs.Common.{◌≡◌, ℕ, ◌+◌, ◌-◌, ◌*◌, ◌/◌, ◌^◌, ◌<◌, ◌≤◌, true, false, List, length, slice_index}
use Rattle.std.proofs.Common.{w32, Option, Some, None, MatchOption}
use Rattle.std.proofs.Common.{arith, inl, inr, ap, sym, ◌∙◌, nat_eq}
use Rattle.std.proofs.lemmas.Bool.{cases_lt}
use Rattle.std.specs.Int.{trailing_zeros}
use Rattle.mm_sets.specs.Bits.{bit_of, IsLowestBitOf, NoBit}
use Rattle.mm_sets.specs.Set.{IsEmptyBetween, IsEmptyFrom, IsLowestFrom}
use Rattle.mm_sets.specs.Set.{IsSet, member_words, members, set_size}
use Rattle.mm_sets.proofs.LowestBits.{bit_of-zero, IsLowestInWord, IsLowestInWord-trailing_zeros}

pub members-false : (words : List ℕ) (n : ℕ) → bit_of words (128 + n) ≡ 0 → members words n ≡ false
members-false words n e = ap (λ (b : ℕ). nat_eq b 1) e

pub members-true : (words : List ℕ) (n : ℕ) → bit_of words (128 + n) ≡ 1 → members words n ≡ true
members-true words n e = ap (λ (b : ℕ). nat_eq b 1) e

-- no member is in a word that the summary passes over
none_unshown : (limit : ℕ) (words : List ℕ) (n : ℕ) → IsSet limit words → n / 32 < member_words limit →
    bit_of words (n / 32) ≡ 0 → members words n ≡ false
none_unshown limit words n s own hidden =
    let zero_word : slice_index words (4 + n / 32) ≡ 0 =
    elim (cases_lt 0 (slice_index words (4 + n / 32))) [
      | inl some ↦ absurd (omega (arith, s.shown (n / 32) own some))
      | inr none ↦ omega arith
    ] in
    let place : (128 + n) / 32 ≡ 4 + n / 32 = omega arith in
    members-false words n (bit_of-zero words (128 + n) (ap (slice_index words) place ∙ zero_word))

member_below : (limit : ℕ) (words : List ℕ) (n : ℕ) → IsSet limit words → n < 32 * member_words limit →
    members words n ≡ true → n < limit
member_below limit words n s own here = elim (cases_lt n limit) [
  | inl lt ↦ lt
  | inr ge ↦ absurd (cc (here, s.below n ge own))
]

pub IsEmptyFrom-summary : (limit : ℕ) (words : List ℕ) (start : ℕ) → IsSet limit words →
    NoBit words start 128 → IsEmptyFrom (32 * start) limit words
IsEmptyFrom-summary limit words start s none = λ n ge below.
    let small : limit ≤ 4096 = s.small in
    none_unshown limit words n s (omega arith) (none (n / 32) (omega arith) (omega arith))

-- the summary shows no word of start .. place, and bit b is the lowest of member word `place`
IsLowestFrom-found : (limit : ℕ) (words : List ℕ) (start place b : ℕ) → IsSet limit words →
    IsLowestBitOf words start 128 place → IsLowestInWord words (4 + place) b →
    IsLowestFrom (32 * start) limit words (32 * place + b)
IsLowestFrom-found limit words start place b s first low =
    let within : b < 32 = low.within in
    let reached : start ≤ place = first.lowest.reached in
    let own : place < member_words limit = s.own place first.within first.lowest.here in
    let sum : 32 * (4 + place) + b ≡ 128 + (32 * place + b) = omega arith in
    let here : members words (32 * place + b) ≡ true =
    members-true words (32 * place + b) (ap (bit_of words) (sym sum) ∙ low.lowest.here) in record {
      reached = omega arith;
      below = member_below limit words (32 * place + b) s (omega arith) here;
      member = here;
      lowest = λ m ge less. elim (cases_lt (m / 32) place) [
        | inl lt ↦ none_unshown limit words m s (omega arith)
            (first.lowest.none_lower (m / 32) (omega arith) lt)
        | inr same ↦ members-false words m (low.lowest.none_lower (128 + m) (omega arith) (omega arith))
      ];
    }

pub IsLowestFrom-place : (limit : ℕ) (words : List ℕ) (start place : ℕ) → IsSet limit words →
    IsLowestBitOf words start 128 place → slice_index words (4 + place) < 2 ^ 32 →
    IsLowestFrom (32 * start) limit words (32 * place + trailing_zeros w32 (slice_index words (4 + place)))
IsLowestFrom-place limit words start place s first fits = IsLowestFrom-found limit words start place _ s first
    (IsLowestInWord-trailing_zeros words (4 + place) (s.some place first.within first.lowest.here) fits)

-- the bits of a member word from that of `from` on
pub IsLowestFrom-beside : (limit : ℕ) (words : List ℕ) (from k : ℕ) → IsSet limit words → from / 32 < 128 →
    bit_of words (from / 32) ≡ 1 → IsLowestBitOf words (128 + from) (32 * (4 + from / 32 + 1)) k →
    IsLowestFrom from limit words (k - 128)
IsLowestFrom-beside limit words from k s small shown low =
    let own : from / 32 < member_words limit = s.own (from / 32) small shown in
    let reached : 128 + from ≤ k = low.lowest.reached in
    let within : k < 32 * (4 + from / 32 + 1) = low.within in
    let sum : k ≡ 128 + (k - 128) = omega arith in
    let here : members words (k - 128) ≡ true =
    members-true words (k - 128) (ap (bit_of words) (sym sum) ∙ low.lowest.here) in record {
      reached = omega arith;
      below = member_below limit words (k - 128) s (omega arith) here;
      member = here;
      lowest = λ m ge less. members-false words m (low.lowest.none_lower (128 + m) (omega arith) (omega arith));
    }

-- the numbers of from .. to, and those behind them
IsEmptyFrom-joined : (limit : ℕ) (words : List ℕ) (from to : ℕ) → IsEmptyBetween from to limit words →
    IsEmptyFrom to limit words → IsEmptyFrom from limit words
IsEmptyFrom-joined limit words from to low high = λ n ge below. elim (cases_lt n to) [
  | inl lt ↦ low n ge lt below
  | inr later ↦ high n later below
]

IsLowestFrom-joined : (limit : ℕ) (words : List ℕ) (from to n : ℕ) → from ≤ to →
    IsEmptyBetween from to limit words → IsLowestFrom to limit words n → IsLowestFrom from limit words n
IsLowestFrom-joined limit words from to n order low high = record {
  reached = omega (arith, high.reached);
  below = high.below;
  member = high.member;
  lowest = λ m ge less. elim (cases_lt m to) [
    | inl lt ↦ low m ge lt (omega (arith, high.below))
    | inr later ↦ high.lowest m later less
  ];
}

pub MatchOption-joined : (limit : ℕ) (words : List ℕ) (from to : ℕ) (answer : Option ℕ) → from ≤ to →
    IsEmptyBetween from to limit words → MatchOption answer (IsEmptyFrom to limit words) (IsLowestFrom to limit words) →
    MatchOption answer (IsEmptyFrom from limit words) (IsLowestFrom from limit words)
MatchOption-joined limit words from to None order low high = IsEmptyFrom-joined limit words from to low high
MatchOption-joined limit words from to (Some n) order low high =
    IsLowestFrom-joined limit words from to n order low high

-- words that are all 0 are the empty set, whatever stands behind them
pub IsSet-zeros : (limit : ℕ) (words : List ℕ) → limit ≤ 4096 → set_size limit ≤ length words →
    ((i : ℕ) → i < set_size limit → slice_index words i ≡ 0) → IsSet limit words
IsSet-zeros limit words small room zeros =
    let none : (k : ℕ) → k / 32 < set_size limit → bit_of words k ≡ 0 =
    λ k lt. bit_of-zero words k (zeros (k / 32) lt) in record {
      small = small;
      room = room;
      shown = λ i lt pos. absurd (omega (arith, zeros (4 + i) (omega arith)));
      own = λ i lt one. absurd (omega (arith, none i (omega arith)));
      some = λ i lt one. absurd (omega (arith, none i (omega arith)));
      below = λ n ge lt. members-false words n (none (128 + n) (omega arith));
    }
