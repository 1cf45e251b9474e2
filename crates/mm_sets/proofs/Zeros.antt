-- A list of zeros is a set without members.
use Rattle.std.proofs.Common.{◌≡◌, ℕ, ◌+◌, ◌/◌, ◌≤◌, false, List, length, replicate, get_or}
use Rattle.std.proofs.Common.{inl, inr, arith}
use Rattle.std.proofs.lemmas.Bool.{cases_lt}
use Rattle.std.proofs.lemmas.List.{get_or_past, get_or-replicate, length-replicate}
use Rattle.mm_sets.specs.Bits.{bit_of}
use Rattle.mm_sets.specs.Set.{set_size, members, IsSet}
use Rattle.mm_sets.proofs.LowestBits.{bit_of-zero}
use Rattle.mm_sets.proofs.Sets.{members-false}

abbrev pub zeros : ℕ → List ℕ
zeros n = replicate n 0

pub length-zeros : (n : ℕ) → length (zeros n) ≡ n
length-zeros n = length-replicate {A = ℕ} n 0

pub get_or-zeros : (n i : ℕ) → get_or (zeros n) i 0 ≡ 0
get_or-zeros n i = elim (cases_lt i n) [
  | inl within ↦ get_or-replicate {A = ℕ} n i 0 0 within
  | inr past ↦ get_or_past {X = ℕ} (zeros n) i 0 (omega (arith, length-zeros n))
]

bit_of-zeros : (n i : ℕ) → bit_of (zeros n) i ≡ 0
bit_of-zeros n i = bit_of-zero (zeros n) i (get_or-zeros n (i / 32))

pub members-zeros : (n i : ℕ) → members (zeros n) i ≡ false
members-zeros n i = members-false (zeros n) i (bit_of-zeros n (128 + i))

pub IsSet-zeros : (limit : ℕ) → limit ≤ 4096 → IsSet limit (zeros (set_size limit))
IsSet-zeros limit small = record {
  small = small;
  room = omega (arith, length-zeros (set_size limit));
  shown = λ i within some. absurd (omega (arith, get_or-zeros (set_size limit) (4 + i)));
  own = λ i within shown. absurd (omega (arith, bit_of-zeros (set_size limit) i));
  some = λ i within shown. absurd (omega (arith, bit_of-zeros (set_size limit) i));
  below = λ n above within. members-zeros (set_size limit) n;
}
