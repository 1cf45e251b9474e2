-- Marks of the numbers below a limit, as 64 of them stand in each word.
use Rattle.std.specs.Prelude.{◌≡◌, ◌≢◌, ℕ, ◌+◌, ◌*◌, ◌/◌, ◌%◌, ◌^◌, ◌<◌, ◌≤◌, Bool, true, nat_eq, List, length, map}
use Rattle.std.specs.Prelude.{Some, slice_get, slice_index}
use Rattle.std.specs.Int.{bit_at}
use Rattle.std.specs.List.{range_with_len}

-- the number is marked
abbrev pub IsMarked : List Bool → ℕ → Type 0
IsMarked marks n = slice_get marks n ≡ Some true

-- none is that is at least the first number and below the other one
abbrev pub NoneBetween : List Bool → ℕ → ℕ → Type 0
NoneBetween marks from to = (n : ℕ) → from ≤ n → n < to → IsMarked marks n → ⊥

-- none is from a number on
abbrev pub NoneFrom : List Bool → ℕ → Type 0
NoneFrom marks from = (n : ℕ) → from ≤ n → IsMarked marks n → ⊥

-- the lowest marked number from one on
pub record IsNext (marks : List Bool) (from n : ℕ) : Type 0 where
  pub reached : from ≤ n
  pub marked : IsMarked marks n
  pub least : (lower : ℕ) → from ≤ lower → IsMarked marks lower → n ≤ lower

-- it stands in the same word
pub record IsNextBeside (marks : List Bool) (from n : ℕ) : Type 0 where
  pub next : IsNext marks from n
  pub in_word : n / 64 ≡ from / 64

-- Inner: bit k of the words, 0 or 1, counted from the lowest of the first word.
abbrev pub bit_of : List ℕ → ℕ → ℕ
bit_of words k = bit_at (slice_index words (k / 64)) (k % 64)

-- none is set from one on in its word, and the lowest that is
abbrev pub NoneBeside : List ℕ → ℕ → Type 0
NoneBeside words from = (k : ℕ) → from ≤ k → k < 64 * (from / 64 + 1) → bit_of words k ≡ 0

pub record IsLowestBeside (words : List ℕ) (from k : ℕ) : Type 0 where
  pub reached : from ≤ k
  pub within : k < 64 * (from / 64 + 1)
  pub here : bit_of words k ≡ 1
  pub none_lower : (j : ℕ) → from ≤ j → j < k → bit_of words j ≡ 0

-- one bit alone has changed
pub record ChangesBit (before after : List ℕ) (k value : ℕ) : Type 0 where
  pub size : length after ≡ length before
  pub here : bit_of after k ≡ value
  pub others : (j : ℕ) → j ≢ k → bit_of after j ≡ bit_of before j

abbrev pub bits_of : List ℕ → ℕ → List Bool
bits_of words limit = map (λ n. nat_eq (bit_of words n) 1) (range_with_len 0 limit)

-- There are as many words as are needed, and behind the limit no bit is set.
pub record KeepsBits (words : List ℕ) (limit : ℕ) : Type 0 where
  pub most : limit ≤ 2 ^ 20
  pub size : length words ≡ (limit + 63) / 64
  pub below : (n : ℕ) → bit_of words n ≡ 1 → n < limit
