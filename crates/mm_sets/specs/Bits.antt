-- Single bits of a list of words.
use Rattle.std.specs.Prelude.{◌≡◌, ◌≢◌, ℕ, ◌/◌, ◌%◌, ◌<◌, ◌≤◌, List, slice_index, drop}
use Rattle.std.specs.Int.{bit_at}

-- bit k of the words, 0 or 1, counted from the lowest of the first word
abbrev pub bit_of : List ℕ → ℕ → ℕ
bit_of words k = bit_at (slice_index words (k / 32)) (k % 32)

-- the words have changed in bit k alone, which is now `value`
pub record ChangesBit (before after : List ℕ) (k value : ℕ) : Type 0 where
  pub here : bit_of after k ≡ value
  pub other_bits : (j : ℕ) → j ≢ k → bit_of after j ≡ bit_of before j
  pub other_words : (i : ℕ) → i ≢ k / 32 → slice_index after i ≡ slice_index before i
  pub behind : (d : ℕ) → k / 32 < d → drop d after ≡ drop d before

-- bit k is the lowest from bit `from` on that is 1
pub record IsLowestBit (words : List ℕ) (from k : ℕ) : Type 0 where
  pub reached : from ≤ k
  pub here : bit_of words k ≡ 1
  pub none_lower : (j : ℕ) → from ≤ j → j < k → bit_of words j ≡ 0

-- the bits of from .. to are 0
abbrev pub NoBit : List ℕ → ℕ → ℕ → Type 0
NoBit words from to = (j : ℕ) → from ≤ j → j < to → bit_of words j ≡ 0

-- bit k is the lowest of from .. to that is 1
pub record IsLowestBitOf (words : List ℕ) (from to k : ℕ) : Type 0 where
  pub within : k < to
  pub lowest : IsLowestBit words from k
