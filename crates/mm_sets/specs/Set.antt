-- Sets of numbers below a limit, in a list of words.
use Rattle.std.specs.Prelude.{◌≡◌, ℕ, ◌+◌, ◌*◌, ◌/◌, ◌<◌, ◌≤◌, Bool, true, false, nat_eq, List, length, slice_index}
use Rattle.mm_sets.specs.Bits.{bit_of}

-- how many words hold the members of a set of numbers below the limit
abbrev pub member_words : ℕ → ℕ
member_words limit = (limit + 31) / 32

-- how many words such a set takes: the four of the summary stand first
abbrev pub set_size : ℕ → ℕ
set_size limit = 4 + member_words limit

-- whether the words say that n is a member, in bit n behind the summary
abbrev pub members : List ℕ → ℕ → Bool
members words n = nat_eq (bit_of words (128 + n)) 1

-- the words begin with a set of numbers below the limit: bit i of the summary says whether there is a member word i
-- that isn't 0, and the member words have no number from the limit on. What stands behind them may be anything
pub record IsSet (limit : ℕ) (words : List ℕ) : Type 0 where
  pub small : limit ≤ 4096
  pub room : set_size limit ≤ length words
  pub shown : (i : ℕ) → i < member_words limit → 0 < slice_index words (4 + i) → bit_of words i ≡ 1
  pub own : (i : ℕ) → i < 128 → bit_of words i ≡ 1 → i < member_words limit
  pub some : (i : ℕ) → i < 128 → bit_of words i ≡ 1 → 0 < slice_index words (4 + i)
  pub below : (n : ℕ) → limit ≤ n → n < 32 * member_words limit → members words n ≡ false

-- the words are a set, whichever its limit
pub record IsAnySet (words : List ℕ) : Type 0 where
  pub limit : ℕ
  pub set : IsSet limit words

-- the words are a set with a limit above n
pub record Admits (n : ℕ) (words : List ℕ) : Type 0 where
  pub limit : ℕ
  pub set : IsSet limit words
  pub below : n < limit

-- no number below the limit is a member
abbrev pub IsEmpty : ℕ → List ℕ → Type 0
IsEmpty limit words = (n : ℕ) → n < limit → members words n ≡ false

-- n is the lowest member, and below the limit
pub record IsLowest (limit : ℕ) (words : List ℕ) (n : ℕ) : Type 0 where
  pub below : n < limit
  pub member : members words n ≡ true
  pub lowest : (m : ℕ) → m < n → members words m ≡ false

-- no number of from .. limit is a member
abbrev pub IsEmptyFrom : ℕ → ℕ → List ℕ → Type 0
IsEmptyFrom from limit words = (n : ℕ) → from ≤ n → n < limit → members words n ≡ false

-- no number of from .. to is a member, as far as they are below the limit
abbrev pub IsEmptyBetween : ℕ → ℕ → ℕ → List ℕ → Type 0
IsEmptyBetween from to limit words = (n : ℕ) → from ≤ n → n < to → n < limit → members words n ≡ false

-- n is the lowest member of from .. limit
pub record IsLowestFrom (from limit : ℕ) (words : List ℕ) (n : ℕ) : Type 0 where
  pub reached : from ≤ n
  pub below : n < limit
  pub member : members words n ≡ true
  pub lowest : (m : ℕ) → from ≤ m → m < n → members words m ≡ false
