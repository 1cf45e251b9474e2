-- Inner: how a second row of marks tells in which words of the first one anything is marked.
use Rattle.std.specs.Prelude.{◌≡◌, ℕ, ◌+◌, ◌/◌, ◌^◌, ◌≤◌, List, Bool, length}
use Rattle.mm_audit.specs.Bits.{IsMarked}

-- a word has a marked number
pub record HasMark (marks : List Bool) (word : ℕ) : Type 0 where
  pub number : ℕ
  pub marked : IsMarked marks number
  pub in_word : number / 64 ≡ word

-- the words that are used are those that have a marked number
pub record KeepsUsed (marks used : List Bool) : Type 0 where
  pub few : length marks ≤ 2 ^ 20
  pub size : length used ≡ (length marks + 63) / 64
  pub shown : (n : ℕ) → IsMarked marks n → IsMarked used (n / 64)
  pub some : (word : ℕ) → IsMarked used word → HasMark marks word
