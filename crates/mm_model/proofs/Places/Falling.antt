-- Words that fall in a piece of memory.
use Rattle.std.proofs.Common.{◌≡◌, ℕ, ◌+◌, ◌<◌, ◌≤◌, true, List, arith}
use Rattle.std.proofs.lemmas.Bool.Decides.{nat_tests}
use Rattle.std.specs.Prelude.{IsTrue}
use Rattle.std.specs.List.{AllByRecursion}
use Rattle.mm_model.specs.Object.{Object}
use Rattle.mm_model.specs.Words.{falls, names}
use Rattle.mm_model.proofs.Places.Placing.{some_with}

pub falls_from : (word base extent : ℕ) → falls word base extent ≡ true → (base ≤ word) × (word < base + extent)
falls_from word base extent e = (grind (arith, nat_tests), grind (arith, nat_tests))

pub falls_within : (word base extent : ℕ) → base ≤ word → word < base + extent → falls word base extent ≡ true
falls_within word base extent low high = grind (arith, nat_tests)

-- a base falls in its own piece
pub falls_at_base : (base extent : ℕ) → 0 < extent → falls base base extent ≡ true
falls_at_base base extent some = falls_within base base extent (omega arith) (omega arith)

-- a word that falls in the object, with what holds of each word
pub named_word : (words : List ℕ) (object : Object) → IsTrue (names words object) → (P : ℕ → Type 0)
    → AllByRecursion P words → (word : ℕ) × (falls word object.base object.extent ≡ true) × P word
named_word words object h P each = some_with (λ word. falls word object.base object.extent) P words h each
