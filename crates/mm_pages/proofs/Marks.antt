-- Pages after some of them were made free or taken.
use Rattle.std.proofs.Common.{◌≡◌, ℕ, ◌+◌, ◌-◌, ◌<◌, ◌≤◌, inl, inr, Bool, min, max, arith, sym, ◌∙◌}
use Rattle.std.proofs.lemmas.Bool.{cases_lt}
use Rattle.std.proofs.lemmas.Bool.Decides.{nat_tests}
use Rattle.mm_pages.specs.Free.{Marks, marked, beyond}

pub marked-in : (pages : Marks) (from to : ℕ) (v : Bool) (i : ℕ) → from ≤ i → i < to → marked pages from to v i ≡ v
marked-in pages from to v i a b = grind (arith, nat_tests)

pub marked-below : (pages : Marks) (from to : ℕ) (v : Bool) (i : ℕ) → i < from → marked pages from to v i ≡ pages i
marked-below pages from to v i a = grind (arith, nat_tests)

pub marked-above : (pages : Marks) (from to : ℕ) (v : Bool) (i : ℕ) → to ≤ i → marked pages from to v i ≡ pages i
marked-above pages from to v i a = grind (arith, nat_tests)

-- what is made free or taken in the lower half
pub marked-low : (pages : Marks) (from to half a b : ℕ) (v : Bool) (i : ℕ) → from ≤ to → a ≡ min from half →
    b ≡ min to half → i < half → marked pages a b v i ≡ marked pages from to v i
marked-low pages from to half a b v i o p q h = elim (cases_lt i from) [
  | inl x ↦ marked-below pages a b v i (omega arith) ∙ sym (marked-below pages from to v i x)
  | inr x ↦ elim (cases_lt i to) [
    | inl y ↦ marked-in pages a b v i (omega arith) (omega arith) ∙ sym (marked-in pages from to v i x y)
    | inr y ↦ marked-above pages a b v i (omega arith) ∙ sym (marked-above pages from to v i y)
  ]
]

-- and in the upper half
pub marked-high : (pages : Marks) (from to half a b : ℕ) (v : Bool) (i : ℕ) → from ≤ to → a ≡ max from half - half →
    b ≡ max to half - half → i < half →
    marked (beyond half pages) a b v i ≡ beyond half (marked pages from to v) i
marked-high pages from to half a b v i o p q h = elim (cases_lt (half + i) from) [
  | inl x ↦ marked-below (beyond half pages) a b v i (omega arith) ∙ sym (marked-below pages from to v (half + i) x)
  | inr x ↦ elim (cases_lt (half + i) to) [
    | inl y ↦ marked-in (beyond half pages) a b v i (omega arith) (omega arith)
        ∙ sym (marked-in pages from to v (half + i) x y)
    | inr y ↦ marked-above (beyond half pages) a b v i (omega arith)
        ∙ sym (marked-above pages from to v (half + i) y)
  ]
]
