-- The least class that is large enough.
use Rattle.std.proofs.Common.{◌≡◌, ℕ, ◌+◌, ◌<◌, ◌≤◌, true, false, get_or, ap, sym, ⊎_elim, arith}
use Rattle.std.specs.Prelude.{nat_le}
use Rattle.std.proofs.lemmas.Bool.{cases_lt}
use Rattle.std.proofs.lemmas.Bool.Decides.{nat_tests}
use Rattle.std.proofs.lemmas.List.Sums.{position_or_len_is}
use Rattle.mm_model.specs.Places.SizeClass.{class_sizes, class_index}
use Rattle.mm_audit.proofs.LowestPlaces.{classes}

-- so many classes are too small
abbrev pub AreTooSmall : ℕ → ℕ → Type 0
AreTooSmall bytes class = (k : ℕ) → k < class → get_or class_sizes k 0 < bytes

pub one-more : (bytes class : ℕ) → AreTooSmall bytes class → get_or class_sizes class 0 < bytes
    → AreTooSmall bytes (class + 1)
one-more bytes class small here k below =
    ⊎_elim (λ (before : k < class). small k before)
    (λ (last : class ≤ k). let same : k ≡ class = omega arith in
    let is = ap (λ n. get_or class_sizes n 0) same in omega arith)
    (cases_lt k class)

pub class-is : (bytes class : ℕ) → class ≤ 18 → AreTooSmall bytes class → bytes ≤ get_or class_sizes class 0
    → class ≡ class_index bytes
class-is bytes class within small fits =
    sym
    (position_or_len_is (λ size. nat_le bytes size) class_sizes class 0 (omega (arith, classes))
    (λ k below. short bytes (get_or class_sizes k 0) (small k below))
    (λ below. enough bytes (get_or class_sizes class 0) fits))
  where
    short : (m n : ℕ) → n < m → nat_le m n ≡ false
    short m n h = grind (arith, nat_tests)

    enough : (m n : ℕ) → m ≤ n → nat_le m n ≡ true
    enough m n h = grind (arith, nat_tests)

-- the last class is large enough for every cell
pub last-fits : (bytes class : ℕ) → bytes ≤ 2048 → class ≡ 18 → bytes ≤ get_or class_sizes class 0
unfolding class_sizes
last-fits bytes class small last = let is = ap (λ n. get_or class_sizes n 0) last in omega (arith, is)
