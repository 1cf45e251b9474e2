-- The lowest place where some free pages fit: in the lower half, across the middle, or in the upper half.
use Rattle.std.proofs.Common.{◌≡◌, ℕ, ◌+◌, ◌-◌, ◌*◌, ◌<◌, ◌≤◌, inl, inr, arith}
use Rattle.std.proofs.lemmas.Bool.{cases_lt}
use Rattle.mm_pages.specs.Free.{Marks, AllFree, beyond, Sums, LowestFit}
use Rattle.mm_pages.proofs.Joins.{AllFree-part, AllFree-beyond, AllFree-above, AllFree-append, across_low}
use Rattle.mm_pages.proofs.Joins.{across_high, none_longer-join}

pub LowestFit-low : (free : Marks) (half k first : ℕ) → LowestFit free half k first →
    LowestFit free (2 * half) k first
LowestFit-low free half k first f = record {
  fits = f.fits;
  within = omega (arith, f.within);
  lowest = λ i a w. elim (cases_lt half (i + k)) [
    | inl h ↦ omega (arith, f.within)
    | inr h ↦ f.lowest i a h
  ];
}

pub LowestFit-across : (free : Marks) (half m l r m' l' r' k : ℕ) → Sums free half m l r →
    Sums (beyond half free) half m' l' r' →
    m < k → k ≤ r + l' → LowestFit free (2 * half) k (half - r)
LowestFit-across free half m l r m' l' r' k s t none fit =
    let in_low : r ≤ half = s.right_within in
    let in_high : l' ≤ half = t.left_within in
    record {
      fits = AllFree-part (AllFree-append free (half - r) r l' half (s.right_free (half - r) (omega arith))
          (AllFree-above half half t.left_free (omega arith)) (omega arith)) (omega arith) (omega arith);
      within = omega arith;
      lowest = λ i a w. elim (cases_lt half (i + k)) [
        | inr h ↦ absurd (omega (arith, s.none_longer i k a h))
        | inl h ↦ elim (cases_lt half i) [
          | inl g ↦ omega arith
          | inr g ↦ omega (arith, across_low free half m l r i k s a g (omega arith))
        ]
      ];
    }

pub LowestFit-high : (free : Marks) (half m l r m' l' r' k first : ℕ) → Sums free half m l r →
    Sums (beyond half free) half m' l' r' →
    m < k → r + l' < k → LowestFit (beyond half free) half k first → LowestFit free (2 * half) k (half + first)
LowestFit-high free half m l r m' l' r' k first s t none across f = record {
  fits = AllFree-above half (half + first) f.fits (omega arith);
  within = omega (arith, f.within);
  lowest = λ i a w. elim (cases_lt half (i + k)) [
    | inr h ↦ absurd (omega (arith, s.none_longer i k a h))
    | inl h ↦ elim (cases_lt i half) [
      | inl g ↦ absurd (omega (
        arith,
        across_low free half m l r i k s a (omega arith) (omega arith),
        across_high free half m' l' r' i k t a (omega arith) (omega arith) w,
      ))
      | inr g ↦
          let there : AllFree (beyond half free) (i - half) k = AllFree-beyond half (i - half) a (omega arith) in
          omega (arith, f.lowest (i - half) there (omega arith))
    ]
  ];
}

-- pages that fit neither in the lower half nor across the middle fit in the upper half
pub fits_high : (free : Marks) (half m l r m' l' r' n w w' k : ℕ) → Sums free half m l r →
    Sums (beyond half free) half m' l' r' →
    Sums free (2 * half) n w w' → k ≤ n → m < k → r + l' < k → k ≤ m'
fits_high free half m l r m' l' r' n w w' k s t u fit none across =
    let place : AllFree free u.at k = AllFree-part u.at_free (omega arith) (omega arith) in
    elim (none_longer-join free half m l r m' l' r' u.at k s t place (omega (arith, u.at_within))) [
      | inl h ↦ absurd (omega arith)
      | inr (inl h) ↦ h
      | inr (inr h) ↦ absurd (omega arith)
    ]

-- where all pages are free, the first ones fit
pub LowestFit-all : (free : Marks) (span m l r k : ℕ) → Sums free span m l r → m ≡ span → k ≤ m →
    LowestFit free span k 0
LowestFit-all free span m l r k s e h = record {
  fits = AllFree-part s.at_free (omega (arith, s.at_within)) (omega (arith, s.at_within));
  within = omega arith;
  lowest = λ i a w. omega arith;
}
