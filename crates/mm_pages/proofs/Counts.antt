-- How many pages pass a test.
use Rattle.std.proofs.Common.{◌≡◌, ℕ, zero, suc, ◌+◌, ◌-◌, ◌<◌, ◌≤◌, Bool, true, false, if◌then◌else◌, arith, sym}
use Rattle.std.proofs.Common.{◌∙◌, ap, refl, inl, inr, add-zero}
use Rattle.std.proofs.Common.{cond}
use Rattle.std.proofs.lemmas.Bool.{cases_Bool}
use Rattle.std.proofs.lemmas.List.Sums.{sum_by-cons}
use Rattle.std.specs.List.{count_by, range_with_len}
use Rattle.mm_pages.specs.Free.{Marks, beyond, marked}
use Rattle.mm_pages.specs.Pages.{count_below}
use Rattle.mm_pages.proofs.Marks.{marked-in, marked-below, marked-above}

pub count_below-same : (a b : Marks) (n : ℕ) → ((i : ℕ) → i < n → a i ≡ b i) → count_below a n ≡ count_below b n
count_below-same a b zero same = refl
count_below-same a b (suc n) same =
    let now : a n ≡ b n = same n (omega arith) in
    let rest : count_below a n ≡ count_below b n = count_below-same a b n (λ i h. same i (omega arith)) in
    ap (λ (x : Bool). (if x then 1 else 0) + count_below a n) now ∙ ap (λ (x : ℕ). (if b n then 1 else 0) + x) rest

pub count_below-all : (a : Marks) (n : ℕ) → ((i : ℕ) → i < n → a i ≡ true) → count_below a n ≡ n
count_below-all a zero all = refl
count_below-all a (suc n) all =
    ap (λ (x : Bool). (if x then 1 else 0) + count_below a n) (all n (omega arith))
    ∙ omega (arith, count_below-all a n (λ i h. all i (omega arith)))

pub count_below-none : (a : Marks) (n : ℕ) → ((i : ℕ) → i < n → a i ≡ false) → count_below a n ≡ 0
count_below-none a zero none = refl
count_below-none a (suc n) none =
    ap (λ (x : Bool). (if x then 1 else 0) + count_below a n) (none n (omega arith))
    ∙ omega (arith, count_below-none a n (λ i h. none i (omega arith)))

pub count_below-add : (a : Marks) (n m : ℕ) → count_below a (n + m) ≡ count_below a n + count_below (beyond n a) m
count_below-add a n zero = ap (λ (x : ℕ). count_below a x) (add-zero n) ∙ sym (add-zero (count_below a n))
count_below-add a n (suc m) =
    let next : n + suc m ≡ suc (n + m) = omega arith in
    ap (λ (x : ℕ). count_below a x) next ∙ omega (arith, count_below-add a n m)

-- the pages below some, those, and the ones above them
pub count_below-split : (a : Marks) (p k n : ℕ) → p + k ≤ n →
    count_below a n ≡ count_below a p + count_below (beyond p a) k + count_below (beyond (p + k) a) (n - (p + k))
count_below-split a p k n h =
    let whole : (p + k) + (n - (p + k)) ≡ n = omega arith in
    ap (λ (x : ℕ). count_below a x) (sym whole) ∙ count_below-add a (p + k) (n - (p + k))
    ∙ omega (arith, count_below-add a p k)

-- once k pages that were free are taken
pub count_below-taken : (a : Marks) (p k n : ℕ) → p + k ≤ n → ((i : ℕ) → p ≤ i → i < p + k → a i ≡ true) →
    count_below (marked a p (p + k) false) n + k ≡ count_below a n
count_below-taken a p k n h free =
    let b : Marks = marked a p (p + k) false in
    omega (
      arith,
      count_below-split a p k n h,
      count_below-split b p k n h,
      count_below-same b a p (λ i l. marked-below a p (p + k) false i l),
      count_below-same (beyond (p + k) b) (beyond (p + k) a) (n - (p + k))
          (λ i l. marked-above a p (p + k) false (p + k + i) (omega arith)),
      count_below-all (beyond p a) k (λ i l. free (p + i) (omega arith) (omega arith)),
      count_below-none (beyond p b) k (λ i l. marked-in a p (p + k) false (p + i) (omega arith) (omega arith)),
    )

-- once k pages that were taken are free
pub count_below-given : (a : Marks) (p k n : ℕ) → p + k ≤ n → ((i : ℕ) → p ≤ i → i < p + k → a i ≡ false) →
    count_below (marked a p (p + k) true) n ≡ count_below a n + k
count_below-given a p k n h taken =
    let b : Marks = marked a p (p + k) true in
    omega (
      arith,
      count_below-split a p k n h,
      count_below-split b p k n h,
      count_below-same b a p (λ i l. marked-below a p (p + k) true i l),
      count_below-same (beyond (p + k) b) (beyond (p + k) a) (n - (p + k))
          (λ i l. marked-above a p (p + k) true (p + k + i) (omega arith)),
      count_below-none (beyond p a) k (λ i l. taken (p + i) (omega arith) (omega arith)),
      count_below-all (beyond p b) k (λ i l. marked-in a p (p + k) true (p + i) (omega arith) (omega arith)),
    )

pub count_below-le : (a : Marks) (n : ℕ) → count_below a n ≤ n
count_below-le a zero = omega arith
count_below-le a (suc n) = elim (cases_Bool (a n)) [
  | inl t ↦ omega (arith, ap (λ (x : Bool). (if x then 1 else 0) + count_below a n) t, count_below-le a n)
  | inr f ↦ omega (arith, ap (λ (x : Bool). (if x then 1 else 0) + count_below a n) f, count_below-le a n)
]

-- the same of a list of pages
pub count_by-range : (test : ℕ → Bool) (from n : ℕ)
    → count_by test (range_with_len from n) ≡ count_below (beyond from test) n
count_by-range test from zero = refl
count_by-range test from (suc n) =
    let step = sum_by-cons (λ x. cond (test x) 1 0) from (range_with_len (from + 1) n) in
    let rest = count_by-range test (from + 1) n in
    let next : 1 + n ≡ suc n = omega arith in
    let split = count_below-add (beyond from test) 1 n in
    let first : count_below (beyond from test) 1 ≡ cond (test from) 1 0 =
    add-zero (cond (test (from + 0)) 1 0) ∙ ap (λ (i : ℕ). cond (test i) 1 0) (add-zero from) in
    let behind = count_below-same (beyond 1 (beyond from test)) (beyond (from + 1) test) n
    (λ i h. let place : from + (1 + i) ≡ from + 1 + i = omega arith in ap test place) in
    step ∙ omega (arith, rest, first, behind, split) ∙ ap (count_below (beyond from test)) next
