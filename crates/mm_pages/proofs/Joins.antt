-- The runs of two neighbouring halves, and what they tell of the whole.
use Rattle.std.proofs.Common.{◌≡◌, ℕ, ◌+◌, ◌-◌, ◌*◌, ◌<◌, ◌≤◌, Bool, true, false, ◌⊎◌, inl, inr, arith, subst}
use Rattle.std.proofs.lemmas.Bool.{cases_lt}
use Rattle.mm_pages.specs.Free.{Marks, AllFree, beyond, Sums}

-- a page is not both free and taken
pub clash : {b : Bool} → b ≡ true → b ≡ false → ⊥
clash p q = cc

pub AllFree-part : {free : Marks} {i n j m : ℕ} → AllFree free i n → i ≤ j → j + m ≤ i + n → AllFree free j m
AllFree-part f p q = record { each = λ k a b. f.each k (omega arith) (omega arith) }

pub AllFree-beyond : {free : Marks} {i n : ℕ} (at j : ℕ) → AllFree free i n → at + j ≡ i →
    AllFree (beyond at free) j n
AllFree-beyond at j f e = record { each = λ k a b. f.each _ (omega arith) (omega arith) }

pub AllFree-above : {free : Marks} {j n : ℕ} (at i : ℕ) → AllFree (beyond at free) j n → at + j ≡ i →
    AllFree free i n
AllFree-above {free} {j} {n} at i f e = record {
  each = λ k a b.
      let eq : at + (k - at) ≡ k = omega arith in
      subst (λ (x : ℕ). free x ≡ true) eq (f.each (k - at) (omega arith) (omega arith));
}

-- two runs that meet are one
pub AllFree-append : (free : Marks) (i n m k : ℕ) → AllFree free i n → AllFree free k m → i + n ≡ k →
    AllFree free i (n + m)
AllFree-append free i n m k f g e = record {
  each = λ j a b. elim (cases_lt j k) [
    | inl h ↦ f.each j a (omega arith)
    | inr h ↦ g.each j h (omega arith)
  ];
}

-- a run that reaches across the middle has at most the right run of the lower half below it
pub across_low : (free : Marks) (half m l r i n : ℕ) → Sums free half m l r → AllFree free i n → i ≤ half →
    half ≤ i + n → half ≤ i + r
across_low free half m l r i n s f p q = elim (cases_lt (i + r) half) [
  | inl h ↦ absurd (clash (f.each (half - 1 - r) (omega arith) (omega arith))
      (s.right_ends (half - 1 - r) (omega arith)))
  | inr h ↦ h
]

-- and at most the left run of the upper half above it
pub across_high : (free : Marks) (half m l r i n : ℕ) → Sums (beyond half free) half m l r → AllFree free i n →
    i ≤ half → half ≤ i + n → i + n ≤ 2 * half → i + n ≤ half + l
across_high free half m l r i n s f p q w = elim (cases_lt (half + l) (i + n)) [
  | inl h ↦ absurd (clash (f.each (half + l) (omega arith) (omega arith)) (s.left_ends (omega arith)))
  | inr h ↦ h
]

-- no free run of the whole is longer than the longest of its halves, and than the run across the middle
pub none_longer-join : (free : Marks) (half m l r m' l' r' i n : ℕ) → Sums free half m l r →
    Sums (beyond half free) half m' l' r' →
    AllFree free i n → i + n ≤ 2 * half → (n ≤ m) ⊎ ((n ≤ m') ⊎ (n ≤ r + l'))
none_longer-join free half m l r m' l' r' i n s t f w = elim (cases_lt half (i + n)) [
  | inr h ↦ inl (s.none_longer i n f h)
  | inl h ↦ elim (cases_lt i half) [
    | inr g ↦ inr (inl (t.none_longer (i - half) n (AllFree-beyond half (i - half) f (omega arith)) (omega arith)))
    | inl g ↦
        let low : half ≤ i + r = across_low free half m l r i n s f (omega arith) (omega arith) in
        let high : i + n ≤ half + l' = across_high free half m' l' r' i n t f (omega arith) (omega arith) w in
        inr (inr (omega arith))
  ]
]

-- how far a run at an end of the whole reaches: as it did, or over the whole of its half into the other
record Runs_on (half run next whole : ℕ) : Type 0 where
  stays : run < half → whole ≡ run
  goes : run ≡ half → whole ≡ half + next

left_free-join : (free : Marks) (half m l r m' l' r' w : ℕ) → Sums free half m l r →
    Sums (beyond half free) half m' l' r' →
    Runs_on half l l' w → AllFree free 0 w
left_free-join free half m l r m' l' r' w s t h = elim (cases_lt l half) [
  | inl p ↦ AllFree-part s.left_free (omega arith) (omega (arith, h.stays p))
  | inr p ↦
      let e : l ≡ half = omega (arith, s.left_within) in
      AllFree-part (AllFree-append free 0 l l' half s.left_free (AllFree-above half half t.left_free (omega arith))
      (omega arith)) (omega arith) (omega (arith, h.goes e))
]

left_ends-join : (free : Marks) (half m l r m' l' r' w : ℕ) → Sums free half m l r →
    Sums (beyond half free) half m' l' r' →
    Runs_on half l l' w → w < 2 * half → free w ≡ false
left_ends-join free half m l r m' l' r' w s t h q = elim (cases_lt l half) [
  | inl p ↦ rw (h.stays p) (s.left_ends p)
  | inr p ↦
      let e : l ≡ half = omega (arith, s.left_within) in
      rw (h.goes e) (t.left_ends (omega (arith, h.goes e)))
]

right_free-join : (free : Marks) (half m l r m' l' r' w i : ℕ) → Sums free half m l r →
    Sums (beyond half free) half m' l' r' →
    Runs_on half r' r w → i + w ≡ 2 * half → AllFree free i w
right_free-join free half m l r m' l' r' w i s t h q = elim (cases_lt r' half) [
  | inl p ↦
      let e : w ≡ r' = h.stays p in
      rw e (AllFree-above half i (t.right_free (i - half) (omega arith)) (omega arith))
  | inr p ↦
      let e : r' ≡ half = omega (arith, t.right_within) in
      let whole : w ≡ half + r = h.goes e in
      AllFree-part (AllFree-append free i r r' half (s.right_free i (omega arith))
      (AllFree-above half half (t.right_free 0 (omega arith)) (omega arith)) (omega arith)) (omega arith)
      (omega arith)
]

right_ends-join : (free : Marks) (half m l r m' l' r' w i : ℕ) → Sums free half m l r →
    Sums (beyond half free) half m' l' r' →
    Runs_on half r' r w → i + 1 + w ≡ 2 * half → free i ≡ false
right_ends-join free half m l r m' l' r' w i s t h q = elim (cases_lt r' half) [
  | inl p ↦
      let e : w ≡ r' = h.stays p in
      let at : half + (i - half) ≡ i = omega arith in
      subst (λ (x : ℕ). free x ≡ false) at (t.right_ends (i - half) (omega arith))
  | inr p ↦
      let e : r' ≡ half = omega (arith, t.right_within) in
      let whole : w ≡ half + r = h.goes e in
      s.right_ends i (omega arith)
]

-- a place of the longest run of the whole
data Longest_at (free : Marks) (span n : ℕ) : Type 0 where
  longest_at : (i : ℕ) → i + n ≤ span → AllFree free i n → Longest_at free span n

at-join : (free : Marks) (half m l r m' l' r' n : ℕ) → Sums free half m l r →
    Sums (beyond half free) half m' l' r' →
    (n ≡ m) ⊎ ((n ≡ m') ⊎ (n ≡ r + l')) → Longest_at free (2 * half) n
at-join free half m l r m' l' r' n s t (inl e) = longest_at s.at (omega (arith, s.at_within)) (rw e s.at_free)
at-join free half m l r m' l' r' n s t (inr (inl e)) = longest_at (half + t.at) (omega (arith, t.at_within))
    (rw e (AllFree-above half (half + t.at) t.at_free (omega arith)))
at-join free half m l r m' l' r' n s t (inr (inr e)) =
    let w : r ≤ half = s.right_within in
    let w' : l' ≤ half = t.left_within in
    longest_at (half - r) (omega arith) (rw e (AllFree-append free (half - r) r l' half
    (s.right_free (half - r) (omega arith)) (AllFree-above half half t.left_free (omega arith)) (omega arith)))

-- the runs of the whole from the runs of its halves
pub Sums-join : (free : Marks) (half m l r m' l' r' n w w' : ℕ) → Sums free half m l r →
    Sums (beyond half free) half m' l' r' →
    m ≤ n → m' ≤ n → r + l' ≤ n → (n ≡ m) ⊎ ((n ≡ m') ⊎ (n ≡ r + l')) →
    (l < half → w ≡ l) → (l ≡ half → w ≡ half + l') → (r' < half → w' ≡ r') → (r' ≡ half → w' ≡ half + r) →
    Sums free (2 * half) n w w'
Sums-join free half m l r m' l' r' n w w' s t a b c d x y x' y' =
    let on : Runs_on half l l' w = record { stays = x; goes = y } in
    let on' : Runs_on half r' r w' = record { stays = x'; goes = y' } in
    elim (at-join free half m l r m' l' r' n s t d) [
      | longest_at i q f ↦ record {
        none_longer = λ j k f' q'. elim (none_longer-join free half m l r m' l' r' j k s t f' q') [
          | inl h ↦ omega arith
          | inr (inl h) ↦ omega arith
          | inr (inr h) ↦ omega arith
        ];
        at = i;
        at_within = q;
        at_free = f;
        left_within = elim (cases_lt l half) [
          | inl p ↦ omega (arith, x p)
          | inr p ↦ let e : l ≡ half = omega (arith, s.left_within) in omega (arith, y e, t.left_within)
        ];
        left_free = left_free-join free half m l r m' l' r' w s t on;
        left_ends = left_ends-join free half m l r m' l' r' w s t on;
        right_within = elim (cases_lt r' half) [
          | inl p ↦ omega (arith, x' p)
          | inr p ↦ let e : r' ≡ half = omega (arith, t.right_within) in omega (arith, y' e, s.right_within)
        ];
        right_free = λ j e. right_free-join free half m l r m' l' r' w' j s t on' e;
        right_ends = λ j e. right_ends-join free half m l r m' l' r' w' j s t on' e;
      }
    ]
