-- Pages that lie in no run, told by the length of the run that begins at each page.
use Rattle.std.proofs.Common.{◌≡◌, ℕ, zero, suc, ◌+◌, ◌<◌, ◌≤◌, ◌⊎◌, inl, inr, Bool, true, false, ◌||◌, not, nat_lt}
use Rattle.std.proofs.Common.{arith, sym, ◌∙◌, ap, subst, refl}
use Rattle.std.proofs.lemmas.Bool.{cases_lt, cases_eq, cases_Bool, lt-ltb, ltb-true, or_cases, and_parts, and_from}
use Rattle.std.proofs.lemmas.Bool.{not-true, cases_order, or_right}
use Rattle.mm_pages.specs.Free.{AllFree, marked}
use Rattle.mm_pages.specs.Pages.{reaches, unused}
use Rattle.mm_pages.proofs.Joins.{clash}
use Rattle.mm_pages.proofs.Marks.{marked-in, marked-below, marked-above}

-- two tests that pass alike are the same
pub same_tests : (a b : Bool) → (a ≡ true → b ≡ true) → (b ≡ true → a ≡ true) → a ≡ b
same_tests true b f g = sym (f refl)
same_tests false true f g = g refl
same_tests false false f g = refl

pub not_true : (a : Bool) → (a ≡ true → ⊥) → a ≡ false
not_true true f = absurd (f refl)
not_true false f = refl

pub reaches-from : (runs : ℕ → ℕ) (p f n : ℕ) → f < n → p < f + runs f → reaches runs p n ≡ true
reaches-from runs p f zero h r = absurd (omega arith)
reaches-from runs p f (suc n) h r = elim (cases_eq f n) [
  | inl e ↦
      let at : p < n + runs n = subst (λ (x : ℕ). p < x + runs x) e r in
      ap (λ (b : Bool). b || reaches runs p n) (lt-ltb p (n + runs n) at)
  | inr d ↦
      let below : reaches runs p n ≡ true = reaches-from runs p f n (omega arith) r in
      or_right (nat_lt p (n + runs n)) (reaches runs p n) below
]

-- a run that reaches a page
pub data Reached (runs : ℕ → ℕ) (p n : ℕ) : Type 0 where
  reached : (f : ℕ) → f < n → p < f + runs f → Reached runs p n

pub reaches-to : (runs : ℕ → ℕ) (p n : ℕ) → reaches runs p n ≡ true → Reached runs p n
reaches-to runs p zero h = absurd (clash h refl)
reaches-to runs p (suc n) h = elim (or_cases (nat_lt p (n + runs n)) (reaches runs p n) h) [
  | inl a ↦ reached n (omega arith) (ltb-true p (n + runs n) a)
  | inr b ↦ elim (reaches-to runs p n b) [ reached f l r ↦ reached f (omega arith) r ]
]

pub unused-off_zero : (runs : ℕ → ℕ) (p : ℕ) → unused runs p ≡ true → 0 < p
unused-off_zero runs p h = ltb-true 0 p (and_parts (nat_lt 0 p) (not (reaches runs p (suc p))) h).0

pub unused-above : (runs : ℕ → ℕ) (p f : ℕ) → unused runs p ≡ true → f ≤ p → f + runs f ≤ p
unused-above runs p f h l = elim (cases_lt p (f + runs f)) [
  | inr a ↦ a
  | inl a ↦ absurd (clash (reaches-from runs p f (suc p) (omega arith) a)
      (not-true (reaches runs p (suc p)) (and_parts (nat_lt 0 p) (not (reaches runs p (suc p))) h).1))
]

pub unused-from : (runs : ℕ → ℕ) (p : ℕ) → 0 < p → ((f : ℕ) → f ≤ p → f + runs f ≤ p) → unused runs p ≡ true
unused-from runs p h above =
    and_from (nat_lt 0 p) (not (reaches runs p (suc p))) (lt-ltb 0 p h)
    (ap not (not_true (reaches runs p (suc p)) (λ r. elim
    (reaches-to runs p (suc p) r) [ reached f l q ↦ absurd (omega (arith, above f (omega arith))) ])))

pub used-from : (runs : ℕ → ℕ) (p f : ℕ) → f ≤ p → p < f + runs f → unused runs p ≡ false
used-from runs p f l h = not_true (unused runs p) (λ u. omega (arith, unused-above runs p f u l))

-- a page that is used lies in a run, or is page 0
pub used-to : (runs : ℕ → ℕ) (p : ℕ) → unused runs p ≡ false → (p ≡ 0) ⊎ Reached runs p (suc p)
used-to runs p u = elim (cases_Bool (reaches runs p (suc p))) [
  | inl r ↦ inr (reaches-to runs p (suc p) r)
  | inr r ↦ elim (cases_eq p 0) [
    | inl e ↦ inl e
    | inr d ↦ absurd (clash (and_from (nat_lt 0 p) (not (reaches runs p (suc p))) (lt-ltb 0 p (omega arith))
        (ap not r)) u)
  ]
]

-- runs that leave the same room above a page leave it unused alike
pub unused-same : (runs runs' : ℕ → ℕ) (p : ℕ) → (unused runs p ≡ true → (f : ℕ) → f ≤ p → f + runs' f ≤ p) →
    (unused runs' p ≡ true → (f : ℕ) → f ≤ p → f + runs f ≤ p) → unused runs p ≡ unused runs' p
unused-same runs runs' p to from = same_tests (unused runs p) (unused runs' p)
    (λ u. unused-from runs' p (unused-off_zero runs p u) (to u))
    (λ u. unused-from runs p (unused-off_zero runs' p u) (from u))

pub unused-ext : (runs runs' : ℕ → ℕ) (p : ℕ) → ((f : ℕ) → runs f ≡ runs' f) → unused runs p ≡ unused runs' p
unused-ext runs runs' p e = unused-same runs runs' p (λ u f h. omega (arith, unused-above runs p f u h, e f))
    (λ u f h. omega (arith, unused-above runs' p f u h, e f))

-- the pages that are left once a run of free pages is out
pub unused-taken : (runs runs' : ℕ → ℕ) (p k i : ℕ) → AllFree (unused runs) p k → 0 < k → runs' p ≡ k →
    ((f : ℕ) → (f ≡ p → ⊥) → runs' f ≡ runs f) →
    marked (unused runs) p (p + k) false i ≡ unused runs' i
unused-taken runs runs' p k i free some at others =
    let first : p + runs p ≤ p = unused-above runs p p (free.each p (omega arith) (omega arith)) (omega arith) in
    elim (cases_lt i p) [
      | inl a ↦ marked-below (unused runs) p (p + k) false i a ∙ unused-same runs runs' i
          (λ u f h. omega (arith, unused-above runs i f u h, others f (λ e. omega arith)))
          (λ u f h. omega (arith, unused-above runs' i f u h, others f (λ e. omega arith)))
      | inr a ↦ elim (cases_lt i (p + k)) [
        | inl b ↦ marked-in (unused runs) p (p + k) false i a b ∙ sym (used-from runs' i p a (omega arith))
        | inr b ↦ marked-above (unused runs) p (p + k) false i b ∙ unused-same runs runs' i
            (λ u f h. elim (cases_eq f p) [
              | inl e ↦ subst (λ (x : ℕ). x + runs' x ≤ i) (sym e)
                  (omega arith)
              | inr d ↦ omega (arith, unused-above runs i f u h, others f d)
            ])
            (λ u f h. elim (cases_eq f p) [
              | inl e ↦ subst (λ (x : ℕ). x + runs x ≤ i) (sym e)
                  (omega arith)
              | inr d ↦ omega (arith, unused-above runs' i f u h, others f d)
            ])
      ]
    ]

-- and once it is given back
pub unused-given : (runs runs' : ℕ → ℕ) (p k i : ℕ) → runs p ≡ k → 0 < p → runs' p ≡ 0 →
    ((f : ℕ) → (f ≡ p → ⊥) → runs' f ≡ runs f) →
    ((f : ℕ) → f < p → 0 < runs f → f + runs f ≤ p) → ((f : ℕ) → p < f → 0 < runs f → p + k ≤ f) →
    marked (unused runs) p (p + k) true i ≡ unused runs' i
unused-given runs runs' p k i at positive gone others below above =
    elim (cases_lt i p) [
      | inl a ↦ marked-below (unused runs) p (p + k) true i a ∙ unused-same runs runs' i
          (λ u f h. omega (arith, unused-above runs i f u h, others f (λ e. omega arith)))
          (λ u f h. omega (arith, unused-above runs' i f u h, others f (λ e. omega arith)))
      | inr a ↦ elim (cases_lt i (p + k)) [
        | inl b ↦ marked-in (unused runs) p (p + k) true i a b
            ∙ sym (unused-from runs' i (omega arith) (λ f h. elim (cases_order f p) [
              | inl e ↦ subst (λ (x : ℕ). x + runs' x ≤ i) (sym e) (omega arith)
              | inr (inl l) ↦ elim (cases_eq (runs f) 0) [
                | inl z ↦ omega (arith, others f (λ e. omega arith))
                | inr z ↦ omega (arith, others f (λ e. omega arith), below f l (omega arith))
              ]
              | inr (inr l) ↦ elim (cases_eq (runs f) 0) [
                | inl z ↦ omega (arith, others f (λ e. omega arith))
                | inr z ↦ absurd (omega (arith, above f l (omega arith)))
              ]
            ]))
        | inr b ↦ marked-above (unused runs) p (p + k) true i b ∙ unused-same runs runs' i
            (λ u f h. elim (cases_eq f p) [
              | inl e ↦ subst (λ (x : ℕ). x + runs' x ≤ i) (sym e)
                  (omega arith)
              | inr d ↦ omega (arith, unused-above runs i f u h, others f d)
            ])
            (λ u f h. elim (cases_eq f p) [
              | inl e ↦ subst (λ (x : ℕ). x + runs x ≤ i) (sym e)
                  (omega arith)
              | inr d ↦ omega (arith, unused-above runs' i f u h, others f d)
            ])
      ]
    ]
