-- The runs of a page heap stay apart as one entry of its table changes.
use Rattle.std.proofs.Common.{◌≡◌, ℕ, ◌+◌, ◌<◌, ◌≤◌, ◌⊎◌, inl, inr, length, slice_index, arith, sym, ◌∙◌, ap}
use Rattle.std.proofs.lemmas.Bool.{cases_lt, cases_eq}
use Rattle.mm_pages.specs.Free.{AllFree}
use Rattle.mm_pages.specs.Pages.{Pages, run_at, unused, IsSoundHeap}
use Rattle.mm_pages.proofs.Unused.{unused-above, unused-off_zero}

-- at page p a run of o pages is out and one of q pages is parked, and all else is as it was
pub record Changes (v v' : Pages) (p o q : ℕ) : Type 0 where
  pub limit : v'.limit ≡ v.limit
  pub pages : v'.pages ≡ v.pages
  pub out_size : length v'.out ≡ length v.out
  pub parked_size : length v'.parked ≡ length v.parked
  pub out : slice_index v'.out p ≡ o
  pub parked : slice_index v'.parked p ≡ q
  pub others_out : (f : ℕ) → (f ≡ p → ⊥) → slice_index v'.out f ≡ slice_index v.out f
  pub others_parked : (f : ℕ) → (f ≡ p → ⊥) → slice_index v'.parked f ≡ slice_index v.parked f

pub others_at : (v v' : Pages) (p o q : ℕ) → Changes v v' p o q → (f : ℕ) → (f ≡ p → ⊥) → run_at v' f ≡ run_at v f
others_at v v' p o q c f d = omega (arith, c.others_out f d, c.others_parked f d)

pub here_at : (v v' : Pages) (p o q : ℕ) → Changes v v' p o q → run_at v' p ≡ o + q
here_at v v' p o q c = omega (arith, c.out, c.parked)

-- n pages from page p on keep clear of page 0, of the limit, and of the runs that begin at other pages
pub record Clear (v : Pages) (p n : ℕ) : Type 0 where
  pub off_zero : 0 < n → 0 < p
  pub within : 0 < n → p + n ≤ v.limit
  pub below : (f : ℕ) → f < p → 0 < n → 0 < run_at v f → f + run_at v f ≤ p
  pub above : (f : ℕ) → p < f → 0 < n → 0 < run_at v f → p + n ≤ f

pub IsSoundHeap-changes : (v v' : Pages) (p o q : ℕ) → IsSoundHeap v → Changes v v' p o q → (o ≡ 0) ⊎ (q ≡ 0) →
    Clear v p (o + q) → IsSoundHeap v'
IsSoundHeap-changes v v' p o q s c kind clear =
    let here : run_at v' p ≡ o + q = here_at v v' p o q c in
    record {
      two = omega (arith, s.two, c.limit);
      limit = omega (arith, s.limit, c.limit, c.pages);
      pages = omega (arith, s.pages, c.pages);
      out_size = c.out_size ∙ s.out_size ∙ sym c.pages;
      parked_size = c.parked_size ∙ s.parked_size ∙ sym c.pages;
      one_kind = λ f h. elim (cases_eq f p) [
        | inl e ↦ elim kind [
          | inl z ↦ absurd (omega (arith, c.out, ap (λ (x : ℕ). slice_index v'.out x) e))
          | inr z ↦ omega (arith, c.parked, ap (λ (x : ℕ). slice_index v'.parked x) e)
        ]
        | inr d ↦ omega (
          arith,
          c.others_out f d,
          c.others_parked f d,
          s.one_kind f (omega (arith, c.others_out f d)),
        )
      ];
      off_zero = elim (cases_eq 0 p) [
        | inl e ↦ elim (cases_eq (o + q) 0) [
          | inl z ↦ omega (arith, here, ap (λ (x : ℕ). run_at v' x) e)
          | inr z ↦ absurd (omega (arith, clear.off_zero (omega arith)))
        ]
        | inr d ↦ omega (arith, others_at v v' p o q c 0 d, s.off_zero)
      ];
      within = λ f h. elim (cases_eq f p) [
        | inl e ↦ omega (
          arith,
          here,
          ap (λ (x : ℕ). run_at v' x) e,
          clear.within (omega (arith, here, ap (λ (x : ℕ). run_at v' x) e)),
          c.limit,
        )
        | inr d ↦ omega (
          arith,
          others_at v v' p o q c f d,
          s.within f (omega (arith, others_at v v' p o q c f d)),
          c.limit,
        )
      ];
      apart = λ f g l a b. elim (cases_eq f p) [
        | inl e ↦
            let other : run_at v' g ≡ run_at v g = others_at v v' p o q c g (λ x. omega arith) in
            let mine : run_at v' f ≡ o + q = ap (λ (x : ℕ). run_at v' x) e ∙ here in
            omega (arith, clear.above g (omega arith) (omega arith) (omega arith))
        | inr d ↦ elim (cases_eq g p) [
          | inl e ↦
              let other : run_at v' f ≡ run_at v f = others_at v v' p o q c f d in
              let mine : run_at v' g ≡ o + q = ap (λ (x : ℕ). run_at v' x) e ∙ here in
              omega (arith, clear.below f (omega arith) (omega arith) (omega arith))
          | inr n ↦
              let low : run_at v' f ≡ run_at v f = others_at v v' p o q c f d in
              let high : run_at v' g ≡ run_at v g = others_at v v' p o q c g n in
              omega (arith, s.apart f g l (omega arith) (omega arith))
        ]
      ];
    }

-- free pages are clear of all runs
pub Clear-free : (v : Pages) (p k : ℕ) → AllFree (unused (run_at v)) p k → 0 < k → p + k ≤ v.limit → Clear v p k
Clear-free v p k free some within = record {
  off_zero = λ h. unused-off_zero (run_at v) p (free.each p (omega arith) (omega arith));
  within = λ h. within;
  below = λ f l h r. unused-above (run_at v) p f (free.each p (omega arith) (omega arith)) (omega arith);
  above = λ f l h r. elim (cases_lt f (p + k)) [
    | inr a ↦ a
    | inl a ↦ absurd (omega (arith, unused-above (run_at v) f f (free.each f (omega arith) a) (omega arith)))
  ];
}

-- no pages are
pub Clear-none : (v : Pages) (p : ℕ) → Clear v p 0
Clear-none v p = record {
  off_zero = λ h. absurd (omega arith);
  within = λ h.
      absurd (omega arith);
  below = λ f l h r. absurd (omega arith);
  above = λ f l h r. absurd (omega arith);
}

-- a run is clear of the others
pub Clear-run : (v : Pages) (p : ℕ) → IsSoundHeap v → Clear v p (run_at v p)
Clear-run v p s = record {
  off_zero = λ h. elim (cases_eq p 0) [
    | inl e ↦ absurd (omega (arith, s.off_zero, ap (λ (x : ℕ). run_at v x) e))
    | inr d ↦ omega arith
  ];
  within = λ h. s.within p h;
  below = λ f l h r. s.apart f p l r h;
  above = λ f l h r. s.apart p f l h r;
}
