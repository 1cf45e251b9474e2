-- How many nodes a change of some pages visits, from what its two halves do.
use Rattle.std.proofs.Common.{◌≡◌, ℕ, ◌+◌, ◌-◌, ◌*◌, ◌^◌, ◌<◌, ◌≤◌, inl, inr, zero, suc, min, max, subst, refl, arith}
use Rattle.std.proofs.lemmas.Bool.{cases_lt}
use Rattle.mm_pages.specs.Visits.{MarkVisits}

-- the pages are not all of the node's, so it has halves
pub high_if_part : (height from to : ℕ) → from < to → to ≤ 2 ^ height → (to - from ≡ 2 ^ height → ⊥) → 0 < height
high_if_part zero from to a b n = absurd (n (omega arith))
high_if_part (suc height) from to a b n = omega arith

-- the pages of the lower half that change, and those of the upper half
record Cuts (from to half a b a' b' : ℕ) : Type 0 where
  low_from : a ≡ min from half
  low_to : b ≡ min to half
  high_from : a' ≡ max from half - half
  high_to : b' ≡ max to half - half

visits_low_end : (height below half to b b' s₁ s₂ s₃ : ℕ) → height ≡ below + 1 → half ≡ 2 ^ below →
    b ≡ min to half → b' ≡ max to half - half → to ≤ 2 * half →
    MarkVisits below 0 b s₁ s₂ → MarkVisits below 0 b' s₂ s₃ → s₃ ≤ s₁ + 2 * height
visits_low_end height below half to b b' s₁ s₂ s₃ e h p q w m n = elim (cases_lt half to) [
  | inl x ↦ omega (arith, m.whole refl (omega arith), n.low_end refl)
  | inr x ↦ omega (arith, m.low_end refl, n.none (omega arith))
]

visits_high_end : (height below half from a a' s₁ s₂ s₃ : ℕ) → height ≡ below + 1 → half ≡ 2 ^ below →
    a ≡ min from half → a' ≡ max from half - half → from ≤ 2 * half →
    MarkVisits below a half s₁ s₂ → MarkVisits below a' half s₂ s₃ → s₃ ≤ s₁ + 2 * height
visits_high_end height below half from a a' s₁ s₂ s₃ e h p q w m n = elim (cases_lt from half) [
  | inl x ↦ omega (arith, m.high_end h, n.whole (omega arith) h)
  | inr x ↦ omega (arith, m.none (omega arith), n.high_end h)
]

visits_any : (height below half from to a b a' b' s₁ s₂ s₃ : ℕ) → height ≡ below + 1 → half ≡ 2 ^ below →
    Cuts from to half a b a' b' → from ≤ to → to ≤ 2 * half →
    MarkVisits below a b s₁ s₂ → MarkVisits below a' b' s₂ s₃ → s₃ ≤ s₁ + 4 * height
visits_any height below half from to a b a' b' s₁ s₂ s₃ e h c o w m n = elim (cases_lt half to) [
  | inr x ↦ omega (arith, m.any, n.none (omega (arith, c.high_from, c.high_to)))
  | inl x ↦ elim (cases_lt from half) [
    | inr y ↦ omega (arith, m.none (omega (arith, c.low_from, c.low_to)), n.any)
    | inl y ↦ omega (arith, m.high_end (omega (arith, c.low_to)), n.low_end (omega (arith, c.high_from)))
  ]
]

pub MarkVisits-join : (height below half from to a b a' b' s₀ s₁ s₂ s₃ : ℕ) → height ≡ below + 1 →
    half ≡ 2 ^ below → 2 * half ≡ 2 ^ height → from < to → to ≤ 2 ^ height → (to - from ≡ 2 ^ height → ⊥) →
    a ≡ min from half → b ≡ min to half → a' ≡ max from half - half → b' ≡ max to half - half → s₁ ≡ s₀ + 1 →
    MarkVisits below a b s₁ s₂ → MarkVisits below a' b' s₂ s₃ → MarkVisits height from to s₀ s₃
MarkVisits-join height below half from to a b a' b' s₀ s₁ s₂ s₃ e h d o w part p q p' q' t m n = record {
  none = λ x. absurd (omega arith);
  whole = λ x y. absurd (part (omega arith));
  low_end = λ x.
      let low : MarkVisits below 0 b s₁ s₂ = subst (λ (z : ℕ). MarkVisits below z b s₁ s₂) (omega arith) m in
      let high : MarkVisits below 0 b' s₂ s₃ = subst (λ (z : ℕ). MarkVisits below z b' s₂ s₃) (omega arith) n in
      omega (arith, visits_low_end height below half to b b' s₁ s₂ s₃ e h q q' (omega arith) low high);
  high_end = λ x.
      let low : MarkVisits below a half s₁ s₂ = subst (λ (z : ℕ). MarkVisits below a z s₁ s₂) (omega arith) m in
      let high : MarkVisits below a' half s₂ s₃ = subst (λ (z : ℕ). MarkVisits below a' z s₂ s₃) (omega arith) n in
      omega (arith, visits_high_end height below half from a a' s₁ s₂ s₃ e h p p' (omega arith) low high);
  any = omega (
    arith,
    visits_any height below half from to a b a' b' s₁ s₂ s₃ e h
        (record { low_from = p; low_to = q; high_from = p'; high_to = q' }) (omega arith) (omega arith) m n,
  );
}
