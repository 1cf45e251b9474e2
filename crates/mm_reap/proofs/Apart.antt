-- Counts that are right apart from some objects.
use Rattle.std.proofs.Common.{◌≡◌, ℕ, ◌+◌, ◌≤◌, false, List, [], sym, ap, ◌∙◌, arith}
use Rattle.mm_model.specs.Phase.{lists}
use Rattle.mm_model.specs.Views.ObjectView.{ObjectsByBase, references_in}
use Rattle.mm_object.specs.Object.{StoredObjects, view_of_stored, views_of}
use Rattle.mm_count.specs.declared.composite.Composite.{Composite}
use Rattle.mm_count.specs.Table.{IsCountedAt}
use Rattle.mm_count.specs.Counts.{composite_at, counts_of, KeepsObjects, IsCountedBy}
use Rattle.mm_count.specs.Apart.{AreCountsApart}
use Rattle.mm_reap.proofs.Holders.{without, views-without, without-alike, without-none}
use Rattle.mm_reap.proofs.Recounted.{composite_at-begins, view-begins, counted-back, sticky-same}

module _ (dropped : List ℕ) (objects : StoredObjects) (outside : ℕ → ℕ) where
  -- how often a base is held apart from them
  abbrev pub held_apart : ℕ → ℕ
  held_apart base = references_in (without dropped (views_of objects)) base + outside base

  pub apart-exact : AreCountsApart dropped objects outside → (base : ℕ) → IsCountedAt objects base
      → (composite_at objects base).sticky ≡ false → counts_of objects base ≡ held_apart base
  apart-exact apart base k exact =
      let is = composite_at-begins objects base k.object k.begins in
      ap (λ (c : Composite). c.count) is
      ∙ apart.exact base k.object k.begins k.counted (sym (ap (λ (c : Composite). c.sticky) is) ∙ exact)
      ∙ ap (λ (vs : ObjectsByBase). references_in vs base + outside base) (views-without dropped objects)

  pub apart-few : AreCountsApart dropped objects outside → (base : ℕ) → IsCountedAt objects base
      → (composite_at objects base).sticky ≡ false → counts_of objects base ≤ 254
  apart-few apart base k exact =
      let is = composite_at-begins objects base k.object k.begins in
      let most = apart.few base k.object k.begins k.counted (sym (ap (λ (c : Composite). c.sticky) is) ∙ exact) in
      let same = ap (λ (c : Composite). c.count) is in
      omega arith

  pub apart-by : ((base : ℕ) → IsCountedAt objects base → (composite_at objects base).sticky ≡ false
      → counts_of objects base ≡ held_apart base)
      → ((base : ℕ) → IsCountedAt objects base → (composite_at objects base).sticky ≡ false
      → counts_of objects base ≤ 254) → AreCountsApart dropped objects outside
  apart-by exact few =
      record {
        exact = λ base o begins counted not_sticky.
            let is = composite_at-begins objects base o begins in
            sym (ap (λ (c : Composite). c.count) is)
            ∙ exact base (record { object = o; begins = begins; counted = counted })
            (ap (λ (c : Composite). c.sticky) is ∙ not_sticky)
            ∙ ap (λ (vs : ObjectsByBase). references_in vs base + outside base) (sym (views-without dropped objects));
        few = λ base o begins counted not_sticky.
            let is = composite_at-begins objects base o begins in
            let most = few base (record { object = o; begins = begins; counted = counted })
            (ap (λ (c : Composite). c.sticky) is ∙ not_sticky) in
            let same = ap (λ (c : Composite). c.count) is in
            omega arith;
      }

-- where the same is seen, and counts are the same
pub apart-same : (dropped : List ℕ) (a b : StoredObjects) (outside : ℕ → ℕ) → KeepsObjects a b
    → views_of b ≡ views_of a → ((base : ℕ) → IsCountedAt a base → counts_of b base ≡ counts_of a base)
    → AreCountsApart dropped a outside → AreCountsApart dropped b outside
apart-same dropped a b outside keeps views counts apart =
    apart-by dropped b outside
    (λ base k not_sticky.
    let j = counted-back a b keeps base k in
    let was = sym (sticky-same a b keeps views base j) ∙ not_sticky in
    counts base j ∙ apart-exact dropped a outside apart base j was
    ∙ ap (λ (vs : ObjectsByBase). references_in (without dropped vs) base + outside base) (sym views))
    (λ base k not_sticky.
    let j = counted-back a b keeps base k in
    let most = apart-few dropped a outside apart base j (sym (sticky-same a b keeps views base j) ∙ not_sticky) in
    let same = counts base j in
    omega arith)

-- the same objects are left out, in whatever order they stand
pub apart-alike : (dropped others : List ℕ) (objects : StoredObjects) (outside : ℕ → ℕ)
    → ((base : ℕ) → lists others base ≡ lists dropped base)
    → AreCountsApart dropped objects outside → AreCountsApart others objects outside
apart-alike dropped others objects outside same apart =
    apart-by others objects outside
    (λ base k not_sticky.
    apart-exact dropped objects outside apart base k not_sticky
    ∙ ap (λ (vs : ObjectsByBase). references_in vs base + outside base)
    (sym (without-alike dropped others (views_of objects) same)))
    (λ base k not_sticky. apart-few dropped objects outside apart base k not_sticky)

-- none is left out
pub apart-none : (objects : StoredObjects) (outside : ℕ → ℕ) → IsCountedBy objects outside
    → AreCountsApart [] objects outside
apart-none objects outside right =
    apart-by [] objects outside
    (λ base k not_sticky.
    let is = composite_at-begins objects base k.object k.begins in
    right.exact base (view_of_stored k.object) (view-begins objects base k.object k.begins) k.counted
    (sym (ap (λ (c : Composite). c.sticky) is) ∙ not_sticky)
    ∙ ap (λ (vs : ObjectsByBase). references_in vs base + outside base) (sym (without-none (views_of objects))))
    (λ base k not_sticky.
    let is = composite_at-begins objects base k.object k.begins in
    right.few base (view_of_stored k.object) (view-begins objects base k.object k.begins) k.counted
    (sym (ap (λ (c : Composite). c.sticky) is) ∙ not_sticky))
