-- What a reap has found so far.
use Rattle.std.specs.Prelude.{◌≡◌, ◌≤◌, ℕ, ◌==◌, true, false, List}
use Rattle.std.specs.List.{count_by}
use Rattle.mm_model.specs.Phase.{lists}
use Rattle.mm_model.specs.Views.SetsByBase.{IsReapableAt}
use Rattle.mm_object.specs.Object.{StoredObjects, views_of}
use Rattle.mm_object.specs.Heap.{Heap, IsSound}
use Rattle.mm_count.specs.Table.{Table, IsCountedAt, IsRight}
use Rattle.mm_count.specs.Counts.{composite_at, counts_of}
use Rattle.mm_count.specs.Apart.{AreCountsApart}
use Rattle.mm_reap.specs.Pins.{PinsName}

-- Counted objects that aren't sticky, have the count 0 and are out of the table, each once. Every other one with the
-- count 0 is in the table.
pub record AreFound (objects : StoredObjects) (found : List ℕ) : Type 0 where
  pub counted : (base : ℕ) → lists found base ≡ true → IsCountedAt objects base
  pub left : (base : ℕ) → lists found base ≡ true → (composite_at objects base).listed ≡ false
  pub exact : (base : ℕ) → lists found base ≡ true → (composite_at objects base).sticky ≡ false
  pub zero : (base : ℕ) → lists found base ≡ true → counts_of objects base ≡ 0
  pub once : (base : ℕ) → count_by (λ b. b == base) found ≤ 1
  pub others : (base : ℕ) → IsCountedAt objects base → (composite_at objects base).sticky ≡ false
      → counts_of objects base ≡ 0 → lists found base ≡ false → (composite_at objects base).listed ≡ true

-- the table is right for a heap from which these were found
pub record IsReaped (table : Table) (heap : Heap) (bases : List ℕ) : Type 0 where
  pub right : IsRight table heap
  pub sound : IsSound heap
  pub found : AreFound heap.objects bases

-- What the stack names is pinned, each that was found is reapable, and counts are right without the slots of those that
-- were dropped, which are some of them.
pub record AreReapable (objects : StoredObjects) (stack dropped found : List ℕ) (outside : ℕ → ℕ) : Type 0 where
  pub pins : PinsName objects stack
  pub counts : AreCountsApart dropped objects outside
  pub within : (base : ℕ) → lists dropped base ≡ true → lists found base ≡ true
  pub reapable : (base : ℕ) → lists found base ≡ true → IsReapableAt (views_of objects) stack outside base

-- for some stack, and some number of places outside
pub record SomeReapable (objects : StoredObjects) (dropped found : List ℕ) : Type 0 where
  pub stack : List ℕ
  pub outside : ℕ → ℕ
  pub are : AreReapable objects stack dropped found outside
