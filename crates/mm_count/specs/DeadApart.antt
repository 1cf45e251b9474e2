-- A heap whose dead objects still stand, once what they held is counted no more.
use Rattle.std.specs.Prelude.{◌≡◌, ℕ, true, false, IsTrue, List}
use Rattle.mm_model.specs.Object.{is_counted}
use Rattle.mm_model.specs.Phase.{lists}
use Rattle.mm_model.specs.Views.ByBase.{Begins}
use Rattle.mm_object.specs.Object.{StoredObject, StoredObjects, views_of}
use Rattle.mm_object.specs.Heap.{Heap}
use Rattle.mm_count.specs.Table.{composite_of}
use Rattle.mm_count.specs.Counts.{KeepsObjects}

-- The dead objects aren't in the table, and of the others each counted one with the count 0 is, unless it's sticky.
pub record AreDeadApart (dead : List ℕ) (objects : StoredObjects) : Type 0 where
  pub left : (base : ℕ) (object : StoredObject) → Begins objects base object → IsTrue (lists dead base)
      → (composite_of object).listed ≡ false
  pub listed : (base : ℕ) (object : StoredObject) → Begins objects base object → IsTrue (is_counted object.kind)
      → (composite_of object).sticky ≡ false → (composite_of object).count ≡ 0 → lists dead base ≡ false
      → (composite_of object).listed ≡ true

-- the same heap but for composite words, in which the model sees no change
pub record IsRecounted (before after : Heap) : Type 0 where
  pub views : views_of after.objects ≡ views_of before.objects
  pub objects : KeepsObjects before.objects after.objects
  pub rest : after ≡ record before { objects = after.objects }
