-- What is said of objects alone holds of every heap that has them.
use Rattle.std.proofs.Common.{◌≡◌, ℕ, sym, subst, arith}
use Rattle.mm_model.specs.Views.ByBase.{Begins}
use Rattle.mm_model.specs.Views.GoodView.{ArePaired}
use Rattle.mm_object.specs.Object.{StoredObject, StoredObjects, views_of}
use Rattle.mm_object.specs.Heap.{Heap}
use Rattle.mm_weak.specs.Links.{IsLinked}
use Rattle.mm_count.specs.Table.{Table, IsRight, IsEntry}

module _ (before after : Heap) (same : after.objects ≡ before.objects) where
  was : (base : ℕ) (object : StoredObject) → Begins after.objects base object → Begins before.objects base object
  was base object begins = subst (λ (objects : StoredObjects). Begins objects base object) same begins

  pub linked-same : IsLinked before → IsLinked after
  linked-same linked = record {
    paired = subst (λ (objects : StoredObjects). ArePaired (views_of objects)) (sym same) linked.paired;
    flagged = λ base object begins. linked.flagged base object (was base object begins);
  }

  pub right-same : (table : Table) → after.pages ≡ before.pages → IsRight table before → IsRight table after
  right-same table pages right = record {
    pages = omega (arith, right.pages, pages);
    spelled = λ base object begins. right.spelled base object (was base object begins);
    entered = λ base object begins. right.entered base object (was base object begins);
    entries = λ place base at.
        subst (λ (objects : StoredObjects). IsEntry objects place base) (sym same) (right.entries place base at);
  }
