-- Counts while objects are freed, whose slots hold no counts any more.
use Rattle.std.specs.Prelude.{◌≡◌, ◌≤◌, ℕ, false, IsTrue, if◌then◌else◌, List, Option, Some, None}
use Rattle.mm_model.specs.Object.{is_counted}
use Rattle.mm_model.specs.Phase.{lists}
use Rattle.mm_model.specs.Views.ByBase.{Begins, changed}
use Rattle.mm_model.specs.Views.SetsByBase.{count_at}
use Rattle.mm_object.specs.Object.{StoredObject, StoredObjects, views_of}
use Rattle.mm_count.specs.Table.{composite_of}

-- the objects but for those at some bases
abbrev pub unless_dead : {X : Type 0} → List ℕ → ℕ → X → Option X
unless_dead bases base object = if lists bases base then None else Some object

abbrev pub without_dead : List ℕ → StoredObjects → StoredObjects
without_dead bases objects = changed (unless_dead bases) objects

-- The counts are right where the slots of the objects at some bases hold no counts any more: each counted object that
-- isn't sticky, also one at such a base, has as its count how many counted slots of the other objects hold its base,
-- and as many more as the number for the base says.
pub record AreCountsApart (dropped : List ℕ) (objects : StoredObjects) (outside : ℕ → ℕ) : Type 0 where
  pub exact : (base : ℕ) (object : StoredObject) → Begins objects base object → IsTrue (is_counted object.kind)
      → (composite_of object).sticky ≡ false
      → (composite_of object).count ≡ count_at (views_of (without_dead dropped objects)) outside base
  pub few : (base : ℕ) (object : StoredObject) → Begins objects base object → IsTrue (is_counted object.kind)
      → (composite_of object).sticky ≡ false → (composite_of object).count ≤ 254

-- the counts are right where the slots of some other objects hold none any more, while those of the one at a base do
pub record CanDrop (objects : StoredObjects) (base : ℕ) : Type 0 where
  pub dropped : List ℕ
  pub outside : ℕ → ℕ
  pub apart : AreCountsApart dropped objects outside
  pub out : lists dropped base ≡ false
