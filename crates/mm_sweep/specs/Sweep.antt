-- Which objects a sweep finds, and what it leaves of all of them.
use Rattle.std.specs.Prelude.{◌≡◌, ℕ, ◌+◌, ◌*◌, ◌<◌, ◌≤◌, IsTrue, List, length, Option, Some, None}
use Rattle.std.specs.List.{sum_by, AllByRecursion}
use Rattle.mm_model.specs.declared.object.Colour.{Colour}
use Rattle.mm_model.specs.declared.object.Colour.TheVariants.{White}
use Rattle.mm_model.specs.Phase.{IsAscending, lists}
use Rattle.mm_model.specs.Views.ByBase.{Begins, Based}
use Rattle.mm_model.specs.Views.ObjectView.{ObjectView, ObjectsByBase, counted_words_of}
use Rattle.mm_model.specs.Views.ViewWords.{object_at}
use Rattle.mm_object.specs.Object.{StoredObject, StoredObjects}

-- a white object begins at a base
pub record IsWhiteAt (objects : ObjectsByBase) (base : ℕ) : Type 0 where
  pub object : ObjectView
  pub begins : Begins objects base object
  pub white : object.colour ≡ White

-- the bases of exactly the white objects below an address, ascending
pub record AreWhiteBelow (objects : ObjectsByBase) (end : ℕ) (bases : List ℕ) : Type 0 where
  pub ascending : IsAscending bases
  pub only : AllByRecursion (λ base. (object : ObjectView) × Begins objects base object × IsWhiteAt objects base) bases
  pub below : AllByRecursion (λ base. base < end) bases
  pub all : (base : ℕ) (object : ObjectView) → Begins objects base object → IsWhiteAt objects base → base < end
      → IsTrue (lists bases base)

-- the same objects, all white, but for what their composite words say
pub record KeepsWhitened (before after : StoredObjects) : Type 0 where
  pub to : (base : ℕ) (object : StoredObject) → Begins before base object
      → (word : ℕ) × Begins after base (record object { composite = word; colour = White })
  pub back : (base : ℕ) (object : StoredObject) → Begins after base object
      → (word : ℕ) × (colour : Colour) × Begins before base (record object { composite = word; colour = colour })

-- how many counted slots an object has, and all of those at some bases
abbrev pub counted_slots : Option (Based ObjectView) → ℕ
counted_slots None = 0
counted_slots (Some o) = length (counted_words_of o.value)

abbrev pub counted_slots_of : ObjectsByBase → List ℕ → ℕ
counted_slots_of objects bases = sum_by (λ base. counted_slots (object_at objects base)) bases

-- some steps for each page, for each object, and for each counted slot that is dropped
abbrev pub IsSweepCost : ℕ → ℕ → ℕ → ℕ → ℕ → Type 0
IsSweepCost pages objects slots before after = after ≤ before + 32 * (1 + pages + objects + slots)
