-- Which objects are in the zero-count table, and which are pinned.
use Rattle.std.specs.Prelude.{◌≡◌, ◌≢◌, ◌⊎◌, ℕ, Bool, true, false, IsTrue, List}
use Rattle.mm_model.specs.Object.{is_counted}
use Rattle.mm_model.specs.Views.ByBase.{Begins}
use Rattle.mm_model.specs.Views.ObjectView.{holds_base}
use Rattle.mm_object.specs.Object.{StoredObject, StoredObjects}
use Rattle.mm_count.specs.Table.{composite_of}

-- it's in the table if it's counted, isn't sticky, and has the count 0
abbrev pub IsListedAtZero : StoredObject → Type 0
IsListedAtZero object =
    IsTrue (is_counted object.kind) → (composite_of object).sticky ≡ false → (composite_of object).count ≡ 0
    → (composite_of object).listed ≡ true

-- every counted object that isn't sticky and whose count is 0 is in the table
pub record AllListed (objects : StoredObjects) : Type 0 where
  pub listed : (base : ℕ) (object : StoredObject) → Begins objects base object → IsListedAtZero object

-- the same of every object but the one at a base
pub record AllListedBut (left : ℕ) (objects : StoredObjects) : Type 0 where
  pub listed : (base : ℕ) (object : StoredObject) → base ≢ left → Begins objects base object → IsListedAtZero object

-- no object is pinned
pub record NonePinned (objects : StoredObjects) : Type 0 where
  pub unpinned : (base : ℕ) (object : StoredObject) → Begins objects base object → (composite_of object).pinned ≡ false

-- each object is pinned now where it was before
pub record KeepsPins (before after : StoredObjects) : Type 0 where
  pub same : (base : ℕ) (object now : StoredObject) → Begins before base object → Begins after base now
      → (composite_of now).pinned ≡ (composite_of object).pinned

-- What was in the table is still in it, and what is now was before or is named by one of the words. What has the count
-- 0 had it before, or is in the table.
pub record ListsNamed (words : List ℕ) (before after : StoredObjects) : Type 0 where
  pub still : (base : ℕ) (object now : StoredObject) → Begins before base object → Begins after base now
      → (composite_of object).listed ≡ true → (composite_of now).listed ≡ true
  pub only : (base : ℕ) (object now : StoredObject) → Begins before base object → Begins after base now
      → (composite_of now).listed ≡ true → ((composite_of object).listed ≡ true) ⊎ IsTrue (holds_base words base)
  pub zeros : (base : ℕ) (object now : StoredObject) → Begins before base object → Begins after base now
      → (composite_of now).count ≡ 0 → ((composite_of object).count ≡ 0) ⊎ ((composite_of now).listed ≡ true)

-- The object at a base isn't in the table any more, and each other one is where it was before.
pub record ListsOthers (left : ℕ) (before after : StoredObjects) : Type 0 where
  pub own : (object : StoredObject) → Begins after left object → (composite_of object).listed ≡ false
  pub others : (base : ℕ) (object now : StoredObject) → base ≢ left → Begins before base object
      → Begins after base now → (composite_of now).listed ≡ (composite_of object).listed

-- The object at a base is pinned now or isn't, and each other one is where it was before.
pub record PinsOne (at : ℕ) (pinned : Bool) (before after : StoredObjects) : Type 0 where
  pub own : (object : StoredObject) → Begins after at object → (composite_of object).pinned ≡ pinned
  pub others : (base : ℕ) (object now : StoredObject) → base ≢ at → Begins before base object
      → Begins after base now → (composite_of now).pinned ≡ (composite_of object).pinned
