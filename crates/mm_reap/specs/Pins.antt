-- Which objects are pinned.
use Rattle.std.specs.Prelude.{◌≡◌, ◌≢◌, ◌≤◌, ℕ, Bool, Some, slice_get, drop, true, false, IsTrue, List}
use Rattle.mm_model.specs.Object.{is_counted}
use Rattle.mm_model.specs.Views.ByBase.{Begins}
use Rattle.mm_model.specs.Views.ObjectView.{ObjectView, counted_words_of, names_at, holds_base}
use Rattle.mm_object.specs.Object.{StoredObject, StoredObjects, view_of_stored, views_of}
use Rattle.mm_object.specs.Heap.{Heap, Covers}
use Rattle.mm_count.specs.Table.{IsCountedAt, composite_of}
use Rattle.mm_count.specs.Counts.{composite_at, counts_of}

-- Of the counted objects, those in which one of the words falls are pinned now, or aren't. The pins of the others, what
-- is in the table, and the counts are as they were.
pub record ArePinned (before after : StoredObjects) (words : List ℕ) (pinned : Bool) : Type 0 where
  pub named : (base : ℕ) (object : StoredObject) → Begins before base object → IsTrue (is_counted object.kind)
      → names_at words base (view_of_stored object) ≡ true → (composite_at after base).pinned ≡ pinned
  pub others : (base : ℕ) (object : StoredObject) → Begins before base object → IsTrue (is_counted object.kind)
      → names_at words base (view_of_stored object) ≡ false
      → (composite_at after base).pinned ≡ (composite_at before base).pinned
  pub listed : (base : ℕ) → IsCountedAt before base
      → (composite_at after base).listed ≡ (composite_at before base).listed
  pub counts : (base : ℕ) → IsCountedAt before base → counts_of after base ≡ counts_of before base

-- of the counted objects, exactly those in which one of the words falls are pinned
abbrev pub PinsName : StoredObjects → List ℕ → Type 0
PinsName objects words =
    (base : ℕ) (object : StoredObject) → Begins objects base object → IsTrue (is_counted object.kind)
    → (composite_of object).pinned ≡ names_at words base (view_of_stored object)

-- an object in the table is pinned, or one of the words is its base
abbrev pub ListsPinned : StoredObjects → List ℕ → Type 0
ListsPinned objects words =
    (base : ℕ) → IsCountedAt objects base → (composite_at objects base).listed ≡ true
    → (composite_at objects base).pinned ≡ false → holds_base words base ≡ true

-- the word falls in no counted object
abbrev pub NamesNoCounted : Heap → ℕ → Type 0
NamesNoCounted h word =
    (base : ℕ) (object : StoredObject) → Covers h word base object → IsTrue (is_counted object.kind) → ⊥

-- the entries of the table from a place on are pinned
abbrev pub ArePinnedFrom : ℕ → List ℕ → StoredObjects → Type 0
ArePinnedFrom from entries objects =
    (place base : ℕ) → slice_get entries place ≡ Some base → from ≤ place → (composite_at objects base).pinned ≡ true

-- an object in the table is pinned, or a counted slot of the object at a base names it, from this slot on
abbrev pub ListsPinnedOrNamed : StoredObjects → ℕ → ℕ → Type 0
ListsPinnedOrNamed objects by from =
    (holder : ObjectView) → Begins (views_of objects) by holder
    → ListsPinned objects (drop from (counted_words_of holder))

-- a counted object that is in the table and isn't pinned
pub record IsUnpinnedEntry (objects : StoredObjects) (base : ℕ) : Type 0 where
  pub counted : IsCountedAt objects base
  pub listed : (composite_at objects base).listed ≡ true
  pub unpinned : (composite_at objects base).pinned ≡ false

-- an object has left the table, and the other entries, the pins and the counts are as they were
pub record HasLeft (before after : StoredObjects) (base : ℕ) : Type 0 where
  pub own : (composite_at after base).listed ≡ false
  pub others : (other : ℕ) → IsCountedAt before other → other ≢ base
      → (composite_at after other).listed ≡ (composite_at before other).listed
  pub pins : (other : ℕ) → IsCountedAt before other
      → (composite_at after other).pinned ≡ (composite_at before other).pinned
  pub counts : (other : ℕ) → IsCountedAt before other → counts_of after other ≡ counts_of before other

-- whether it is one
abbrev pub IsEntryIf : StoredObjects → ℕ → Bool → Type 0
IsEntryIf objects base true = IsUnpinnedEntry objects base
IsEntryIf objects base false = IsUnpinnedEntry objects base → ⊥
