-- The zero-count table, and when it is right for a heap.
use Rattle.std.specs.Prelude.{◌≡◌, ◌≤◌, ◌-◌, ℕ, true, IsTrue, not, List, [], length, take, Some, slice_get, slice_set}
use Rattle.std.specs.Prelude.{slice_index}
use Rattle.mm_model.specs.Object.{is_counted}
use Rattle.mm_model.specs.Views.ByBase.{Begins}
use Rattle.mm_words.specs.Location.{Location}
use Rattle.mm_object.specs.Object.{StoredObject, StoredObjects}
use Rattle.mm_object.specs.Heap.{Heap}
use Rattle.mm_count.specs.declared.composite.Composite.{Composite}
use Rattle.mm_count.specs.Composite.{composite_in, word_of, IsComposite}

-- Where its words lie, how many pages it is for, and the bases of its entries, in order.
pub record Table : Type 0 where
  pub location : Location
  pub pages : ℕ
  pub entries : List ℕ

abbrev pub fresh : Location → ℕ → Table
fresh location pages = record { location = location; pages = pages; entries = [] }

abbrev pub with_entries : Table → List ℕ → Table
with_entries table entries = record table { entries = entries }

-- the entries without the one at a place, into which the last has come
abbrev pub without_place : List ℕ → ℕ → List ℕ
without_place entries place =
    take (length entries - 1) (slice_set entries place (slice_index entries (length entries - 1)))

-- the same table, but for its entries
abbrev pub IsSameTable : Table → Table → Type 0
IsSameTable before after = after ≡ with_entries before after.entries

-- what an object says of its count
abbrev pub composite_of : StoredObject → Composite
composite_of object = composite_in object.composite

-- a counted object begins at a base
pub record IsCountedAt (objects : StoredObjects) (base : ℕ) : Type 0 where
  pub object : StoredObject
  pub begins : Begins objects base object
  pub counted : IsTrue (is_counted object.kind)

-- the entry at a place is this counted object, which says that it is there
pub record IsEntry (objects : StoredObjects) (place base : ℕ) : Type 0 where
  pub object : StoredObject
  pub begins : Begins objects base object
  pub counted : IsTrue (is_counted object.kind)
  pub listed : (composite_of object).listed ≡ true
  pub stands : (composite_of object).place ≡ place

-- The composite word of a counted object is one that counting writes, and that of any other object is 0.
pub record IsSpelled (object : StoredObject) : Type 0 where
  pub word : object.composite ≡ word_of (composite_of object)
  pub counted : IsTrue (is_counted object.kind) → IsComposite (composite_of object)
  pub other : IsTrue (not (is_counted object.kind)) → object.composite ≡ 0

-- The entries are exactly the objects that say that they are in the table, each at the place that it says. So an entry
-- is a counted object that isn't sticky and whose count is 0, and a counted object with the count 0 that isn't an entry
-- has left the table.
pub record IsRight (table : Table) (heap : Heap) : Type 0 where
  pub pages : heap.pages ≤ table.pages
  pub spelled : (base : ℕ) (object : StoredObject) → Begins heap.objects base object → IsSpelled object
  pub entered : (base : ℕ) (object : StoredObject) → Begins heap.objects base object
      → (composite_of object).listed ≡ true → slice_get table.entries (composite_of object).place ≡ Some base
  pub entries : (place base : ℕ) → slice_get table.entries place ≡ Some base → IsEntry heap.objects place base
