-- How the words of a table tell its entries, and what holds between two changes.
use Rattle.std.specs.Prelude.{◌≡◌, ◌≢◌, ◌≤◌, ◌+◌, ◌*◌, ◌-◌, ℕ, ◌==◌, true, false, IsTrue, List, take, length, Some}
use Rattle.std.specs.Prelude.{slice_get}
use Rattle.std.specs.List.{count_by}
use Rattle.mm_model.specs.Object.{is_counted}
use Rattle.mm_model.specs.Views.ByBase.{Begins}
use Rattle.mm_words.specs.Piece.{Piece}
use Rattle.mm_words.specs.Location.{location_of}
use Rattle.mm_object.specs.Object.{StoredObject, StoredObjects, views_of}
use Rattle.mm_object.specs.Heap.{Heap, with_object}
use Rattle.mm_count.specs.declared.composite.Composite.{Composite}
use Rattle.mm_count.specs.Composite.{word_of}
use Rattle.mm_count.specs.Table.{Table, IsEntry, IsSpelled, composite_of}
use Rattle.mm_count.specs.Counts.{KeepsObjects}
use Rattle.mm_count.specs.Listed.{KeepsPins, ListsNamed}

-- what callers see
abbrev pub table_of : Piece → ℕ → ℕ → Table
table_of words count pages =
    record { location = location_of words; pages = pages; entries = take count words.words }

-- there is room for an entry for each unit of 16 bytes from the first page on
pub record KeepsTable (words : Piece) (count pages : ℕ) : Type 0 where
  pub within : count ≤ length words.words
  pub room : 256 * (pages - 1) ≤ length words.words

-- the heap once the object at a base says so
abbrev pub gives : Heap → ℕ → Composite → StoredObject → Heap
gives h base c object = with_object h base (Some (record object { composite = word_of c }))

-- in the table, at this place
abbrev pub with_entry_word : ℕ → Composite → Composite
with_entry_word place c = record c { place = place; listed = true }

-- The table is right but for the entry at a place, whose object isn't in the table any more.
pub record HasGap (table : Table) (heap : Heap) (gap : ℕ) : Type 0 where
  pub pages : heap.pages ≤ table.pages
  pub spelled : (base : ℕ) (object : StoredObject) → Begins heap.objects base object → IsSpelled object
  pub entered : (base : ℕ) (object : StoredObject) → Begins heap.objects base object
      → (composite_of object).listed ≡ true → slice_get table.entries (composite_of object).place ≡ Some base
  pub elsewhere : (base : ℕ) (object : StoredObject) → Begins heap.objects base object
      → (composite_of object).listed ≡ true → (composite_of object).place ≢ gap
  pub entries : (place base : ℕ) → slice_get table.entries place ≡ Some base → place ≢ gap
      → IsEntry heap.objects place base

-- each counted object that isn't sticky has the count that is told for its base, which is at most 254
pub record AreTotals (objects : StoredObjects) (total : ℕ → ℕ) : Type 0 where
  pub exact : (base : ℕ) (object : StoredObject) → Begins objects base object → IsTrue (is_counted object.kind)
      → (composite_of object).sticky ≡ false → (composite_of object).count ≡ total base
  pub few : (base : ℕ) (object : StoredObject) → Begins objects base object → IsTrue (is_counted object.kind)
      → (composite_of object).sticky ≡ false → (composite_of object).count ≤ 254

-- What the heap is once each of some words was lowered that names an object.
pub record AreLowered (before after : Heap) (words : List ℕ) : Type 0 where
  pub rest : after ≡ record before { objects = after.objects }
  pub views : views_of after.objects ≡ views_of before.objects
  pub objects : KeepsObjects before.objects after.objects
  pub pins : KeepsPins before.objects after.objects
  pub entered : ListsNamed words before.objects after.objects
  pub totals : (total : ℕ → ℕ)
      → AreTotals before.objects (λ base. total base + count_by (λ word. word == base) words)
      → AreTotals after.objects total
