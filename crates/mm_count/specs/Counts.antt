-- What counting does to a heap's objects and to the table.
use Rattle.std.specs.Prelude.{◌≡◌, ◌≢◌, ◌<◌, ◌+◌, ◌-◌, ◌/◌, ◌==◌, ◌&&◌, ℕ, Bool, true, false, not, if◌then◌else◌}
use Rattle.std.specs.Prelude.{List, [], ◌∷◌, ◌++◌, map, length, Option, Some, None, slice_get, slice_set}
use Rattle.std.specs.Option.{option_map, option_and_then}
use Rattle.mm_model.specs.Object.{is_scanned}
use Rattle.mm_model.specs.Words.{CountedSlot, slot_kind_at}
use Rattle.mm_model.specs.Views.ByBase.{Begins, with_entry}
use Rattle.mm_model.specs.Views.GoodView.{AreCounts}
use Rattle.mm_object.specs.Object.{StoredObject, StoredObjects, views_of}
use Rattle.mm_object.specs.Heap.{Heap}
use Rattle.mm_count.specs.declared.composite.Composite.{Composite}
use Rattle.mm_count.specs.declared.counts.Count.{Count}
use Rattle.mm_count.specs.declared.counts.Count.TheVariants.{Exact, Sticky}
use Rattle.mm_count.specs.Composite.{composite_in, word_of}
use Rattle.mm_count.specs.Table.{Table, with_entries, without_place, composite_of, IsCountedAt}

-- what begins at a base
abbrev pub entry_at : {X : Type 0} → List (Option X) → ℕ → Option X
entry_at entries base = option_and_then (λ entry. entry) (slice_get entries (base / 16))

-- the composite of the object at a base, or one that says nothing
abbrev pub composite_told : Option StoredObject → Composite
composite_told None = composite_in 0
composite_told (Some object) = composite_of object

abbrev pub composite_at : StoredObjects → ℕ → Composite
composite_at objects base = composite_told (entry_at objects base)

-- the counts of a heap's objects, by base
abbrev pub counts_of : StoredObjects → ℕ → ℕ
counts_of objects base = (composite_at objects base).count

-- the counts are right, where so many places outside of objects hold each base besides
abbrev pub IsCountedBy : StoredObjects → (ℕ → ℕ) → Type 0
IsCountedBy objects outside = AreCounts (views_of objects) (counts_of objects) outside

-- one more place outside holds a base
abbrev pub one_more : (ℕ → ℕ) → ℕ → ℕ → ℕ
one_more outside base other = if other == base then outside other + 1 else outside other

abbrev pub count_in : Composite → Count
count_in c = if c.sticky then Sticky else Exact c.count

-- A count that reaches 255 makes the object sticky. Of a sticky object no count changes.
abbrev pub raised : Composite → Composite
raised c =
    if c.sticky then c
    else record c { count = c.count + 1; place = 0; sticky = c.count == 254; listed = false }

-- what a count that falls to 0 says, but for the place in the table
abbrev pub lowered : Composite → Composite
lowered c = if c.sticky then c else record c { count = c.count - 1; listed = c.count == 1 }

-- in the table, but for the place, and out of it
abbrev pub entered : Composite → Composite
entered c = record c { listed = true }

abbrev pub left : Composite → Composite
left c = record c { place = 0; listed = false }

abbrev pub with_pin : Bool → Composite → Composite
with_pin pinned c = record c { pinned = pinned }

-- an object with another composite
abbrev pub with_composite : (Composite → Composite) → StoredObject → StoredObject
with_composite f object = record object { composite = word_of (f (composite_of object)) }

-- the object at a base with another composite
abbrev pub changed_at : (Composite → Composite) → ℕ → Heap → Heap
changed_at f base h =
    record h { objects = with_entry base (option_map (with_composite f) (entry_at h.objects base)) h.objects }

abbrev pub with_word : ℕ → ℕ → StoredObject → StoredObject
with_word s word object = record object { words = slice_set object.words s word }

-- the object at a base with another word in a slot
abbrev pub written_at : ℕ → ℕ → ℕ → Heap → Heap
written_at base s word h =
    record h { objects = with_entry base (option_map (with_word s word) (entry_at h.objects base)) h.objects }

-- A heap but for the places in the table, which a table that is right tells.
abbrev pub unplaced : Composite → Composite
unplaced c = record c { place = 0 }

abbrev pub without_places : Heap → Heap
without_places h = record h { objects = map (option_map (with_composite unplaced)) h.objects }

-- the table once a count was raised, was lowered, and once an object has left
abbrev pub table_left : Table → Composite → Table
table_left table c = if c.listed then with_entries table (without_place table.entries c.place) else table

abbrev pub table_raised : Table → Composite → Table
table_raised table c = if c.sticky then table else table_left table c

abbrev pub table_lowered : Table → Composite → ℕ → Table
table_lowered table c base =
    if not c.sticky && c.count == 1 then with_entries table (table.entries ++ base ∷ []) else table

-- the same objects, but for composite words
pub record KeepsObjects (before after : StoredObjects) : Type 0 where
  pub to : (base : ℕ) (object : StoredObject) → Begins before base object
      → (word : ℕ) × Begins after base (record object { composite = word })
  pub back : (base : ℕ) (object : StoredObject) → Begins after base object
      → (word : ℕ) × Begins before base (record object { composite = word })

-- it holds 0, or a counted object begins there
abbrev pub NamesCounted : StoredObjects → ℕ → Type 0
NamesCounted objects word = word ≢ 0 → IsCountedAt objects word

-- the object at a base has a counted slot of this number
pub record HasCountedSlot (objects : StoredObjects) (base s : ℕ) : Type 0 where
  pub object : StoredObject
  pub begins : Begins objects base object
  pub kind : slot_kind_at (is_scanned object.kind) object.counted s ≡ CountedSlot
  pub within : s < length object.words

-- the count at a base isn't 0, if it's counted still
abbrev pub HasReference : StoredObjects → ℕ → Type 0
HasReference objects base = (composite_at objects base).sticky ≡ false → (composite_at objects base).count ≢ 0
