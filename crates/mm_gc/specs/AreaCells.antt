-- What reading a cell of an area answers.
use Rattle.std.specs.Prelude.{◌≡◌, ◌≢◌, ℕ, true, false, ◌<◌, ◌≤◌, length, Some, None, Result, Ok, Err}
use Rattle.std.specs.Prelude.{◌+◌, ◌==◌, List, slice_index}
use Rattle.std.specs.List.{count_by}
use Rattle.mm_model.specs.declared.refusal.Refusal.{Refusal}
use Rattle.mm_model.specs.declared.refusal.Refusal.TheVariants as refusals
use Rattle.mm_model.specs.declared.reply.Put.{Put}
use Rattle.mm_model.specs.Words.{CountedSlot}
use Rattle.mm_model.specs.Views.View.{View, AreaView}
use Rattle.mm_model.specs.Views.ViewWords.{area_in, cell_kind_of, outside_references, view_refuses_word}
use Rattle.mm_model.specs.Views.ViewStore.{view_area_put, view_store_reply}
use Rattle.mm_model.specs.Views.GoodView.{AreTight, IsGoodView}
use Rattle.mm_object.specs.declared.slot.Slot.{Slot}
use Rattle.mm_object.specs.declared.slot.Slot.TheVariants as slots
use Rattle.mm_object.specs.Object.{StoredObjects, views_of}
use Rattle.mm_object.specs.Heap.{Heap}
use Rattle.mm_count.specs.Counts.{IsCountedBy, NamesCounted, one_more}
use Rattle.mm_count.specs.Table.{Table, IsRight}
use Rattle.mm_roots.specs.declared.area_shape.AreaShape.{AreaShape}
use Rattle.mm_roots.specs.Areas.{Areas, area_at}
use Rattle.mm_roots.specs.Views.{slot_in, views_of_areas}
use Rattle.mm_gc.specs.Replies.{put_reply}
use Rattle.mm_gc.specs.Counts.{HasCounts}

-- the word in a slot or a cell, whatever its kind
abbrev pub word_in : Slot → ℕ
word_in (slots.Count word) = word
word_in (slots.Word word) = word
word_in (slots.Raw word) = word

-- the area that has the number has the cell, which holds this
pub record IsAreaCell (view : View) (number s : ℕ) (slot : Slot) : Type 0 where
  pub area : AreaView
  pub lives : area_in view number ≡ Some area
  pub within : s < length area.words
  pub slot_is : slot ≡ slot_in area s

-- it has no such cell
pub record HasNoAreaCell (view : View) (number s : ℕ) : Type 0 where
  pub area : AreaView
  pub lives : area_in view number ≡ Some area
  pub past : length area.words ≤ s

abbrev pub AreaCellAnswer : View → ℕ → ℕ → Result Slot Refusal → Type 0
AreaCellAnswer view number s (Ok slot) = IsAreaCell view number s slot
AreaCellAnswer view number s (Err refusals.NoArea) = area_in view number ≡ None
AreaCellAnswer view number s (Err refusals.NoSlot) = HasNoAreaCell view number s
AreaCellAnswer view number s (Err because) = ⊥

-- counts are right where the word is held once more than so many places outside say
pub record HoldsCount (objects : StoredObjects) (word : ℕ) : Type 0 where
  pub outside : ℕ → ℕ
  pub counted : IsCountedBy objects (one_more outside word)

-- One place outside of objects holds another word: so many places hold each base before, and so many after.
pub record IsReplaced (old word : ℕ) (before after : ℕ → ℕ) : Type 0 where
  pub other : old ≢ word
  pub same : (base : ℕ) → one_more after old base ≡ one_more before word base

-- A counted cell may get another word: counts are right with some places outside, of which one holds the old word.
pub record CanReplace (table : Table) (heap : Heap) (old word : ℕ) : Type 0 where
  pub before : ℕ → ℕ
  pub after : ℕ → ℕ
  pub replaced : IsReplaced old word before after
  pub counts : HasCounts table heap before
  pub old_named : NamesCounted heap.objects old
  pub new_named : NamesCounted heap.objects word

-- a heap's table, its objects and its areas
pub record CellParts : Type 0 where
  pub table : Table
  pub heap : Heap
  pub areas : Areas

-- a word that goes into a cell of an area
pub record AreaStore : Type 0 where
  pub view : View
  pub area : AreaView
  pub cell : ℕ
  pub word : ℕ

-- the view once it's there and the counts have followed
abbrev pub area_stored : AreaStore → View
area_stored store = view_area_put store.view store.area store.cell store.word

-- These parts are what a good view shows, and counts are right.
pub record ShowsCell (parts : CellParts) (number : ℕ) (store : AreaStore) : Type 0 where
  pub good : IsGoodView store.view
  pub objects : store.view.objects ≡ views_of parts.heap.objects
  pub areas : store.view.areas ≡ views_of_areas parts.areas parts.heap.raw
  pub lives : area_in store.view number ≡ Some store.area
  pub within : store.cell < length store.area.words
  pub counts : HasCounts parts.table parts.heap (outside_references store.view)

-- the cell doesn't take the word
pub record IsCellRefused (store : AreaStore) (because : Refusal) : Type 0 where
  pub because_is : because ≡ refusals.NotCounted
  pub refused : view_refuses_word store.view (cell_kind_of store.area store.cell) store.word ≡ true

-- it takes it, and the parts show the view after that
pub record IsCellStored (store : AreaStore) (after : CellParts) (put : Put) : Type 0 where
  pub taken : view_refuses_word store.view (cell_kind_of store.area store.cell) store.word ≡ false
  pub objects : views_of after.heap.objects ≡ (area_stored store).objects
  pub areas : views_of_areas after.areas after.heap.raw ≡ (area_stored store).areas
  pub counts : HasCounts after.table after.heap (outside_references (area_stored store))
  pub reply : put_reply (Ok put) ≡ view_store_reply store.view (cell_kind_of store.area store.cell) store.word

abbrev pub CellStoreAnswer : AreaStore → CellParts → Result Put Refusal → Type 0
CellStoreAnswer store after (Ok put) = IsCellStored store after put
CellStoreAnswer store after (Err because) = IsCellRefused store because

-- this word goes into this cell of the area that has the number
pub record IsStoreAt (parts : CellParts) (number cell word : ℕ) (store : AreaStore) : Type 0 where
  pub shows : ShowsCell parts number store
  pub cell_is : store.cell ≡ cell
  pub word_is : store.word ≡ word

-- the cell is counted, and holds this
pub record IsCountedCell (store : AreaStore) (old : ℕ) : Type 0 where
  pub kind : cell_kind_of store.area store.cell ≡ CountedSlot
  pub holds : slice_index store.area.words store.cell ≡ old

-- there is such a cell, which is counted and holds this
pub record HasCountedCell (parts : CellParts) (number cell word old : ℕ) : Type 0 where
  pub store : AreaStore
  pub at : IsStoreAt parts number cell word store
  pub counted : IsCountedCell store old

-- there is such a cell, and this is what reading it answers
pub record HasSlotAt (parts : CellParts) (number cell word : ℕ) (slot : Slot) : Type 0 where
  pub store : AreaStore
  pub at : IsStoreAt parts number cell word store
  pub slot_is : slot ≡ slot_in store.area store.cell

-- so many places hold each base: these words, and others besides
abbrev pub outside_with : List ℕ → (ℕ → ℕ) → ℕ → ℕ
outside_with words others base = count_by (λ word. word == base) words + others base

-- The word is 0 or names a counted object, and counts are right where it's held.
pub record CanLower (table : Table) (heap : Heap) (word : ℕ) : Type 0 where
  pub named : NamesCounted heap.objects word
  pub held : HoldsCount heap.objects word
  pub right : IsRight table heap

-- Each of the words is 0 or names a counted object, and counts are right where these and some others are held.
pub record CanLowerAll (table : Table) (heap : Heap) (words : List ℕ) : Type 0 where
  pub tight : AreTight (views_of heap.objects) words
  pub others : ℕ → ℕ
  pub counts : HasCounts table heap (outside_with words others)

-- the area that has the number has so many cells, or more
pub record HasCells (areas : Areas) (number cells : ℕ) : Type 0 where
  pub area : AreaShape
  pub lives : area_at areas number ≡ Some area
  pub within : cells ≤ area.cells
