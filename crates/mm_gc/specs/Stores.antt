-- What a write into a slot of an object answers, and what it does to objects and counts.
use Rattle.std.specs.Prelude.{◌≡◌, ℕ, true, false, if◌then◌else◌, slice_index, Option, Some, None, Result, Ok, Err}
use Rattle.mm_model.specs.declared.refusal.Refusal.{Refusal}
use Rattle.mm_model.specs.declared.refusal.Refusal.TheVariants as refusals
use Rattle.mm_model.specs.declared.reply.Put.{Put}
use Rattle.mm_model.specs.Words.{SlotKind}
use Rattle.mm_model.specs.Views.ByBase.{Based}
use Rattle.mm_model.specs.Views.ObjectView.{ObjectView, ObjectsByBase, slot_kind_of}
use Rattle.mm_model.specs.Views.View.{View, CycleView}
use Rattle.mm_model.specs.Views.ViewWords.{view_refuses_word}
use Rattle.mm_model.specs.Views.ViewStore.{view_recounted, view_with_word, view_store_reply}
use Rattle.mm_model.specs.Views.GoodView.{HoldTight}
use Rattle.mm_object.specs.Object.{views_of}
use Rattle.mm_object.specs.Heap.{Heap}
use Rattle.mm_count.specs.Table.{Table}
use Rattle.mm_mark.specs.Marker.{Marker}
use Rattle.mm_gc.specs.Counts.{HasCounts}
use Rattle.mm_gc.specs.Replies.{put_reply}

-- a word that goes into a slot of an object
pub record Store : Type 0 where
  pub holder : Based ObjectView
  pub slot : ℕ
  pub word : ℕ

abbrev pub store_kind : Store → SlotKind
store_kind store = slot_kind_of store.holder.value store.slot

-- the view once it's there and the counts have followed
abbrev pub view_stored : Store → View → View
view_stored store view =
    view_recounted (store_kind store) (slice_index store.holder.value.words store.slot) store.word
    (view_with_word store.holder store.slot store.word view)

-- that holds with some places outside, and counted slots name counted objects
pub record IsCounting (table : Table) (heap : Heap) : Type 0 where
  pub outside : ℕ → ℕ
  pub counts : HasCounts table heap outside
  pub tight : HoldTight (views_of heap.objects)

-- The slot takes the word, these are the objects then, and the answer is that of the view.
pub record IsStored (view : View) (store : Store) (after : ObjectsByBase) (put : Put) : Type 0 where
  pub taken : view_refuses_word view (store_kind store) store.word ≡ false
  pub objects : after ≡ (view_stored store view).objects
  pub reply : put_reply (Ok put) ≡ view_store_reply view (store_kind store) store.word

-- the slot is counted, and the word is neither 0 nor the base of a counted object
pub record IsNotCounted (view : View) (store : Store) (because : Refusal) : Type 0 where
  pub because_is : because ≡ refusals.NotCounted
  pub refused : view_refuses_word view (store_kind store) store.word ≡ true

abbrev pub StoreAnswer : View → Store → ObjectsByBase → Result Put Refusal → Type 0
StoreAnswer view store after (Ok put) = IsStored view store after put
StoreAnswer view store after (Err because) = IsNotCounted view store because

-- what a view shows of a cycle that began when so many objects were gone, by how far the marker has come
abbrev pub cycle_with : ℕ → Marker → Option CycleView
cycle_with gone marker =
    if marker.running then Some (record { gone_before = gone; partly_scanned = marker.partly }) else None
