-- What reading and writing the words of raw slots in bulk answers, and what a write leaves.
use Rattle.std.specs.Prelude.{◌≡◌, ℕ, ◌+◌, ◌^◌, ◌<◌, ◌≤◌, false, true, List, [], ◌∷◌, ◌++◌, map, take, drop, length}
use Rattle.std.specs.Prelude.{Some, None, Result, Ok, Err, slice_get, slice_range}
use Rattle.std.specs.Option.{option_map_or}
use Rattle.mm_model.specs.declared.refusal.Refusal.TheVariants as refusals
use Rattle.mm_model.specs.Value.{words_of, integer}
use Rattle.mm_model.specs.Object.{Object, is_scanned}
use Rattle.mm_model.specs.State.{State, Lives}
use Rattle.mm_model.specs.Meaning.{meant_at, object_meant}
use Rattle.mm_model.specs.Store.{with_object, put_in_slot}
use Rattle.mm_model.specs.Good.{IsGood}
use Rattle.mm_model.specs.Views.ByBase.{Begins, Based, with_entry}
use Rattle.mm_model.specs.Views.ObjectView.{ObjectView}
use Rattle.mm_model.specs.Views.View.{View, Shows}
use Rattle.mm_model.specs.Views.ViewWords.{view_meant}
use Rattle.mm_object.specs.Object.{StoredObject, view_of_stored}
use Rattle.mm_object.specs.Heap.{Heap}
use Rattle.mm_gc.specs.declared.bare_words.WordsFault.{WordsFault}
use Rattle.mm_gc.specs.declared.bare_words.WordsFault.TheVariants.{Refused, Scanned}
use Rattle.mm_gc.specs.Gc.{Gc, view_of_gc}

-- The cell means an object whose slots marking doesn't look at, and which has so many from one on.
pub record IsBare (view : View) (i s count : ℕ) (o : Based ObjectView) : Type 0 where
  pub meant : view_meant view i ≡ Some o
  pub raw : is_scanned o.value.kind ≡ false
  pub within : s + count ≤ length o.value.words

-- it means nothing
pub record IsOfNothing (view : View) (i : ℕ) : Type 0 where
  pub cell : i < length view.stack
  pub nothing : view_meant view i ≡ None

-- it means an object whose slots marking looks at
pub record IsOfScanned (view : View) (i : ℕ) : Type 0 where
  pub object : Based ObjectView
  pub meant : view_meant view i ≡ Some object
  pub scanned : is_scanned object.value.kind ≡ true

-- it means one whose slots marking doesn't look at, but which has fewer from that one on
pub record HasFewerSlots (view : View) (i s count : ℕ) : Type 0 where
  pub object : Based ObjectView
  pub meant : view_meant view i ≡ Some object
  pub raw : is_scanned object.value.kind ≡ false
  pub past : length object.value.words < s + count

-- why so many slots from one on of what a cell means can't be read or written in bulk
abbrev pub IsWordsFault : View → ℕ → ℕ → ℕ → WordsFault → Type 0
IsWordsFault view i s count (Refused refusals.NoCell) = length view.stack ≤ i
IsWordsFault view i s count (Refused refusals.Nothing) = IsOfNothing view i
IsWordsFault view i s count Scanned = IsOfScanned view i
IsWordsFault view i s count (Refused refusals.NoSlot) = HasFewerSlots view i s count
IsWordsFault view i s count (Refused because) = ⊥

-- in the state, what the cell means holds these words in the slots from one on
pub record HoldsWords (a : State) (i s : ℕ) (words : List ℕ) : Type 0 where
  pub object : Object
  pub meant : object_meant a i ≡ Some object
  pub words_are : words ≡ slice_range (words_of object.slots) s (s + length words)

-- The words of the slots from one on stand in place of as many others: those of the view, and of every good state that
-- it shows.
pub record AreRead (view : View) (i s : ℕ) (old new : List ℕ) : Type 0 where
  pub object : Based ObjectView
  pub bare : IsBare view i s (length old) object
  pub words : new ≡ slice_range object.value.words s (s + length old)
  pub states : (a : State) → IsGood a → Shows view a → HoldsWords a i s new

-- a list with these entries in place of those from one on
abbrev pub overwritten : {X : Type 0} → List X → ℕ → List X → List X
overwritten xs s ys = take s xs ++ ys ++ drop (s + length ys) xs

-- words that go into the slots from one on of what a stack cell means
pub record WordsStore : Type 0 where
  pub cell : ℕ
  pub slot : ℕ
  pub words : List ℕ

-- the view with these words in the slots of the object
abbrev pub view_with_words : Based ObjectView → ℕ → List ℕ → View → View
view_with_words o s words view =
    record view {
      objects = with_entry o.base
          (Some (record o.value { words = overwritten o.value.words s words })) view.objects;
    }

-- the state with these words as integers in the slots of the object, which has the birth number
abbrev pub with_integers : ℕ → Object → ℕ → List ℕ → State → State
with_integers birth object s words a =
    with_object birth (record object { slots = overwritten object.slots s (map integer words) }) a

-- the state after a `put` of each word as an integer, one after the other
abbrev pub put_each : ℕ → ℕ → List ℕ → State → State
put_each birth s [] a = a
put_each birth s (word ∷ words) a =
    put_each birth (s + 1) words
    (option_map_or (λ object. put_in_slot a birth object s (integer word)) (slice_get a.objects birth) a)

-- The words are in the slots of what the cell means: that state is good, the heap shows it, and it is the one that
-- single puts leave.
pub record IsStateWithWords (new : View) (store : WordsStore) (a : State) : Type 0 where
  pub birth : ℕ
  pub object : Object
  pub meant : meant_at a store.cell ≡ Some birth
  pub lives : Lives a birth object
  pub good : IsGood (with_integers birth object store.slot store.words a)
  pub shows : Shows new (with_integers birth object store.slot store.words a)
  pub puts : put_each birth store.slot store.words a ≡ with_integers birth object store.slot store.words a

-- The words are in the slots, in words alone and in every good state that the heap shows.
pub record AreWritten (old new : View) (store : WordsStore) : Type 0 where
  pub object : Based ObjectView
  pub bare : IsBare old store.cell store.slot (length store.words) object
  pub view : new ≡ view_with_words object store.slot store.words old
  pub states : (a : State) → IsGood a → Shows old a → IsStateWithWords new store a

-- the object at a base has so many slots from one on, and their numbers are words
pub record HasSlots (heap : Heap) (base s count : ℕ) : Type 0 where
  pub object : StoredObject
  pub begins : Begins heap.objects base object
  pub within : s + count ≤ length object.words
  pub small : s + count < 2 ^ 32

-- the object at a base, which is what a cell means
pub record IsBareAt (gc : Gc) (i s count base : ℕ) : Type 0 where
  pub slots : HasSlots gc.region.heap base s count
  pub bare : IsBare (view_of_gc gc) i s count
      (record { base = base; value = view_of_stored slots.object })

abbrev pub BareAnswer : Gc → ℕ → ℕ → ℕ → Result ℕ WordsFault → Type 0
BareAnswer gc i s count (Ok base) = IsBareAt gc i s count base
BareAnswer gc i s count (Err fault) = IsWordsFault (view_of_gc gc) i s count fault
