-- Words that fall in the objects of a heap, as a search sees them.
use Rattle.std.proofs.Common.{◌≡◌, ℕ, ◌*◌, ◌/◌, ◌≤◌, Bool, true, false, List, [], length, Some, None, inl, inr, ap}
use Rattle.std.proofs.Common.{◌∙◌, arith}
use Rattle.std.specs.Prelude.{slice_get, if◌then◌else◌}
use Rattle.std.proofs.lemmas.Bool.{cases_eq}
use Rattle.std.proofs.lemmas.Option.{get_or_from_slice_get}
use Rattle.mm_model.specs.Object.{is_scanned}
use Rattle.mm_model.specs.Views.ByBase.{Begins}
use Rattle.mm_model.specs.Views.ObjectView.{ObjectView, ObjectsByBase, scanned_words_of}
use Rattle.mm_model.proofs.Places.Falling.{falls_from, falls_within}
use Rattle.mm_model.proofs.View.ByBase.MappedEntries.{begins_mapped, mapped_begins}
use Rattle.mm_object.specs.Object.{StoredObject, view_of_stored, views_of}
use Rattle.mm_object.specs.Heap.{Heap, Covers, FallsInNone, IsSound, IsObject}
use Rattle.mm_why.specs.Path.{FallsIn}
use Rattle.mm_why.specs.Queue.{IsPlace}
use Rattle.mm_why.specs.Search.{slots_in, slots_at}

pub covers-falls : (h : Heap) (word base : ℕ) (object : StoredObject) → Covers h word base object
    → FallsIn (views_of h.objects) word base
covers-falls h word base object covers = record {
  object = view_of_stored object;
  begins = begins_mapped view_of_stored h.objects base object covers.begins;
  within = falls_within word base object.extent covers.from covers.to;
}

pub falls-covers : (h : Heap) (word base : ℕ) → FallsIn (views_of h.objects) word base
    → (object : StoredObject) × Covers h word base object
falls-covers h word base f =
    let stored = mapped_begins view_of_stored h.objects base f.object f.begins in
    let extent : stored.value.extent ≡ f.object.extent = ap (λ (v : ObjectView). v.extent) stored.is in
    let at = falls_from word base f.object.extent f.within in
    let to = at.1 in
    (stored.value, record { begins = stored.begins; from = at.0; to = omega arith })

pub none-falls : (h : Heap) (word : ℕ) → FallsInNone h word → (base : ℕ) → FallsIn (views_of h.objects) word base → ⊥
none-falls h word none base f = let c = falls-covers h word base f in none base c.0 c.1

-- an object that is seen is there
pub seen-object : (h : Heap) (base : ℕ) (object : ObjectView) →
    Begins (views_of h.objects) base object → IsObject h base
seen-object h base object begins =
    let stored = mapped_begins view_of_stored h.objects base object begins in (stored.value, stored.begins)

module _ (h : Heap) (sound : IsSound h) where
  -- a word falls in one object at most
  pub falls-once : (word x y : ℕ) (object : StoredObject) → Covers h word x object
      → FallsIn (views_of h.objects) word y → y ≡ x
  falls-once word x y object a f =
      let other = falls-covers h word y f in
      elim (cases_eq y x) [
        | inl e ↦ e
        | inr d ↦ elim (sound.apart y x other.0 object other.1.begins a.begins d).disjoint [
          | inl before ↦ absurd (omega (arith, other.1.to, a.from))
          | inr after ↦ absurd (omega (arith, a.to, other.1.from))
        ]
      ]

  -- each begins where an object can
  pub object-place : (base : ℕ) (object : StoredObject) (places : ℕ) → Begins h.objects base object
      → 256 * h.size ≤ places → IsPlace places base
  object-place base object places begins room =
      let aligned = begins.aligned in
      let inside = (sound.inside base object begins).to in
      let bytes = sound.room base object begins in
      record { aligned = omega arith; below = omega arith }

  pub few-slots : (base : ℕ) (object : StoredObject) → Begins h.objects base object → length object.words ≤ 1048575
  few-slots base object begins = (sound.shape base object begins).slots

-- how many slots it has
pub slots-at : (objects : ObjectsByBase) (base : ℕ) (object : ObjectView) → Begins objects base object
    → slots_at objects base ≡ length (scanned_words_of object)
slots-at objects base object begins =
    let aligned = begins.aligned in
    let grain : base / 16 ≡ begins.grain = omega arith in
    ap slots_in (get_or_from_slice_get objects (base / 16) (Some object) None
    (ap (slice_get objects) grain ∙ begins.is))

-- the words of the scanned slots are those that are seen
pub scanned-seen : (h : Heap) (base : ℕ) (words : List ℕ)
    → ((object : StoredObject) → Begins h.objects base object → words ≡ scanned_words_of (view_of_stored object))
    → (holder : ObjectView) → Begins (views_of h.objects) base holder → words ≡ scanned_words_of holder
scanned-seen h base words are holder begins =
    let stored = mapped_begins view_of_stored h.objects base holder begins in
    are stored.value stored.begins ∙ ap scanned_words_of stored.is

pub length-scanned : (object : ObjectView) → length (scanned_words_of object) ≤ length object.words
length-scanned object = split (is_scanned object.kind)
  where
    split : (b : Bool) → length (if b then object.words else []) ≤ length object.words
    split true = omega arith
    split false = omega arith
