-- One part of the scan of a gray object: which object's turn it is, and what the part does.
use Rattle.std.specs.Prelude.{◌≡◌, ◌≢◌, ◌+◌, ◌≤◌, ◌<◌, ℕ, IsTrue, List, length, take, drop, Option, Some, None, IfSome}
use Rattle.std.specs.Prelude.{◌==◌}
use Rattle.std.specs.List.{list_any}
use Rattle.mm_model.specs.declared.object.Colour.TheVariants.{Gray, Black}
use Rattle.mm_model.specs.declared.object.Part.{Part}
use Rattle.mm_model.specs.Views.ByBase.{Begins, with_entry}
use Rattle.mm_model.specs.Views.ObjectView.{ObjectView, ObjectsByBase, scanned_words_of}
use Rattle.mm_model.specs.Views.SetsByBase.{with_grayed_objects}
use Rattle.mm_model.specs.Views.View.{PartlyScannedView}
use Rattle.mm_model.specs.Views.ViewStep.{slots_done_of, may_go_on}
use Rattle.mm_object.specs.Object.{views_of}
use Rattle.mm_object.specs.Heap.{Heap}
use Rattle.mm_mark.specs.Marker.{Marker, Marking, IsUnderScan}
use Rattle.mm_mark.specs.Colours.{HasColour}

-- no object is gray
abbrev pub NoneIsGray : ObjectsByBase → Type 0
NoneIsGray objects = (base : ℕ) (object : ObjectView) → Begins objects base object → object.colour ≡ Gray → ⊥

-- the same, by how it can be known
pub data IsKnown (marker : Marker) (base : ℕ) : Type 0 where
  Is_queued : IsTrue (list_any (λ entry. entry == base) marker.queue) → IsKnown marker base
  Is_partly_scanned : (partly : PartlyScannedView) → marker.partly ≡ Some partly → partly.base ≡ base
      → IsKnown marker base
  Is_left_out : (next : ℕ) → marker.left_out ≡ Some next → next ≤ base → IsKnown marker base

-- an object is under scan, with the object
pub record UnderScan (objects : ObjectsByBase) (partly : PartlyScannedView) : Type 0 where
  pub object : ObjectView
  pub begins : Begins objects partly.base object
  pub gray : object.colour ≡ Gray
  pub some_done : 1 ≤ partly.slots_done
  pub some_left : partly.slots_done < length (scanned_words_of object)

-- each gray object is known, but for one
abbrev pub AreOthersKnown : Marker → ObjectsByBase → ℕ → Type 0
AreOthersKnown marker objects base =
    (other : ℕ) (object : ObjectView) → Begins objects other object → object.colour ≡ Gray → other ≢ base
    → IsKnown marker other

-- a gray object begins at a base, and the others are known
pub record IsTaken (heap : Heap) (marker : Marker) (base : ℕ) : Type 0 where
  pub gray : HasColour heap base Gray
  pub others : AreOthersKnown marker (views_of heap.objects) base

-- It is the turn of this gray object, and so many of its slots are done.
pub record IsChosen (before : Marker) (objects : ObjectsByBase) (next : PartlyScannedView) : Type 0 where
  pub object : ObjectView
  pub begins : Begins objects next.base object
  pub gray : object.colour ≡ Gray
  pub done : next.slots_done ≡ slots_done_of before.partly next.base
  pub turn : IsTrue (may_go_on before.partly next.base)
  pub fits : next.slots_done ≤ length (scanned_words_of object)

-- the words of its next part
abbrev pub part_words : PartlyScannedView → ObjectView → List ℕ
part_words from object = take 64 (drop from.slots_done (scanned_words_of object))

-- how far its scan is after this part
abbrev pub part_end : PartlyScannedView → ObjectView → ℕ
part_end from object = from.slots_done + length (part_words from object)

-- The part is done: the object is black if no slot is left, and scanned in part else.
pub data IsAdvanced (objects : ObjectsByBase) (from : PartlyScannedView) (object : ObjectView)
    (after : Marking) : Type 0 where
  Is_black : part_end from object ≡ length (scanned_words_of object)
      → after.objects ≡ with_entry from.base (Some (record object { colour = Black }))
      (with_grayed_objects (part_words from object) objects)
      → after.marker.partly ≡ None → IsAdvanced objects from object after
  Is_under_scan : part_end from object < length (scanned_words_of object)
      → after.objects ≡ with_grayed_objects (part_words from object) objects
      → after.marker.partly ≡ Some (record { base = from.base; slots_done = part_end from object })
      → IsAdvanced objects from object after

-- the object whose turn it is is scanned by this part
pub record IsScanned (before after : Marking) (part : Part) : Type 0 where
  pub from : PartlyScannedView
  pub base : part.base ≡ from.base
  pub chosen : IsChosen before.marker before.objects from
  pub slots : part.slots ≡ length (part_words from chosen.object)
  pub advanced : IsAdvanced before.objects from chosen.object after

-- the queue alone differs, what was left out of it, and what is scanned in part
abbrev pub IsSameCycle : Marker → Marker → Type 0
IsSameCycle before after =
    after ≡ record before { queue = after.queue; left_out = after.left_out; partly = after.partly }

-- The object there is black now if so many of its slots are all, and else it is known how many are done.
pub data IsEnded (before : Marking) (to : PartlyScannedView) (count : ℕ) (after : Marking) : Type 0 where
  Is_black : (object : ObjectView) → Begins before.objects to.base object → to.slots_done ≡ count
      → after.objects ≡ with_entry to.base (Some (record object { colour = Black })) before.objects
      → after.marker.partly ≡ None → IsEnded before to count after
  Is_under_scan : to.slots_done ≢ count → after.objects ≡ before.objects → after.marker.partly ≡ Some to
      → IsEnded before to count after

-- an object is under scan still, or none begins at its base any more
pub data IsUnderScanOrGone (objects : ObjectsByBase) (partly : PartlyScannedView) : Type 0 where
  Is_there : IsUnderScan objects partly → IsUnderScanOrGone objects partly
  Is_gone : ((object : ObjectView) → Begins objects partly.base object → ⊥) → IsUnderScanOrGone objects partly

-- what was scanned in part is gone
pub record IsFreed (marker : Marker) (objects : ObjectsByBase) : Type 0 where
  pub partly : PartlyScannedView
  pub is : marker.partly ≡ Some partly
  pub gone : (object : ObjectView) → Begins objects partly.base object → ⊥

-- nothing is scanned in part any more if that object is gone, and else the marker is as it was
pub data HasForgotten (before after : Marker) (objects : ObjectsByBase) : Type 0 where
  Forgets : IsFreed before objects → after ≡ record before { partly = None } → HasForgotten before after objects
  Keeps : IfSome before.partly (IsUnderScan objects) → after ≡ before → HasForgotten before after objects

-- the object at this base is the one that is scanned in part
pub record IsOfPartly (partly : Option PartlyScannedView) (base : ℕ) : Type 0 where
  pub done : ℕ
  pub is : partly ≡ Some (record { base = base; slots_done = done })
