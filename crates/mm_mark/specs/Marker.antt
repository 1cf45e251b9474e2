-- What callers see of a marker, and what it knows of the gray objects of a heap.
use Rattle.std.specs.Prelude.{◌≡◌, ◌≤◌, ◌<◌, ◌==◌, ◌&&◌, ◌||◌, ℕ, Bool, true, false, not, IsTrue, List, [], ◌∷◌, length}
use Rattle.std.specs.Prelude.{Option, Some, None, IfSome, ◌*◌, ◌/◌, slice_get, nat_le, min}
use Rattle.std.specs.List.{list_any}
use Rattle.std.specs.Option.{option_map}
use Rattle.mm_model.specs.declared.object.Colour.TheVariants.{Gray}
use Rattle.mm_model.specs.declared.object.Part.{Part}
use Rattle.mm_model.specs.Views.ByBase.{Begins}
use Rattle.mm_model.specs.Views.ObjectView.{ObjectView, ObjectsByBase, scanned_words_of, slot_kind_of}
use Rattle.mm_model.specs.Views.View.{View, CycleView, PartlyScannedView}
use Rattle.mm_model.specs.Sets.Marking.{is_black, is_gray, is_raw}
use Rattle.mm_model.specs.Views.ViewStore.{is_slot_done}
use Rattle.mm_model.specs.Views.ViewStep.{view_part_slots, view_part_done, ViewMayScan, NoGray}
use Rattle.mm_words.specs.Location.{Location}
use Rattle.mm_object.specs.Object.{views_of}
use Rattle.mm_object.specs.Heap.{Heap}
use Rattle.mm_roots.specs.Stack.{Cells}
use Rattle.mm_mark.specs.declared.marker.PartlyScanned.{PartlyScanned}

-- Where its queue lies, and how many entries it may have; the entries, the newest first; whether some were left
-- out for want of room, and from which base on; whether a cycle runs; and the object that is scanned in part.
pub record Marker : Type 0 where
  pub location : Location
  pub room : ℕ
  pub queue : List ℕ
  pub left_out : Option ℕ
  pub running : Bool
  pub partly : Option PartlyScannedView

abbrev pub view_of_partly : PartlyScanned → PartlyScannedView
view_of_partly partly = record { base = partly.base; slots_done = partly.slots_done }

-- what callers see of one with this queue
abbrev pub marker_of : Cells → Option ℕ → Bool → Option PartlyScanned → Marker
marker_of queue left_out running partly =
    record {
      location = queue.location;
      room = queue.limit;
      queue = queue.words;
      left_out = left_out;
      running = running;
      partly = option_map view_of_partly partly;
    }

-- the queue alone differs, and what was left out of it
abbrev pub IsSameButQueue : Marker → Marker → Type 0
IsSameButQueue before after = after ≡ record before { queue = after.queue; left_out = after.left_out }

-- a gray object begins at a base
abbrev pub is_gray_entry : Option (Option ObjectView) → Bool
is_gray_entry None = false
is_gray_entry (Some None) = false
is_gray_entry (Some (Some object)) = is_gray object.colour

abbrev pub has_gray : ObjectsByBase → ℕ → Bool
has_gray objects base = is_gray_entry (slice_get objects (base / 16))

-- an object is gray, some of its slots are done and some aren't
pub record IsUnderScan (objects : ObjectsByBase) (partly : PartlyScannedView) : Type 0 where
  pub aligned : partly.base ≡ 16 * (partly.base / 16)
  pub gray : has_gray objects partly.base ≡ true
  pub some_done : 1 ≤ partly.slots_done
  pub some_left : (object : ObjectView) → Begins objects partly.base object
      → partly.slots_done < length (scanned_words_of object)

-- the marker can come to the gray object at a base: it is in the queue or scanned in part, or begins where objects
-- may be left out
abbrev pub is_partly_at : Option PartlyScannedView → ℕ → Bool
is_partly_at None base = false
is_partly_at (Some partly) base = partly.base == base

abbrev pub is_left_out : Option ℕ → ℕ → Bool
is_left_out None base = false
is_left_out (Some next) base = nat_le next base

abbrev pub is_known : Marker → ℕ → Bool
is_known marker base =
    list_any (λ entry. entry == base) marker.queue ||
    (is_partly_at marker.partly base || is_left_out marker.left_out base)

-- each gray object is known
abbrev pub AreKnown : Marker → ObjectsByBase → Type 0
AreKnown marker objects =
    (base : ℕ) (object : ObjectView) → Begins objects base object → object.colour ≡ Gray
    → IsTrue (is_known marker base)

-- Each gray object is in the queue, or is scanned in part, or begins where objects may be left out. An entry of the
-- queue counts only where a gray object begins there. This holds between the calls of a cycle.
pub record KeepsGray (marker : Marker) (objects : ObjectsByBase) : Type 0 where
  pub known : AreKnown marker objects
  pub partly : IfSome marker.partly (IsUnderScan objects)

-- how far a marker has come, with the objects of its heap
pub record Marking : Type 0 where
  pub marker : Marker
  pub objects : ObjectsByBase

abbrev pub marking : Marker → Heap → Marking
marking marker heap = record { marker = marker; objects = views_of heap.objects }

-- a view has these objects, and a cycle runs in it that has come as far as the marker
pub record ShowsMarking (now : Marking) (view : View) : Type 0 where
  pub shown : view.objects ≡ now.objects
  pub cycle : CycleView
  pub runs : view.cycle ≡ Some cycle
  pub partly : cycle.partly_scanned ≡ now.marker.partly

-- a part of an object that may be scanned next is done
pub record IsPartOf (before after : Marking) (part : Part) (view : View) : Type 0 where
  pub object : ObjectView
  pub may : ViewMayScan view (record { base = part.base; value = object })
  pub slots : part.slots ≡ length (view_part_slots view (record { base = part.base; value = object }))
  pub done : ShowsMarking after (view_part_done view (record { base = part.base; value = object }))

-- in each view that shows them
abbrev pub IsPartDone : Marking → Marking → Part → Type 0
IsPartDone before after part = (view : View) → ShowsMarking before view → IsPartOf before after part view

abbrev pub HasNoGray : Marking → Type 0
HasNoGray before = (view : View) → ShowsMarking before view → NoGray view

-- the slot is scanned, and marking has passed it
abbrev pub is_passed : Marker → ℕ → ℕ → ObjectView → Bool
is_passed marker base s object =
    not (is_raw (slot_kind_of object s)) && (is_black object.colour || is_slot_done marker.partly base s)

-- one as it is made, with a queue there: no cycle runs
abbrev pub idle : Location → Marker
idle location =
    record {
      location = location;
      room = location.size;
      queue = [];
      left_out = None;
      running = false;
      partly = None;
    }

-- from which base on objects are left out, once the one at a base is
abbrev pub with_left_out : Option ℕ → ℕ → ℕ
with_left_out None base = base
with_left_out (Some next) base = min next base

-- a base is the newest entry of the queue now, or the queue is full and the object there is left out
pub data IsNoted (before after : Marker) (base : ℕ) : Type 0 where
  Is_newest : after ≡ record before { queue = base ∷ before.queue } → IsNoted before after base
  Is_left_out : length before.queue ≡ before.room
      → after ≡ record before { left_out = Some (with_left_out before.left_out base) }
      → IsNoted before after base

-- a cycle runs from now on, and nothing is scanned in part
abbrev pub HasBegun : Marker → Marker → Type 0
HasBegun before after =
    after ≡ record before {
      queue = after.queue;
      left_out = after.left_out;
      running = true;
      partly = None;
    }

-- and its queue is empty
abbrev pub HasStarted : Marker → Marker → Type 0
HasStarted before after =
    after ≡ record before {
      queue = [];
      left_out = None;
      running = true;
      partly = None;
    }

-- no cycle runs any more
abbrev pub IsIdle : Marker → Marker → Type 0
IsIdle before after = after ≡ record before { running = false; partly = None }
