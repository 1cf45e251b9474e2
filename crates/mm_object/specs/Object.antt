-- What a heap keeps of an object.
use Rattle.std.specs.Prelude.{ℕ, ◌+◌, ◌/◌, ◌%◌, ◌^◌, ◌==◌, Bool, false, if◌then◌else◌, List, map, length, replicate}
use Rattle.std.specs.Prelude.{slice_index, Option, Some, None}
use Rattle.std.specs.Option.{option_map}
use Rattle.mm_model.specs.declared.object.Kind.{Kind}
use Rattle.mm_model.specs.declared.object.Colour.{Colour}
use Rattle.mm_model.specs.declared.object.Shape.{Shape}
use Rattle.mm_model.specs.Object.{is_scanned}
use Rattle.mm_model.specs.Words.{SlotKind, CountedSlot, WordSlot, RawSlot, slot_kind_at}
use Rattle.mm_model.specs.Places.SizeClass.{extent_of, object_bytes}
use Rattle.mm_model.specs.Views.ObjectView.{ObjectView, ObjectsByBase}
use Rattle.mm_cells.specs.declared.marks.CellBits.{CellBits}
use Rattle.mm_object.specs.declared.slot.Slot.{Slot}
use Rattle.mm_object.specs.declared.slot.Slot.TheVariants.{Count, Word, Raw}

pub record StoredObject : Type 0 where
  -- the bytes of its cell or of its pages
  pub extent : ℕ
  pub kind : Kind
  pub finalize : Bool
  -- how many of the slots, from the first on, are counted
  pub counted : ℕ
  -- those of its slots
  pub words : List ℕ
  -- of a target the base of its weak reference, of a weak reference that of its target, or 0
  pub link : ℕ
  -- the word in which counting keeps its count and its place in the zero-count table
  pub composite : ℕ
  pub colour : Colour
  pub has_weak : Bool

-- the objects of a heap, each at its base
abbrev pub StoredObjects : Type 0
StoredObjects = List (Option StoredObject)

-- what the model sees of it: bit 29 of the composite word is set in a sticky object
abbrev pub view_of_stored : StoredObject → ObjectView
view_of_stored object =
    record {
      extent = object.extent;
      kind = object.kind;
      finalize = object.finalize;
      counted = object.counted;
      words = object.words;
      sticky = object.composite / 2 ^ 29 % 2 == 1;
      partner = if object.link == 0 then None else Some object.link;
      colour = object.colour;
    }

-- what it sees of all of them, entry by entry
abbrev pub views_of : StoredObjects → ObjectsByBase
views_of objects = map (option_map view_of_stored) objects

abbrev pub shape_of : StoredObject → Shape
shape_of object =
    record {
      kind = object.kind;
      finalize = object.finalize;
      counted = object.counted;
      slots = length object.words;
    }

-- an object as it is born: each slot is 0
abbrev pub newly_stored : Shape → Colour → StoredObject
newly_stored shape colour =
    record {
      extent = extent_of (object_bytes shape.slots);
      kind = shape.kind;
      finalize = shape.finalize;
      counted = shape.counted;
      words = replicate shape.slots 0;
      link = 0;
      composite = 0;
      colour = colour;
      has_weak = false;
    }

-- a word of a slot of this kind
abbrev pub slot_with : SlotKind → ℕ → Slot
slot_with CountedSlot word = Count word
slot_with WordSlot word = Word word
slot_with RawSlot word = Raw word

abbrev pub slot_of : StoredObject → ℕ → Slot
slot_of object s =
    slot_with (slot_kind_at (is_scanned object.kind) object.counted s) (slice_index object.words s)

-- what a cell says of its object beside the colour
abbrev pub flags_with : Bool → Bool → CellBits
flags_with finalize has_weak = record { 0 = (if finalize then 1 else 0) + (if has_weak then 2 else 0) }

abbrev pub has_finalizer : CellBits → Bool
has_finalizer flags = flags.0 % 2 == 1

abbrev pub has_weak_object : CellBits → Bool
has_weak_object flags = flags.0 / 2 % 2 == 1
