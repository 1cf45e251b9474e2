-- Which object a word or a value means, and which values keep their origin where they are stored.
use Rattle.std.specs.Prelude.{ℕ, Bool, false, not, if◌then◌else◌, ◌&&◌, Option, Some, None, slice_get}
use Rattle.std.specs.List.{position_from}
use Rattle.std.specs.Option.{option_or, option_and_then}
use Rattle.mm_model.specs.declared.object.Kind.{Kind}
use Rattle.mm_model.specs.Value.{Value}
use Rattle.mm_model.specs.Object.{Object, is_live, is_counted}
use Rattle.mm_model.specs.State.{State}
use Rattle.mm_model.specs.Words.{SlotKind, CountedSlot, WordSlot, RawSlot, falls}

-- whether a word falls in the object, which lives
abbrev pub falls_in : ℕ → Object → Bool
falls_in word object = is_live object && falls word object.base object.extent

-- the live object in which a word falls, by birth number
abbrev pub resolved : State → ℕ → Option ℕ
resolved a word = position_from (falls_in word) 0 a.objects

-- A reference means its origin, whether that is gone or not. An integer means the live object in which it falls.
abbrev pub meant : State → Value → Option ℕ
meant a value = option_or value.origin (resolved a value.word)

-- what the stack cell with this index from the top means
abbrev pub meant_at : State → ℕ → Option ℕ
meant_at a i = option_and_then (meant a) (slice_get a.stack i)

-- An object as the heap that never frees has it: each slot holds what was written there last, freed or not.
abbrev pub object_meant : State → ℕ → Option Object
object_meant a i = option_and_then (slice_get a.objects) (meant_at a i)

-- A counted place keeps a reference to a counted object, a word place one to any other, a raw place none.
abbrev pub keeps : SlotKind → Kind → Bool
keeps CountedSlot kind = is_counted kind
keeps WordSlot kind = not (is_counted kind)
keeps RawSlot kind = false

abbrev pub kept_origin : State → SlotKind → ℕ → Option ℕ
kept_origin a place birth =
    option_and_then (λ object. if keeps place object.kind then Some birth else None) (slice_get a.objects birth)

-- what a value becomes where it is stored in such a place
abbrev pub stored : State → SlotKind → Value → Value
stored a place value = record value { origin = option_and_then (kept_origin a place) value.origin }
