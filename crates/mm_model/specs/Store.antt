-- What a store into a slot of an object or into a cell of an area does.
use Rattle.std.specs.Prelude.{ℕ, Bool, true, false, not, if◌then◌else◌, ◌&&◌, ◌==◌, slice_index, slice_set}
use Rattle.std.specs.List.{list_any}
use Rattle.mm_model.specs.declared.reply.Reply.{Reply}
use Rattle.mm_model.specs.declared.reply.Reply.TheVariants as replies
use Rattle.mm_model.specs.Value.{Value, words_of}
use Rattle.mm_model.specs.Object.{Object, is_counted}
use Rattle.mm_model.specs.State.{State, Area}
use Rattle.mm_model.specs.Words.{SlotKind, CountedSlot, WordSlot, RawSlot, slot_kind, cell_kind}
use Rattle.mm_model.specs.Meaning.{falls_in, stored}
use Rattle.mm_model.specs.Count.{with_sticky, names_counted}
use Rattle.mm_model.specs.Sets.Marking.{barrier}
use Rattle.mm_model.specs.Areas.{with_changed_area}

abbrev pub is_counted_slot : SlotKind → Bool
is_counted_slot CountedSlot = true
is_counted_slot WordSlot = false
is_counted_slot RawSlot = false

-- a counted slot takes 0 and the bases of live counted objects alone
abbrev pub refuses_word : State → SlotKind → ℕ → Bool
refuses_word a kind word = is_counted_slot kind && not (word == 0) && not (names_counted a word)

-- Where a counted slot gets another word, the object that it now names may become sticky.
abbrev pub recounted : SlotKind → ℕ → ℕ → State → State
recounted kind old new a = if is_counted_slot kind && not (old == new) then with_sticky new a else a

abbrev pub with_object : ℕ → Object → State → State
with_object birth object a = record a { objects = slice_set a.objects birth object }

abbrev pub with_slot : State → Object → ℕ → Value → Object
with_slot a object s value =
    record object { slots = slice_set object.slots s (stored a (slot_kind object s) value) }

-- `put`: the value is stored, the counts follow, and marking is told
abbrev pub put_in_slot : State → ℕ → Object → ℕ → Value → State
put_in_slot a birth object s value =
    let kind = slot_kind object s in
    barrier kind birth s value.word
    (recounted kind (slice_index (words_of object.slots) s) value.word
    (with_object birth (with_slot a object s value) a))

abbrev pub with_cell : State → Area → ℕ → Value → Area
with_cell a area s value = record area { cells = slice_set area.cells s (stored a (cell_kind area s) value) }

-- `aput`: marking looks at the cells of areas once more before it ends, so it needn't be told
abbrev pub put_in_cell : State → Area → ℕ → Value → State
put_in_cell a area s value =
    recounted (cell_kind area s) (slice_index (words_of area.cells) s) value.word
    (with_changed_area (with_cell a area s value) a)

-- A word that falls in a live counted object and is stored where no counted slot is. Marking still reaches the object
-- by it, if the place is scanned. A reap may free it.
abbrev pub is_loose : State → SlotKind → ℕ → Bool
is_loose a kind word =
    not (is_counted_slot kind) && list_any (λ object. is_counted object.kind && falls_in word object) a.objects

abbrev pub store_reply : State → SlotKind → ℕ → Reply
store_reply a kind word = if is_loose a kind word then replies.Loose else replies.Done
