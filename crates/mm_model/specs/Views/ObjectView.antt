-- What words can tell of the live objects of a heap, without origins, birth numbers and gone objects.
use Rattle.std.specs.Prelude.{ℕ, ◌==◌, Bool, if◌then◌else◌, List, [], map, take, drop, Option}
use Rattle.std.specs.List.{list_any, flat_map, count_by}
use Rattle.mm_model.specs.declared.object.Kind.{Kind}
use Rattle.mm_model.specs.declared.object.Colour.{Colour}
use Rattle.mm_model.specs.Object.{is_scanned}
use Rattle.mm_model.specs.Words.{SlotKind, slot_kind_at, falls}
use Rattle.mm_model.specs.Places.Place.{Piece, Objects}
use Rattle.mm_model.specs.Views.ByBase.{Based, based}

pub record ObjectView : Type 0 where
  -- the bytes of its cell or of its pages
  pub extent : ℕ
  pub kind : Kind
  pub finalize : Bool
  -- how many of the slots, from the first on, are counted
  pub counted : ℕ
  pub words : List ℕ
  pub sticky : Bool
  -- of a target the base of its weak reference, of a weak reference that of its target
  pub partner : Option ℕ
  -- white where no cycle runs
  pub colour : Colour

-- the live objects of a heap, each at its base
abbrev pub ObjectsByBase : Type 0
ObjectsByBase = List (Option ObjectView)

-- the words of an object's counted slots, of its word slots, and of both
abbrev pub counted_words_of : ObjectView → List ℕ
counted_words_of object = if is_scanned object.kind then take object.counted object.words else []

abbrev pub word_words_of : ObjectView → List ℕ
word_words_of object = if is_scanned object.kind then drop object.counted object.words else []

abbrev pub scanned_words_of : ObjectView → List ℕ
scanned_words_of object = if is_scanned object.kind then object.words else []

abbrev pub slot_kind_of : ObjectView → ℕ → SlotKind
slot_kind_of object s = slot_kind_at (is_scanned object.kind) object.counted s

-- one of the words falls in the object that begins at a base, and one of them is the base
abbrev pub names_at : List ℕ → ℕ → ObjectView → Bool
names_at words base object = list_any (λ word. falls word base object.extent) words

abbrev pub holds_base : List ℕ → ℕ → Bool
holds_base words base = list_any (λ word. word == base) words

-- the room of an object, and of all of them by ascending base
abbrev pub piece_of_object : Based ObjectView → Piece
piece_of_object o = record { base = o.base; extent = o.value.extent; family = Objects }

abbrev pub pieces_of_objects : ObjectsByBase → List Piece
pieces_of_objects objects = map piece_of_object (based objects)

-- how many counted slots hold a base
abbrev pub references_in : ObjectsByBase → ℕ → ℕ
references_in objects base =
    count_by (λ word. word == base) (flat_map (λ o. counted_words_of o.value) (based objects))
