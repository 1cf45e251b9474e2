-- What holds of each state that can be reached.
use Rattle.std.specs.Prelude.{◌≡◌, ℕ, ◌+◌, ◌*◌, ◌%◌, ◌<◌, ◌≤◌, ◌⊎◌, ◌≢◌, Bool, false, ◌||◌, ◌==◌, IsTrue, List, [], ◌∷◌}
use Rattle.std.specs.Prelude.{map, Some, IfSome, slice_get, length, take, ⊤}
use Rattle.std.specs.List.{AllByRecursion, Contains}
use Rattle.mm_model.specs.declared.object.Colour.TheVariants.{White, Gray, Black}
use Rattle.mm_model.specs.Places.SizeClass.{class_sizes, extent_of, object_bytes, area_bytes}
use Rattle.mm_model.specs.Places.Place.{Piece, overlaps, live_pieces}
use Rattle.mm_model.specs.Value.{Value}
use Rattle.mm_model.specs.Object.{Object, is_leaf, is_counted, is_weak}
use Rattle.mm_model.specs.State.{State, Area, Cycle, PartlyScanned, Lives}
use Rattle.mm_model.specs.Words.{SlotKind, slot_kind, cell_kind, scanned_slots, counted_words, names, falls}
use Rattle.mm_model.specs.Meaning.{stored}
use Rattle.mm_model.specs.Count.{refs, names_counted}
use Rattle.mm_model.specs.Sets.Marking.{colour_of}
use Rattle.mm_model.specs.Areas.{most_areas}
use Rattle.mm_model.specs.Refusing.{most_slots}
use Rattle.mm_model.specs.Phase.{IsAscending}

-- it begins on the grid of its size class
pub record IsCell (piece : Piece) : Type 0 where
  pub class : Contains class_sizes piece.extent
  pub grid : (piece.base % 4096) % piece.extent ≡ 0
  pub whole : piece.base % 4096 + piece.extent ≤ 4096

-- it takes whole pages
pub record IsPages (piece : Piece) : Type 0 where
  pub page : piece.base % 4096 ≡ 0
  pub pages : piece.extent % 4096 ≡ 0
  pub some : 0 < piece.extent

-- it lies in the pages from 1 to below the limit
pub record IsInside (limit : ℕ) (piece : Piece) : Type 0 where
  pub from : 4096 ≤ piece.base
  pub to : piece.base + piece.extent ≤ 4096 * limit
  pub placed : IsCell piece ⊎ IsPages piece

-- Two pieces don't overlap, and where they share a page they are cells of one class and family.
pub record AreApart (p q : Piece) : Type 0 where
  pub disjoint : (p.base + p.extent ≤ q.base) ⊎ (q.base + q.extent ≤ p.base)
  pub alike : (page : ℕ) → IsTrue (overlaps (4096 * page) 4096 p) → IsTrue (overlaps (4096 * page) 4096 q) →
      (p.extent ≡ q.extent) × (p.family ≡ q.family)

-- each is apart from each other
abbrev pub AreAllApart : List Piece → Type 0
AreAllApart [] = ⊤
AreAllApart (p ∷ ps) = AllByRecursion (AreApart p) ps × AreAllApart ps

-- blocks never overlap
pub record IsPlaced (limit : ℕ) (pieces : List Piece) : Type 0 where
  pub inside : AllByRecursion (IsInside limit) pieces
  pub apart : AreAllApart pieces

-- the origin of a value, if it has one, is a live object in which its word falls
abbrev pub IsReferring : State → Value → Type 0
IsReferring a value =
    IfSome value.origin
    (λ birth. (object : Object) × Lives a birth object × IsTrue (falls value.word object.base object.extent))

-- a value as a slot of this kind can have it: what storing it there leaves
pub record IsStored (a : State) (kind : SlotKind) (value : Value) : Type 0 where
  pub refers : IsReferring a value
  pub kept : stored a kind value ≡ value

-- References mean live objects, on the stack, in slots and in cells.
pub record IsReferred (a : State) : Type 0 where
  pub stack : AllByRecursion (IsReferring a) a.stack
  pub slots : (birth : ℕ) (object : Object) → Lives a birth object → (s : ℕ) (value : Value)
      → slice_get object.slots s ≡ Some value → IsStored a (slot_kind object s) value
  pub cells : (n : ℕ) (area : Area) → slice_get a.areas n ≡ Some area → (s : ℕ) (value : Value)
      → slice_get area.cells s ≡ Some value → IsStored a (cell_kind area s) value

-- the word is 0 or the base of a live counted object
abbrev pub is_tight : State → ℕ → Bool
is_tight a word = word == 0 || names_counted a word

-- The partner of an object is live and has it as its partner, and exactly one of the two is a weak reference.
pub record IsPaired (a : State) (birth : ℕ) (object : Object) (other : ℕ) : Type 0 where
  pub partner : Object
  pub lives : Lives a other partner
  pub back : partner.partner ≡ Some birth
  pub one_weak : is_weak partner.kind ≢ is_weak object.kind

-- none of the words falls in a white object
abbrev pub NamesNoWhite : State → Cycle → List ℕ → Type 0
NamesNoWhite a cycle words =
    (birth : ℕ) (object : Object) → Lives a birth object → colour_of cycle birth ≡ White
    → IsTrue (names words object) → ⊥

-- The partly scanned object lives and is gray, some of its slots are done and some aren't, and no word of those that
-- are falls in a white object.
pub record IsPartlyScanned (a : State) (cycle : Cycle) (partly_scanned : PartlyScanned) : Type 0 where
  pub object : Object
  pub lives : Lives a partly_scanned.object object
  pub gray : colour_of cycle partly_scanned.object ≡ Gray
  pub some_done : 1 ≤ partly_scanned.slots_done
  pub some_left : partly_scanned.slots_done < length (scanned_slots object)
  pub names : NamesNoWhite a cycle (take partly_scanned.slots_done (scanned_slots object))

-- An object takes the room of its slots, and its shape is one that `new` accepts, or that of a weak reference.
pub record IsShaped (object : Object) : Type 0 where
  pub extent : object.extent ≡ extent_of (object_bytes (length object.slots))
  pub most : length object.slots ≤ most_slots
  pub counted : object.counted ≤ length object.slots
  -- a leaf has no counted slot
  pub leaf : IsTrue (is_leaf object.kind) → object.counted ≡ 0
  -- a weak reference has no slot and no finalizer
  pub no_slot : IsTrue (is_weak object.kind) → length object.slots ≡ 0
  pub no_finalizer : IsTrue (is_weak object.kind) → object.finalize ≡ false

-- An area takes the room of its cells, and its shape is one that `root` or `fixed` accepts.
pub record IsAreaShaped (area : Area) : Type 0 where
  pub extent : area.extent ≡ extent_of (area_bytes (length area.cells))
  pub some : 1 ≤ length area.cells
  pub most : length area.cells ≤ most_slots
  pub counted : area.counted ≤ length area.cells
  -- only a scanned area has counted cells
  pub raw : area.scanned ≡ false → area.counted ≡ 0

-- areas stand by ascending number, each below the greatest number of areas
pub record AreNumbered (areas : List Area) : Type 0 where
  pub ascending : IsAscending (map (λ area. area.number) areas)
  pub below : AllByRecursion (λ area. area.number < most_areas) areas

-- In a cycle each object has a colour, and no word of a scanned slot of a black object falls in a white one.
pub record IsColoured (a : State) (cycle : Cycle) : Type 0 where
  pub each : length cycle.colours ≡ length a.objects
  pub black : (birth : ℕ) (object : Object) → Lives a birth object → colour_of cycle birth ≡ Black
      → NamesNoWhite a cycle (scanned_slots object)
  pub partly_scanned : IfSome cycle.partly_scanned (IsPartlyScanned a cycle)

pub record IsGood (a : State) : Type 0 where
  -- the region grows from the least to the greatest number of pages
  pub growing : a.settings.pages ≤ a.settings.max
  -- blocks never overlap
  pub placed : IsPlaced a.settings.max (live_pieces a)
  -- each object has the room and the shape that its slots ask for
  pub shaped : (birth : ℕ) (object : Object) → Lives a birth object → IsShaped object
  -- so has each area
  pub areas_shaped : (n : ℕ) (area : Area) → slice_get a.areas n ≡ Some area → IsAreaShaped area
  -- each area has a number of its own
  pub numbered : AreNumbered a.areas
  -- references mean live objects
  pub referred : IsReferred a
  -- each counted slot and cell holds 0 or the base of a live counted object
  pub tight : AllByRecursion (λ word. IsTrue (is_tight a word)) (counted_words a)
  -- what 255 counted places hold is sticky
  pub counted : (birth : ℕ) (object : Object) → Lives a birth object → IsTrue (is_counted object.kind)
      → object.sticky ≡ false → refs a object.base ≤ 254
  -- weak references and their targets name each other
  pub paired : (birth : ℕ) (object : Object) → Lives a birth object → IfSome object.partner (IsPaired a birth object)
  -- what marking has passed names nothing white
  pub coloured : IfSome a.cycle (IsColoured a)
