-- The live objects by base, as they are kept: their headers by grain, the words of the region, and for each grain the
-- one at which the object begins that has it.
use Rattle.std.specs.Prelude.{◌≡◌, ℕ, ◌+◌, ◌*◌, ◌%◌, ◌^◌, ◌<◌, ◌≤◌, IsTrue, List, [], ◌∷◌, length, take, drop}
use Rattle.std.specs.Prelude.{Bool, false, map, Option, Some, None, is_some, slice_get}
use Rattle.std.specs.List.{count_by}
use Rattle.std.specs.Option.{option_map, option_map_or}
use Rattle.mm_model.specs.declared.object.Colour.{Colour}
use Rattle.mm_model.specs.declared.object.Colour.TheVariants.{Gray}
use Rattle.mm_model.specs.Sets.Marking.{is_gray}
use Rattle.mm_model.specs.declared.object.Shape.{Shape}
use Rattle.mm_model.specs.Places.SizeClass.{object_bytes}
use Rattle.mm_model.specs.Places.Place.{is_vacant}
use Rattle.mm_model.specs.Views.ByBase.{Begins, Based}
use Rattle.mm_model.specs.Views.ObjectView.{ObjectView, ObjectsByBase, pieces_of_objects}
use Rattle.mm_model.specs.Views.ViewEffect.{newborn_view}
use Rattle.mm_audit.specs.declared.header.Header.{Header}
use Rattle.mm_audit.specs.declared.header.Found.{Found}

-- all of an object but the words of its slots
abbrev pub header_of : ObjectView → Header
header_of object =
    record {
      extent = object.extent;
      kind = object.kind;
      finalize = object.finalize;
      counted = object.counted;
      slots = length object.words;
      sticky = object.sticky;
      partner = object.partner;
      colour = object.colour;
    }

abbrev pub found_of : Based ObjectView → Found
found_of o = record { base = o.base; header = header_of o.value }

-- an object with these words
abbrev pub object_with : List ℕ → Header → ObjectView
object_with words header =
    record {
      extent = header.extent;
      kind = header.kind;
      finalize = header.finalize;
      counted = header.counted;
      words = words;
      sticky = header.sticky;
      partner = header.partner;
      colour = header.colour;
    }

-- an object begins at this base
pub record IsObject (objects : ObjectsByBase) (base : ℕ) : Type 0 where
  pub object : ObjectView
  pub begins : Begins objects base object

-- the object there has a slot with this number
pub record HasSlot (objects : ObjectsByBase) (base slot : ℕ) : Type 0 where
  pub object : ObjectView
  pub begins : Begins objects base object
  pub within : slot < length object.words

-- a newborn object that takes so many bytes
abbrev pub newborn_of : ℕ → Shape → Colour → ObjectView
newborn_of extent shape colour = record (newborn_view shape None) { extent = extent; colour = colour }

-- An object with so many slots has room in these bytes, which are whole grains of the region, and no object has one of
-- them.
pub record IsRoomFor (objects : ObjectsByBase) (base extent slots : ℕ) : Type 0 where
  pub aligned : base % 16 ≡ 0
  pub whole : extent % 16 ≡ 0
  pub inside : base + extent ≤ 16 * length objects
  pub vacant : IsTrue (is_vacant (pieces_of_objects objects) base extent)
  pub fits : object_bytes slots ≤ extent

-- the header has as many bytes and slots as the object there
pub record IsLike (objects : ObjectsByBase) (base : ℕ) (header : Header) : Type 0 where
  pub object : ObjectView
  pub begins : Begins objects base object
  pub extent : header.extent ≡ object.extent
  pub slots : header.slots ≡ length object.words

-- a gray object stands there
abbrev pub is_gray_object : Option ObjectView → Bool
is_gray_object entry = option_map_or (λ object. is_gray object.colour) entry false

-- how many gray objects there are
abbrev pub grays_in : ObjectsByBase → ℕ
grays_in objects = count_by is_gray_object objects

abbrev pub NoneIsGray : ObjectsByBase → Type 0
NoneIsGray objects = (base : ℕ) (object : ObjectView) → Begins objects base object → object.colour ≡ Gray → ⊥

-- the lowest base of an object from an address on
pub record IsNextObject (objects : ObjectsByBase) (from base : ℕ) : Type 0 where
  pub is : IsObject objects base
  pub reached : from ≤ base
  pub least : (lower : ℕ) (object : ObjectView) → from ≤ lower → Begins objects lower object → base ≤ lower

-- none begins there or behind
abbrev pub NoObjectFrom : ObjectsByBase → ℕ → Type 0
NoObjectFrom objects from = (base : ℕ) (object : ObjectView) → from ≤ base → Begins objects base object → ⊥

-- Inner: one number stands at each of so many places from the first on, and all other places are as they were.
pub record IsFilled (before after : List ℕ) (first count number : ℕ) : Type 0 where
  pub size : length after ≡ length before
  pub here : (k : ℕ) → first ≤ k → k < first + count → slice_get after k ≡ Some number
  pub below : (k : ℕ) → k < first → slice_get after k ≡ slice_get before k
  pub above : (k : ℕ) → first + count ≤ k → slice_get after k ≡ slice_get before k

-- a header stands under a grain
pub record HasHeader (entries : List (Option Header)) (grain : ℕ) : Type 0 where
  pub header : Header
  pub is : slice_get entries grain ≡ Some (Some header)

-- Inner: the header of the object at a base stands under its grain. Of a region's words, four are for each grain. The
-- first four of an object's are free, and its slots follow.
abbrev pub object_in : List ℕ → ℕ → Header → ObjectView
object_in words grain header = object_with (take header.slots (drop (4 * grain + 4) words)) header

-- the objects, where the first entry is for this grain
abbrev pub shown_from : List ℕ → ℕ → List (Option Header) → ObjectsByBase
shown_from words grain [] = []
shown_from words grain (entry ∷ entries) =
    option_map (object_in words grain) entry ∷ shown_from words (grain + 1) entries

abbrev pub shown : List ℕ → List (Option Header) → ObjectsByBase
shown words entries = shown_from words 0 entries

-- an object has its room in a region of so many grains
pub record IsRoomy (grains grain : ℕ) (header : Header) : Type 0 where
  pub inside : 16 * grain + header.extent ≤ 16 * grains
  pub room : 16 + 4 * header.slots ≤ header.extent

-- Each object has its room, and each of its grains tells where it begins. So no two have a grain in common. A grain
-- that no object has may tell anything.
pub record KeepsObjects (entries : List (Option Header)) (begins words : List ℕ) : Type 0 where
  pub few : length entries ≤ 2 ^ 20
  pub each_grain : length begins ≡ length entries
  pub each_word : length words ≡ 4 * length entries
  pub roomy : (grain : ℕ) (header : Header) → slice_get entries grain ≡ Some (Some header)
      → IsRoomy (length entries) grain header
  pub told : (grain : ℕ) (header : Header) → slice_get entries grain ≡ Some (Some header)
      → (inner : ℕ) → grain ≤ inner → 16 * inner < 16 * grain + header.extent → slice_get begins inner ≡ Some grain
  -- an object begins at its first grain
  pub not_behind : (inner grain : ℕ) → slice_get begins inner ≡ Some grain → grain ≤ inner

-- the header of a gray object stands there, and how many do
abbrev pub is_gray_header : Option Header → Bool
is_gray_header entry = option_map_or (λ header. is_gray header.colour) entry false

abbrev pub grays_among : List (Option Header) → ℕ
grays_among entries = count_by is_gray_header entries

-- the same, with a mark for each grain at which an object begins, and the number of gray objects
pub record KeepsMarked (entries : List (Option Header)) (begins words : List ℕ) (taken : List Bool)
    (grays : ℕ) : Type 0 where
  pub objects : KeepsObjects entries begins words
  pub marks : taken ≡ map is_some entries
  pub right : grays ≡ grays_among entries
