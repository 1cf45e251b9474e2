-- What scanning to the end makes of the objects, and how much there is to scan.
use Rattle.std.specs.Prelude.{◌≡◌, ◌≢◌, ◌+◌, ℕ, if◌then◌else◌, length, take, Option, Some, None, IfSome}
use Rattle.std.specs.List.{sum_by}
use Rattle.mm_model.specs.declared.object.Colour.{Colour}
use Rattle.mm_model.specs.declared.object.Colour.TheVariants.{White, Black}
use Rattle.mm_model.specs.Views.ByBase.{Begins}
use Rattle.mm_model.specs.Views.ObjectView.{ObjectView, ObjectsByBase, scanned_words_of}
use Rattle.mm_model.specs.Views.SetsByBase.{IsKeptAtFinishAt}
use Rattle.mm_model.specs.Sets.Marking.{is_black}
use Rattle.mm_model.specs.Views.GoodView.{NamesNoWhiteAt}
use Rattle.mm_model.specs.Views.View.{PartlyScannedView}
use Rattle.mm_mark.specs.Marker.{Marking}

-- Nothing is gray any more. What `finish` keeps of what was white or gray is black, and all else is as it was.
pub record IsDrained (before after : ObjectsByBase) : Type 0 where
  pub black : (base : ℕ) (object : ObjectView) → Begins before base object → object.colour ≡ Black
      → Begins after base object
  pub kept : (base : ℕ) (object : ObjectView) → Begins before base object → IsKeptAtFinishAt before base
      → Begins after base (record object { colour = Black })
  pub white : (base : ℕ) (object : ObjectView) → Begins before base object → object.colour ≡ White
      → (IsKeptAtFinishAt before base → ⊥) → Begins after base object
  -- no other objects are there
  pub only : (base : ℕ) (object : ObjectView) → Begins after base object
      → (old : ObjectView) × Begins before base old

-- the words of the slots that are done fall in no white object
abbrev pub NamesNoWhiteDone : ObjectsByBase → PartlyScannedView → Type 0
NamesNoWhiteDone objects partly =
    (object : ObjectView) → Begins objects partly.base object
    → NamesNoWhiteAt objects (take partly.slots_done (scanned_words_of object))

-- of one object that isn't black: itself and its scanned slots
abbrev pub unscanned_of : Option ObjectView → ℕ
unscanned_of None = 0
unscanned_of (Some object) = if is_black object.colour then 0 else 1 + length (scanned_words_of object)

-- how many objects aren't black, and how many scanned slots they have, together
abbrev pub unscanned : ObjectsByBase → ℕ
unscanned objects = sum_by unscanned_of objects

-- An object keeps its colour, or it's one that `finish` keeps and isn't white any more.
pub data IsMove (before : ObjectsByBase) (base : ℕ) (old new : Colour) : Type 0 where
  Stays : new ≡ old → IsMove before base old new
  Is_marked : IsKeptAtFinishAt before base → new ≢ White → IsMove before base old new

-- an object is there with another colour
pub record IsMoved (before after : ObjectsByBase) (base : ℕ) (object : ObjectView) : Type 0 where
  pub colour : Colour
  pub begins : Begins after base (record object { colour = colour })
  pub move : IsMove before base object.colour colour

-- the object was there with another colour
pub record WasThere (before : ObjectsByBase) (base : ℕ) (object : ObjectView) : Type 0 where
  pub colour : Colour
  pub begins : Begins before base (record object { colour = colour })

-- a black object was so before, or no word of its scanned slots falls in a white one
pub data IsPassedOver (before after : ObjectsByBase) (base : ℕ) (object : ObjectView) : Type 0 where
  Was_black : Begins before base object → IsPassedOver before after base object
  Names_no_white : NamesNoWhiteAt after (scanned_words_of object) → IsPassedOver before after base object

-- how far scanning to the end has come
pub record IsDraining (before : ObjectsByBase) (now : Marking) : Type 0 where
  pub forth : (base : ℕ) (object : ObjectView) → Begins before base object → IsMoved before now.objects base object
  pub back : (base : ℕ) (object : ObjectView) → Begins now.objects base object → WasThere before base object
  pub black : (base : ℕ) (object : ObjectView) → Begins now.objects base object → object.colour ≡ Black
      → IsPassedOver before now.objects base object
  pub partly : IfSome now.marker.partly (NamesNoWhiteDone now.objects)
