-- What is asked of the objects of one colour, and what changes colours.
use Rattle.std.specs.Prelude.{◌≡◌, ◌≢◌, ◌<◌, ◌≤◌, ℕ, map, Some}
use Rattle.std.specs.Option.{option_map}
use Rattle.mm_model.specs.declared.object.Colour.{Colour}
use Rattle.mm_model.specs.declared.object.Colour.TheVariants.{White, Gray}
use Rattle.mm_model.specs.Views.ByBase.{Begins}
use Rattle.mm_object.specs.Object.{StoredObject}
use Rattle.mm_object.specs.Heap.{Heap, Covers, with_object}

-- the word falls in no white object
abbrev pub NoWhite : Heap → ℕ → Type 0
NoWhite h word = (base : ℕ) (object : StoredObject) → Covers h word base object → object.colour ≢ White

-- the white object in which the word falls becomes gray
pub record Shades (before after : Heap) (word base : ℕ) : Type 0 where
  pub object : StoredObject
  pub covers : Covers before word base object
  pub white : object.colour ≡ White
  pub now : after ≡ with_object before base (Some (record object { colour = Gray }))

-- the least base of an object of this colour that is at least `from`
pub record IsNextOf (h : Heap) (colour : Colour) (from base : ℕ) : Type 0 where
  pub object : StoredObject
  pub begins : Begins h.objects base object
  pub is : object.colour ≡ colour
  pub reached : from ≤ base
  pub least : (lower : ℕ) (other : StoredObject) → Begins h.objects lower other → other.colour ≡ colour
      → from ≤ lower → base ≤ lower

-- there is none
abbrev pub NoneOfFrom : Heap → Colour → ℕ → Type 0
NoneOfFrom h colour from =
    (base : ℕ) (object : StoredObject) → Begins h.objects base object → object.colour ≡ colour → base < from

-- an object is white from now on, and all are
abbrev pub white_object : StoredObject → StoredObject
white_object object = record object { colour = White }

abbrev pub all_whitened : Heap → Heap
all_whitened h = record h { objects = map (option_map white_object) h.objects }
