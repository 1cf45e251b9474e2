-- What marking changes of a heap.
use Rattle.std.specs.Prelude.{◌≡◌, ◌≢◌, ℕ, List, ◌+◌, ◌*◌, ◌++◌, length}
use Rattle.std.specs.List.{flat_map}
use Rattle.mm_model.specs.Views.ViewWords.{scanned_cells_of}
use Rattle.mm_model.specs.declared.object.Colour.{Colour}
use Rattle.mm_model.specs.declared.object.Colour.TheVariants.{White, Gray}
use Rattle.mm_model.specs.Views.ByBase.{Begins}
use Rattle.mm_model.specs.Views.ObjectView.{ObjectView, ObjectsByBase}
use Rattle.mm_model.specs.Views.SetsByBase.{with_grayed_objects}
use Rattle.mm_object.specs.Object.{StoredObject, views_of}
use Rattle.mm_object.specs.Heap.{Heap}
use Rattle.mm_roots.specs.Stack.{Cells}
use Rattle.mm_roots.specs.Areas.{Areas}
use Rattle.mm_roots.specs.Views.{views_of_areas, scanned_words_from}
use Rattle.mm_object.specs.Colours.{all_whitened}

-- colours alone differ: once all is white, the two are the same
abbrev pub IsSameButColours : Heap → Heap → Type 0
IsSameButColours before after = all_whitened after ≡ all_whitened before

-- the white objects in which one of the words falls become gray, and all else stays
pub record IsGrayed (before after : Heap) (words : List ℕ) : Type 0 where
  pub grayed : views_of after.objects ≡ with_grayed_objects words (views_of before.objects)
  pub rest : IsSameButColours before after

-- an object of this colour begins at a base, and none does
pub record HasColour (h : Heap) (base : ℕ) (colour : Colour) : Type 0 where
  pub object : StoredObject
  pub begins : Begins h.objects base object
  pub is : object.colour ≡ colour

abbrev pub BeginsNone : Heap → ℕ → Type 0
BeginsNone h base = (object : StoredObject) → Begins h.objects base object → ⊥

-- a gray object is seen at a base, and a white one
pub record IsGrayAt (objects : ObjectsByBase) (base : ℕ) : Type 0 where
  pub object : ObjectView
  pub begins : Begins objects base object
  pub is : object.colour ≡ Gray

pub record IsWhiteAt (objects : ObjectsByBase) (base : ℕ) : Type 0 where
  pub object : ObjectView
  pub begins : Begins objects base object
  pub is : object.colour ≡ White

-- no gray object begins there
abbrev pub IsNoneGrayAt : Heap → ℕ → Type 0
IsNoneGrayAt h base = (object : StoredObject) → Begins h.objects base object → object.colour ≢ Gray

-- the words of the stack, and those of the scanned areas
abbrev pub root_words : Cells → Areas → Heap → List ℕ
root_words stack areas heap = stack.words ++ flat_map scanned_cells_of (views_of_areas areas heap.raw)

-- The scanned areas whose numbers are below one are shaded, two steps a word.
pub record AreShaded (areas : Areas) (before after : Heap) (from start steps : ℕ) : Type 0 where
  pub words : List ℕ
  pub grayed : IsGrayed before after words
  pub rest : words ++ scanned_words_from areas before.raw from ≡ scanned_words_from areas before.raw 0
  pub paid : steps ≡ start + 2 * length words
