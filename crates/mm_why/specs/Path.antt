-- Why an object is kept: paths that lead to it from a word outside of objects.
use Rattle.std.specs.Prelude.{◌≡◌, ℕ, ◌+◌, ◌≤◌, IsTrue, List, [], ◌∷◌, ◌++◌, length, Some, slice_get}
use Rattle.std.specs.List.{flat_map, sum_by}
use Rattle.mm_model.specs.Words.{falls}
use Rattle.mm_model.specs.Views.ByBase.{Begins, based}
use Rattle.mm_model.specs.Views.ObjectView.{ObjectView, ObjectsByBase, scanned_words_of}
use Rattle.mm_model.specs.Views.View.{View, AreaView}
use Rattle.mm_model.specs.Views.ViewWords.{scanned_cells_of}
use Rattle.mm_object.specs.Object.{views_of}
use Rattle.mm_object.specs.Heap.{Heap}
use Rattle.mm_roots.specs.Stack.{Cells}
use Rattle.mm_roots.specs.Areas.{Areas}
use Rattle.mm_roots.specs.Views.{views_of_areas}
use Rattle.mm_why.specs.declared.hop.Via.{Via}
use Rattle.mm_why.specs.declared.hop.Via.TheVariants.{Stack, Area, Slot}
use Rattle.mm_why.specs.declared.hop.Hop.{Hop}

-- what paths go over: the live objects, the words of the stack from the top, and the areas
pub record Shown : Type 0 where
  pub objects : ObjectsByBase
  pub stack : List ℕ
  pub areas : List AreaView

-- what a heap, a stack and areas show
abbrev pub shown_by : Heap → Cells → Areas → Shown
shown_by heap stack areas =
    record { objects = views_of heap.objects; stack = stack.words; areas = views_of_areas areas heap.raw }

-- what a view shows of them
abbrev pub shown_in : View → Shown
shown_in view = record { objects = view.objects; stack = view.stack; areas = view.areas }

-- the word falls in the live object that begins at the base
pub record FallsIn (objects : ObjectsByBase) (word base : ℕ) : Type 0 where
  pub object : ObjectView
  pub begins : Begins objects base object
  pub within : IsTrue (falls word base object.extent)

-- a cell of the scanned area under a number has this word
pub record IsAreaWord (areas : List AreaView) (number cell word : ℕ) : Type 0 where
  pub place : ℕ
  pub area : AreaView
  pub is : slice_get areas place ≡ Some area
  pub numbered : area.number ≡ number
  pub holds : slice_get (scanned_cells_of area) cell ≡ Some word

-- the object at a base is the next one, by this word
abbrev pub hop_by : Via → ℕ → Hop
hop_by via base = record { via = via; base = base }

-- A path to the object at a base: the hops from the first object on, of which the last is this object.
pub data IsPath (shown : Shown) : List Hop → ℕ → Type 0 where
  -- the word of a stack cell falls in the first object
  From_stack : (cell word base : ℕ) → slice_get shown.stack cell ≡ Some word → FallsIn shown.objects word base
      → IsPath shown (hop_by (Stack cell) base ∷ []) base
  -- or the word of a cell of a scanned area does
  From_area : (number cell word base : ℕ) → IsAreaWord shown.areas number cell word
      → FallsIn shown.objects word base → IsPath shown (hop_by (Area number cell) base ∷ []) base
  -- the word of a scanned slot of the object before falls in each later one
  By_slot : (hops : List Hop) (by : ℕ) (holder : ObjectView) (slot word base : ℕ) → IsPath shown hops by
      → Begins shown.objects by holder → slice_get (scanned_words_of holder) slot ≡ Some word
      → FallsIn shown.objects word base → IsPath shown (hops ++ hop_by (Slot slot) base ∷ []) base

-- the hops are a path of this length
pub record IsPathOf (shown : Shown) (base count : ℕ) (hops : List Hop) : Type 0 where
  pub path : IsPath shown hops base
  pub length : length hops ≡ count

-- no path leads to the object
abbrev pub HasNoPath : Shown → ℕ → Type 0
HasNoPath shown base = (hops : List Hop) → IsPath shown hops base → ⊥

-- the length of a shortest path: there is one of this length, and none is shorter
pub record IsLeastLength (shown : Shown) (base count : ℕ) : Type 0 where
  pub hops : List Hop
  pub path : IsPathOf shown base count hops
  pub least : (others : List Hop) → IsPath shown others base → count ≤ length others

-- the words outside of objects at which paths begin
abbrev pub root_words_of : Shown → List ℕ
root_words_of shown = shown.stack ++ flat_map scanned_cells_of shown.areas

-- how many scanned slots the live objects have
abbrev pub scanned_slots_of : ObjectsByBase → ℕ
scanned_slots_of objects = sum_by (λ o. length (scanned_words_of o.value)) (based objects)

-- how much there is to look at: the cells of the stack and of scanned areas, the live objects, their scanned slots
abbrev pub extent_of_search : Shown → ℕ
extent_of_search shown =
    length (root_words_of shown) + length (based shown.objects) + scanned_slots_of shown.objects
