-- What the parts of a command answer before anything is done.
use Rattle.std.specs.Prelude.{◌≡◌, ℕ, ◌<◌, ◌≤◌, IsTrue, List, length, Result, Ok, Err, Some, None, slice_get}
use Rattle.mm_model.specs.declared.refusal.Refusal.{Refusal}
use Rattle.mm_model.specs.declared.refusal.Refusal.TheVariants as refusals
use Rattle.mm_model.specs.Words.{falls}
use Rattle.mm_model.specs.Views.ByBase.{Begins}
use Rattle.mm_model.specs.Views.ViewWords.{view_meant}
use Rattle.mm_object.specs.declared.heap.Found.{Found}
use Rattle.mm_object.specs.Object.{StoredObject, shape_of, view_of_stored}
use Rattle.mm_gc.specs.declared.reading.Meant.{Meant}
use Rattle.mm_roots.specs.Stack.{pushed}
use Rattle.mm_gc.specs.Gc.{Gc, view_of_gc}

-- the word of a stack cell, or that there is none
abbrev pub CellAnswer : List ℕ → ℕ → Result ℕ Refusal → Type 0
CellAnswer stack i (Ok word) = slice_get stack i ≡ Some word
CellAnswer stack i (Err because) = (because ≡ refusals.NoCell) × (length stack ≤ i)

-- The object that a stack cell means: the word of the cell, the base and the shape.
pub record IsMeant (gc : Gc) (i word : ℕ) (found : Found) : Type 0 where
  pub cell : slice_get gc.stack.words i ≡ Some word
  pub object : StoredObject
  pub begins : Begins gc.region.heap.objects found.base object
  pub shape : found.shape ≡ shape_of object
  pub falls : IsTrue (falls word found.base object.extent)
  pub meant : view_meant (view_of_gc gc) i ≡ Some (record { base = found.base; value = view_of_stored object })

-- the cell has a word that means nothing
pub record MeansNothing (gc : Gc) (i : ℕ) : Type 0 where
  pub word : ℕ
  pub cell : slice_get gc.stack.words i ≡ Some word
  pub nothing : view_meant (view_of_gc gc) i ≡ None

-- it means an object, or there is no such cell, or it means nothing
abbrev pub MeantAnswer : Gc → ℕ → Result Meant Refusal → Type 0
MeantAnswer gc i (Ok meant) = IsMeant gc i meant.word meant.found
MeantAnswer gc i (Err refusals.NoCell) = length gc.stack.words ≤ i
MeantAnswer gc i (Err refusals.Nothing) = MeansNothing gc i
MeantAnswer gc i (Err because) = ⊥

-- the word is the answer, and was pushed, for which there was room
pub record IsPushed (old new : Gc) (word answer : ℕ) : Type 0 where
  pub answer_is : answer ≡ word
  pub room : length old.stack.words < old.settings.stack
  pub same : new ≡ record old { stack = pushed old.stack word }

-- there was no room, and nothing changed
pub record IsStackFull (old new : Gc) (because : Refusal) : Type 0 where
  pub because_is : because ≡ refusals.StackFull
  pub full : length old.stack.words ≡ old.settings.stack
  pub same : new ≡ old

-- a word is pushed, or the stack is full
abbrev pub PushAnswer : Gc → Gc → ℕ → Result ℕ Refusal → Type 0
PushAnswer old new word (Ok answer) = IsPushed old new word answer
PushAnswer old new word (Err because) = IsStackFull old new because
