-- What a slide does: the cells below the top go, and the top stays.
use Rattle.std.specs.Prelude.{◌≡◌, ℕ, ◌<◌, ◌≤◌, List, [], ◌∷◌, drop, length, Result, Ok, Err}
use Rattle.mm_model.specs.declared.refusal.Refusal.{Refusal}
use Rattle.mm_model.specs.declared.refusal.Refusal.TheVariants as refusals
use Rattle.mm_model.specs.State.{State}
use Rattle.mm_model.specs.Good.{IsGood}
use Rattle.mm_model.specs.Views.View.{View, Shows}
use Rattle.mm_roots.specs.Stack.{Cells}
use Rattle.mm_gc.specs.Gc.{Gc, view_of_gc}

-- a stack without the k cells below its top
abbrev pub without_below : {X : Type 0} → ℕ → List X → List X
without_below k [] = []
without_below k (top ∷ below) = top ∷ drop k below

-- so of a state, in which the top keeps its origin, of a view, and of the stack of a heap
abbrev pub slid : ℕ → State → State
slid k a = record a { stack = without_below k a.stack }

abbrev pub view_slid : ℕ → View → View
view_slid k view = record view { stack = without_below k view.stack }

abbrev pub cells_slid : ℕ → Cells → Cells
cells_slid k s = record s { words = without_below k s.words }

-- the state without those cells is good, and the heap shows it
pub record IsSlidState (new : View) (k : ℕ) (a : State) : Type 0 where
  pub good : IsGood (slid k a)
  pub shows : Shows new (slid k a)

-- There are k cells below the top, and they go, in words alone, and in every good state that the heap shows.
pub record IsSlid (old new : View) (k : ℕ) : Type 0 where
  pub cells : k < length old.stack
  pub view : new ≡ view_slid k old
  pub states : (a : State) → IsGood a → Shows old a → IsSlidState new k a

-- there are fewer, and nothing changed
pub record HasFewerBelow (old new : Gc) (k : ℕ) (because : Refusal) : Type 0 where
  pub because_is : because ≡ refusals.NoCell
  pub fewer : length old.stack.words ≤ k
  pub same : new ≡ old

abbrev pub SlideAnswer : {X : Type 0} → Gc → Gc → ℕ → Result X Refusal → Type 0
SlideAnswer old new k (Ok x) = IsSlid (view_of_gc old) (view_of_gc new) k
SlideAnswer old new k (Err because) = HasFewerBelow old new k because
