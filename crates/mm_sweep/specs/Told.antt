-- What a journal is told of a command, call by call.
use Rattle.std.specs.Prelude.{◌≡◌, ℕ, ◌%◌, ◌^◌, List, map, length, sum, ⊤}
use Rattle.std.specs.List.{AllByRecursion}
use Rattle.mm_model.specs.declared.line.Line.{Line}
use Rattle.mm_model.specs.declared.line.Line.TheVariants as lines
use Rattle.mm_model.specs.declared.line.Phase.{Phase}
use Rattle.mm_model.specs.Views.ByBase.{Begins}
use Rattle.mm_model.specs.Views.ObjectView.{ObjectView, ObjectsByBase}

-- what one call tells
pub data Told : Type 0 where
  -- the object at a base is about to be freed, and its slots hold these words
  Finalize : (base : ℕ) → (words : List ℕ) → Told
  -- a phase frees so many objects
  PhaseOf : (what : Phase) → (freed : ℕ) → Told
  -- the object at a base is freed
  Free : (base : ℕ) → Told
  -- so many slots of the object at a base were scanned
  Scan : (base slots : ℕ) → Told

-- the line of a log that says so
abbrev pub line_told : Told → Line
line_told (Finalize base words) = lines.Final base (length words) (sum words % 2 ^ 32)
line_told (PhaseOf what freed) = lines.Phase what freed
line_told (Free base) = lines.Free base
line_told (Scan base slots) = lines.Scan base slots

-- the words that a finalizer is told are those of the object at that base
abbrev pub HasItsWords : ObjectsByBase → Told → Type 0
HasItsWords objects (Finalize base words) = (object : ObjectView) × Begins objects base object × (words ≡ object.words)
HasItsWords objects _ = ⊤

-- A journal was told of these lines, in their order, and with the line of each finalizer the words of the object.
pub record IsToldOf (tells : List Told → Type 0) (objects : ObjectsByBase) (log : List Line) : Type 0 where
  pub told : List Told
  pub was : tells told
  pub lines_are : map line_told told ≡ log
  pub words_are : AllByRecursion (HasItsWords objects) told
