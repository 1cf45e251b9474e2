-- What a part of a scan does, and what the parts of a step do together.
use Rattle.std.specs.Prelude.{◌≡◌, ℕ, List, [], ◌∷◌, length, Option, Some, None}
use Rattle.mm_model.specs.declared.line.Line.{Line}
use Rattle.mm_model.specs.Views.ByBase.{Based}
use Rattle.mm_model.specs.Views.ObjectView.{ObjectView}
use Rattle.mm_model.specs.Views.View.{View}
use Rattle.mm_model.specs.Views.ViewStep.{view_part_slots, view_part_done, ViewMayScan, ViewScans, NoGray}
use Rattle.mm_sweep.specs.Told.{Told, Scan, IsToldOf}

-- a part of so many slots of one object is scanned, of which the journal heard
pub record IsPartScanned (old new : View) (slots : ℕ) (heard : List Told → Type 0) : Type 0 where
  pub object : Based ObjectView
  pub may : ViewMayScan old object
  pub slots_are : slots ≡ length (view_part_slots old object)
  pub done : new ≡ view_part_done old object
  pub told : heard (Scan object.base slots ∷ [])

-- or no object is gray, and all stays
pub record HasNoneToScan (old new : View) (heard : List Told → Type 0) : Type 0 where
  pub none : NoGray old
  pub same : new ≡ old
  pub told : heard []

abbrev pub ScanAnswer : View → View → (List Told → Type 0) → Option ℕ → Type 0
ScanAnswer old new heard None = HasNoneToScan old new heard
ScanAnswer old new heard (Some slots) = IsPartScanned old new slots heard

-- parts were scanned that cost so much together, or all that there were
pub record ScansTo (old : View) (k : ℕ) (new : View) (heard : List Told → Type 0) : Type 0 where
  pub log : List Line
  pub scans : ViewScans old k log new
  pub told : IsToldOf heard old.objects log
