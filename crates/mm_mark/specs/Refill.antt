-- Filling the queue again from the heap, once objects were left out, and what a choice of an object costs.
use Rattle.std.specs.Prelude.{◌≡◌, ◌+◌, ◌-◌, ◌*◌, ◌/◌, ◌≤◌, ℕ, ◌∷◌, length, Some, None}
use Rattle.mm_model.specs.declared.object.Colour.TheVariants.{Gray}
use Rattle.mm_model.specs.Views.ByBase.{Begins}
use Rattle.mm_model.specs.Views.ObjectView.{ObjectView, ObjectsByBase}
use Rattle.mm_mark.specs.Marker.{Marker}

-- no gray object begins before a base
abbrev pub NoneGrayBefore : ObjectsByBase → ℕ → Type 0
NoneGrayBefore objects first =
    (base : ℕ) (object : ObjectView) → Begins objects base object → object.colour ≡ Gray → first ≤ base

-- an object is the newest entry
abbrev pub IsPut : Marker → Marker → ℕ → Type 0
IsPut before after base = after ≡ record before { queue = base ∷ before.queue }

-- the queue is full, and what begins at this base or behind it may be left out
abbrev pub IsStopped : Marker → Marker → ℕ → Type 0
IsStopped before after base = (length before.queue ≡ before.room) × (after ≡ record before { left_out = Some base })

-- the queue is full, or nothing is left out of it any more
pub data IsRefilled (marker : Marker) : Type 0 where
  Is_full : length marker.queue ≡ marker.room → IsRefilled marker
  Is_through : marker.left_out ≡ None → IsRefilled marker

-- Objects were left out, and the heap was walked from the first of their bases on. Each page that is left from there
-- on may cost a step, and each object that was found two.
pub record IsWalked (before after : Marker) (pages old new : ℕ) : Type 0 where
  pub next : ℕ
  pub left : before.left_out ≡ Some next
  pub refilled : IsRefilled after
  pub cost : new ≤ old + 2 * (2 + length after.queue) + (pages - next / 4096)

-- Each entry that is taken off the queue costs two steps. Only where all were taken may the heap be walked.
pub data IsChoiceCost (before after : Marker) (pages old new : ℕ) : Type 0 where
  Is_queued : after.left_out ≡ before.left_out
      → new + 2 * length after.queue ≤ old + 2 * length before.queue → IsChoiceCost before after pages old new
  Is_walked : IsWalked before after pages (old + 2 * length before.queue) new
      → IsChoiceCost before after pages old new

-- and each slot that is scanned then costs two
pub record IsScanCost (before : Marker) (pages slots old new : ℕ) : Type 0 where
  pub chosen : Marker
  pub choice : ℕ
  pub choosing : IsChoiceCost before chosen pages old choice
  pub cost : new ≤ choice + 2 + 2 * slots
