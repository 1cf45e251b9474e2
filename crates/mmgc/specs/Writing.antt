-- What a log writer keeps, and what its calls never undo.
use Rattle.std.specs.Prelude.{◌≡◌, ℕ, ◌≤◌, ◌⊎◌, Bool, true, false, IsTrue, List, ◌++◌, Option, Some, None}
use Rattle.mm_io.specs.Faults.{Rose}
use Rattle.mm_io.specs.Told.{Appends}

-- what a log writer keeps, where its sink tells it, and whether it is broken
pub record Kept : Type 0 where
  pub bytes : Option (List ℕ)
  pub broken : Bool

-- The kept bytes are those of the sink, and while the writer is whole those that are pending too.
abbrev pub kept_bytes : Option (List ℕ) → Bool → List ℕ → Option (List ℕ)
kept_bytes None broken pending = None
kept_bytes (Some taken) false pending = Some (taken ++ pending)
kept_bytes (Some taken) true pending = Some taken

-- the bytes of a sink only grow
abbrev pub Grows : Option (List ℕ) → Option (List ℕ) → Type 0
Grows before now = (bytes : List ℕ) × Appends before now bytes

-- The writer goes on with the same sink, whose faults are counted and whose bytes only grow.
-- It becomes broken only where a fault was counted, stays so, and is whole only where none was.
pub record Keeps
    (sink_before sink_now : ℕ) (faults_before faults_now : ℕ)
    (taken_before taken_now : Option (List ℕ)) (broken_before broken_now : Bool) : Type 0 where
  pub same_sink : sink_now ≡ sink_before
  pub never_falls : faults_before ≤ faults_now
  pub grows : Grows taken_before taken_now
  pub cause : IsTrue broken_now → IsTrue broken_before ⊎ Rose faults_before faults_now
  pub stays_broken : IsTrue broken_before → IsTrue broken_now
  pub clean : broken_now ≡ false → faults_now ≡ faults_before
