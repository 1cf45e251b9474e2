-- What a pacer counts along turns.
use Rattle.std.specs.Prelude.{◌≡◌, ℕ, ◌+◌, ◌*◌, ◌%◌, ◌≤◌, ◌==◌, Bool, not, if◌then◌else◌, IsTrue, List}
use Rattle.std.specs.List.{sum_by}
use Rattle.mm_model.specs.State.{State}
use Rattle.mm_model.specs.Logs.Turns.{Turn, births_of}
use Rattle.mm_pace.specs.declared.pace.Pace.{Pace}
use Rattle.mm_pace.specs.Work.{is_running}
use Rattle.mm_pace.specs.Recent.{extent_born, since, work_begun}

-- the bytes that were born in a turn
abbrev pub bytes_of : Turn → ℕ
bytes_of turn = sum_by extent_born (births_of turn)

-- The pacer counts what the turns say that lead to a state. Of the last turn so many bytes were born for which no step
-- was asked yet.
pub record Counts (turns : List Turn) (a : State) (unpaid : ℕ) (pace : Pace) : Type 0 where
  pub since : pace.since ≡ since turns
  pub work : IsTrue (is_running a) → pace.work ≡ work_begun turns
  pub last : IsTrue (is_running a) → pace.last ≡ unpaid
  -- an object has at most so many bytes, and a command bears at most one
  pub few : pace.since ≤ 4198400 * a.commands

-- whether a cycle began or ended, by whether one ran before and whether one runs now
abbrev pub changes : Bool → Bool → Bool
changes ran runs = if ran then not runs else runs

-- what a pacer counts after a command: whether a cycle ran before and runs now, the work of one that began, and the
-- bytes that were born
pub record IsNoted (ran runs : Bool) (begun bytes : ℕ) (old new : Pace) : Type 0 where
  pub rate : new.rate ≡ old.rate
  pub since : new.since ≡ (if changes ran runs then 0 else old.since) + bytes
  pub work : IsTrue runs → new.work ≡ (if ran then old.work else begun)
  pub last : IsTrue runs → new.last ≡ (if bytes == 0 then (if ran then old.last else 0) else bytes)
