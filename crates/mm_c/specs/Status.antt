-- The numbers by which C tells how a call went.
use Rattle.std.specs.Prelude.{ℕ}
use Rattle.mm_model.specs.declared.refusal.Refusal.{Refusal}
use Rattle.mm_model.specs.declared.refusal.Refusal.TheVariants as refusals
use Rattle.mm_gc.specs.declared.bare_words.WordsFault.{WordsFault}
use Rattle.mm_gc.specs.declared.bare_words.WordsFault.TheVariants as faults
use Rattle.mm_c.specs.declared.status.Status.{Status}
use Rattle.mm_c.specs.declared.status.Status.TheVariants as statuses

-- 0 where it was done, up to 99 where the heap refused it, and from 100 on where it didn't come to the heap
abbrev pub number : Status → ℕ
number statuses.Done = 0
number statuses.NoCell = 1
number statuses.Shape = 2
number statuses.NoArea = 3
number statuses.Nothing = 4
number statuses.Outside = 5
number statuses.NoWeak = 6
number statuses.NoSlot = 7
number statuses.NotCounted = 8
number statuses.StackFull = 9
number statuses.AreasFull = 10
number statuses.Full = 11
number statuses.Busy = 12
number statuses.Idle = 13
number statuses.Scanned = 14
number statuses.Closed = 100
number statuses.Open = 101
number statuses.NoMemory = 102
number statuses.BadSettings = 103
number statuses.WornOut = 104
number statuses.NoFinal = 105
number statuses.FinalsLost = 106

-- each refusal has a status of its own
abbrev pub status_of : Refusal → Status
status_of refusals.NoCell = statuses.NoCell
status_of refusals.Shape = statuses.Shape
status_of refusals.NoArea = statuses.NoArea
status_of refusals.Nothing = statuses.Nothing
status_of refusals.Outside = statuses.Outside
status_of refusals.NoWeak = statuses.NoWeak
status_of refusals.NoSlot = statuses.NoSlot
status_of refusals.NotCounted = statuses.NotCounted
status_of refusals.StackFull = statuses.StackFull
status_of refusals.AreasFull = statuses.AreasFull
status_of refusals.Full = statuses.Full
status_of refusals.Busy = statuses.Busy
status_of refusals.Idle = statuses.Idle

-- so has an object whose words aren't read or written in bulk
abbrev pub status_of_fault : WordsFault → Status
status_of_fault (faults.Refused because) = status_of because
status_of_fault faults.Scanned = statuses.Scanned
