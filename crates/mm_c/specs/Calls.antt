-- What the calls of C promise.
use Rattle.std.specs.Prelude.{◌≡◌, ℕ, ◌-◌, ◌^◌, Bool, true, false, if◌then◌else◌, Option, Some, None, Result, Ok, Err}
use Rattle.mm_model.specs.declared.command.Command.{Command}
use Rattle.mm_model.specs.declared.command.Command.TheVariants as commands
use Rattle.mm_model.specs.declared.reply.Reply.{Reply}
use Rattle.mm_model.specs.Places.Limits.{IsWithinLimits}
use Rattle.mm_model.specs.State.{empty_state}
use Rattle.mm_model.specs.Views.View.{Shows}
use Rattle.mm_gc.specs.Ending.{Ends}
use Rattle.mm_gc.specs.Gc.{view_of_gc}
use Rattle.mm_gc.specs.Rows.{Tells}
use Rattle.mm_c.specs.declared.answer.MmAnswer.{MmAnswer}
use Rattle.mm_c.specs.declared.finals.MmFinal.{MmFinal}
use Rattle.mm_c.specs.declared.owned.Owned.{Owned}
use Rattle.mm_c.specs.declared.settings.MmSettings.{MmSettings}
use Rattle.mm_c.specs.declared.status.Status.{Status}
use Rattle.mm_c.specs.declared.status.Status.TheVariants as statuses
use Rattle.mm_c.specs.Answer.{bare, answer_of}
use Rattle.mm_c.specs.Finals.{none_waits, Keeps, IsTaken}
use Rattle.mm_c.specs.Flag.{flag}
use Rattle.mm_c.specs.Settings.{settings_of}
use Rattle.mm_c.specs.Status.{number}

-- a heap is open, and a call does this to it, or none is
pub data OnHeap (before after : Option Owned) (does : Owned → Owned → Type 0) (otherwise : Type 0) : Type 0 where
  OnOpen : (old new : Owned) → before ≡ Some old → after ≡ Some new → does old new
      → OnHeap before after does otherwise
  OnNone : before ≡ None → after ≡ None → otherwise → OnHeap before after does otherwise

-- The command's row was carried out, of the finalizers that ran what could be kept waits, and C is told the reply.
pub record Carries (old new : Owned) (command : Command) (answer : MmAnswer) : Type 0 where
  pub reply : Reply
  pub row : Tells old.gc new.gc command reply (Keeps old.finals new.finals)
  pub answer_is : answer ≡ answer_of reply

-- a command by which an object may be born
abbrev pub bears : Command → Bool
bears (commands.New shape) = true
bears (commands.Weak i) = true
bears _ = false

-- Objects that were born are counted in 64 bits, and no more of them can be.
pub record IsWornOut (old new : Owned) (command : Command) (answer : MmAnswer) : Type 0 where
  pub born : old.gc.born ≡ 2 ^ 64 - 1
  pub bears_is : bears command ≡ true
  pub same : new ≡ old
  pub answer_is : answer ≡ bare statuses.WornOut

pub data Serves (old new : Owned) (command : Command) (answer : MmAnswer) : Type 0 where
  Carried_out : Carries old new command answer → Serves old new command answer
  Worn_out : IsWornOut old new command answer → Serves old new command answer

-- a call that is a command
abbrev pub IsCall : Option Owned → Option Owned → Command → MmAnswer → Type 0
IsCall before after command answer =
    OnHeap before after (λ old new. Serves old new command answer) (answer ≡ bare statuses.Closed)

-- A heap that shows the empty state is made where none is open, the settings are within their limits, and there is
-- memory.
pub data Opens (before after : Option Owned) (settings : MmSettings) (status : ℕ) : Type 0 where
  Opened : (owned : Owned) → before ≡ None → after ≡ Some owned
      → Shows (view_of_gc owned.gc) (empty_state (settings_of settings)) → owned.finals ≡ none_waits
      → status ≡ number statuses.Done → Opens before after settings status
  Was_open : (owned : Owned) → before ≡ Some owned → after ≡ Some owned → status ≡ number statuses.Open
      → Opens before after settings status
  Bad_settings : before ≡ None → after ≡ None → (IsWithinLimits (settings_of settings) → ⊥)
      → status ≡ number statuses.BadSettings → Opens before after settings status
  No_memory : before ≡ None → after ≡ None → IsWithinLimits (settings_of settings)
      → status ≡ number statuses.NoMemory → Opens before after settings status

-- whether there is a heap for a call
abbrev pub status_on : Option Owned → Status
status_on before = if flag before then statuses.Done else statuses.Closed

-- what the end of a command does: a reap where there are as many zero-count objects as the threshold says
abbrev pub Ticks : Option Owned → Option Owned → ℕ → Type 0
Ticks before after status =
    OnHeap before after
    (λ old new. Ends old.gc new.gc false (Keeps old.finals new.finals) × (status ≡ number statuses.Done))
    (status ≡ number statuses.Closed)

abbrev pub status_in : Result MmFinal Status → Status
status_in (Ok next) = statuses.Done
status_in (Err status) = status

-- what is at the place that C gives for a record
abbrev pub left_at : MmFinal → Result MmFinal Status → MmFinal
left_at out (Ok next) = next
left_at out (Err status) = out

-- The next record goes to the place that C gives, which stays where none waits. The heap stays.
pub record HandsOut (old new : Owned) (status : ℕ) (out_old out_new : MmFinal) : Type 0 where
  pub taken : Result MmFinal Status
  pub taken_is : IsTaken old.finals new.finals taken
  pub same : new.gc ≡ old.gc
  pub status_is : status ≡ number (status_in taken)
  pub out_is : out_new ≡ left_at out_old taken

abbrev pub HandsOutOf : Option Owned → Option Owned → ℕ → MmFinal → MmFinal → Type 0
HandsOutOf before after status out_old out_new =
    OnHeap before after (λ old new. HandsOut old new status out_old out_new)
    ((status ≡ number statuses.Closed) × (out_new ≡ out_old))
