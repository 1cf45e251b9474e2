-- How a replay ends, and what it then has read and written.
use Rattle.std.specs.Prelude.{◌≡◌, ℕ, ◌<◌, ◌≤◌, Bool, true, false, IsTrue, ◌⊎◌, List, [], ◌++◌, length, Option}
use Rattle.std.specs.Prelude.{Some, None, IfSome, Result, Ok, Err, ⊤}
use Rattle.mm_model.specs.declared.command.Command.{Command}
use Rattle.mm_model.specs.declared.line.Line.{Line}
use Rattle.mm_model.specs.State.{State}
use Rattle.mm_model.specs.Good.{IsGood}
use Rattle.mm_model.specs.Logs.Log.{IsLegal}
use Rattle.mm_model.specs.Step.{IsStep}
use Rattle.mm_model.specs.Views.View.{Shows}
use Rattle.mm_model.specs.Logs.Spelling.{spelling_of}
use Rattle.mm_model.specs.Logs.Trace.{lines_of, complete_lines, FaultAt}
use Rattle.mm_io.specs.Faults.{Rose}
use Rattle.mm_io.specs.Told.{Appends, AppendsFront, Gives}
use Rattle.mm_gc.specs.Gc.{Gc, view_of_gc}
use Rattle.mmgc.specs.Writing.{Kept}
use Rattle.mm_model.specs.Logs.Turns.{Turn}
use Rattle.mm_pace.specs.Paced.{AreCommandsOf, AreOwn}
use Rattle.mm_sites.specs.Births.{birth_sites}
use Rattle.mm_sites.specs.Lines.{sites_of_lines}
use Rattle.mmgc.specs.Added.{SitedState, Task, with_total, IsFollowed}
use Rattle.mmgc.specs.Replaying.{reading_of, most_bytes, Start, GrewSince, Moment, Stopped, Progress}
use Rattle.mmgc.specs.declared.replay.End.{End}
use Rattle.mmgc.specs.declared.replay.End.TheVariants.{Whole, Fault, ReadFailed, WriteFailed, TooLong}

-- the bytes that a source had left and the faults that it had counted, at two moments
pub record Input : Type 0 where
  pub left : Option (List ℕ)
  pub left_after : Option (List ℕ)
  pub faults : ℕ
  pub faults_after : ℕ

-- the bytes that a sink had taken and the faults that it had counted, at two moments, and what it then had passed on
pub record Output : Type 0 where
  pub taken : Option (List ℕ)
  pub taken_after : Option (List ℕ)
  pub passed_after : Option (List ℕ)
  pub faults : ℕ
  pub faults_after : ℕ

-- How far an input was carried out: the bytes whose lines were, the bytes that were read behind them, and whether no
-- more come.
pub record Reach : Type 0 where
  pub read : List ℕ
  pub over : List ℕ
  pub at_end : Bool

-- the lines of bytes of which no more come, or of which more may come
abbrev pub lines_seen : Bool → List ℕ → List (List ℕ)
lines_seen true bytes = lines_of bytes
lines_seen false bytes = complete_lines bytes

abbrev pub lines_in : Reach → List (List ℕ)
lines_in reach = lines_seen reach.at_end reach.read

-- the commands that these lines say, up to the first fault
abbrev pub commands_in : Reach → List Command
commands_in reach = (reading_of (lines_in reach)).commands

-- where the source tells its bytes, none are left
abbrev pub NothingLeft : Option (List ℕ) → Type 0
NothingLeft left = IfSome left (λ rest. rest ≡ [])

-- All that was read was carried out, and the source counted no fault.
abbrev pub IsClean : Reach → Input → Type 0
IsClean reach input = (reach.over ≡ []) × (input.faults_after ≡ input.faults)

-- What was carried out isn't more than a trace has. What was read behind it is at most one read, and nothing where no
-- more come.
pub record IsWithinTrace (reach : Reach) : Type 0 where
  pub fits : length reach.read ≤ most_bytes
  pub one_read : length reach.over ≤ 4096
  pub none_over : reach.at_end ≡ true → reach.over ≡ []

-- A read took the bytes past the most that a trace has. What stood before it was carried out, up to the last whole
-- line.
pub record PassesLength (reach : Reach) (input : Input) : Type 0 where
  pub more_follow : reach.at_end ≡ false
  pub passes : most_bytes < length (reach.read ++ reach.over)
  pub clean : input.faults_after ≡ input.faults

-- Why a replay ended so.
abbrev pub HasCause : End → Reach → Input → Type 0
HasCause Whole reach input = (reach.at_end ≡ true) × IsClean reach input
HasCause (Fault line fault) reach input = IsClean reach input
HasCause ReadFailed reach input =
    (reach.at_end ≡ false) × (reach.over ≡ []) × Rose input.faults input.faults_after
HasCause WriteFailed reach input = ⊤
HasCause TooLong reach input = PassesLength reach input

-- the first fault of the lines that were carried out, which for a failed write can be any or none
abbrev pub IsFaultOf : End → Option FaultAt → Type 0
IsFaultOf (Fault line fault) found = found ≡ Some (record { line = line; fault = fault })
IsFaultOf WriteFailed found = ⊤
IsFaultOf _ found = found ≡ None

-- The log of an end, by the lines of its commands: a total line follows them where all was carried out, and else none.
-- Where a write failed, it was meant to follow only if the input was read to its end and has no fault.
abbrev pub IsLogOf : End → Reach → List Line → State → List Line → Type 0
IsLogOf Whole reach groups state log = log ≡ with_total groups state
IsLogOf WriteFailed reach groups state log =
    (log ≡ groups) ⊎ ((reach.at_end ≡ true) × ((reading_of (lines_in reach)).fault ≡ None)
    × (log ≡ with_total groups state))
IsLogOf _ reach groups state log = log ≡ groups

-- All that the sink took was passed on.
abbrev pub IsPassedOn : Output → Type 0
IsPassedOn output = output.passed_after ≡ output.taken_after

-- All of the text was written and passed on, and no fault counted, or a front of it and a fault.
abbrev pub IsWritten : End → Output → List ℕ → Type 0
IsWritten WriteFailed output text =
    Rose output.faults output.faults_after × AppendsFront output.taken output.taken_after text
IsWritten _ output text =
    (output.faults_after ≡ output.faults) × Appends output.taken output.taken_after text × IsPassedOn output

-- The state, and the sites of its objects: each has the site that the lines before the line of its birth name last.
-- The turns are those of the commands that the lines say.
abbrev pub sited_by : State → List Turn → Reach → SitedState
sited_by state own reach = record { state = state; sites = birth_sites own (sites_of_lines (lines_in reach)) }

-- How a replay ended, by what the source gave, what the sink took, and what the heap shows.
pub record Replayed (end : End) (task : Task) (input : Input) (output : Output) (heap : Gc) : Type 0 where
  pub reach : Reach
  pub within : IsWithinTrace reach
  pub given : Gives input.left input.left_after (reach.read ++ reach.over)
  pub nothing_left : reach.at_end ≡ true → NothingLeft input.left_after
  pub cause : HasCause end reach input
  pub fault_is : IsFaultOf end (reading_of (lines_in reach)).fault
  -- the commands that were carried out, their lines, and the state after them
  pub commands : List Command
  pub groups : List Line
  pub carried : AreCommandsOf task.extras.rate task.settings (commands_in reach) groups commands
  -- the turns of the trace's own commands
  pub own : List Turn
  pub own_are : AreOwn task.extras.rate task.settings (commands_in reach) groups commands carried own
  pub state : State
  pub legal : IsLegal IsStep task.settings commands groups state
  pub good : IsGood state
  pub shows : Shows (view_of_gc heap) state
  pub log : List Line
  pub log_is : IsLogOf end reach groups state log
  -- what stands behind the log
  pub added : List ℕ
  pub follows : IsFollowed task.extras groups (sited_by state own reach) log added
  pub written : IsWritten end output (spelling_of log ++ added)

-- A replay that had taken these bytes came to its end with the next piece, or with none.
pub record Ended (end : End) (start : Start) (bytes : List ℕ) (input : Input) (now : Moment) : Type 0 where
  pub reach : Reach
  pub within : IsWithinTrace reach
  pub piece : List ℕ
  pub bytes_are : reach.read ++ reach.over ≡ bytes ++ piece
  pub given : Gives input.left input.left_after piece
  pub nothing_left : reach.at_end ≡ true → NothingLeft input.left_after
  pub cause : HasCause end reach input
  pub fault : Option FaultAt
  pub fault_is : IsFaultOf end fault
  pub broken : end ≡ WriteFailed → IsTrue now.kept.broken
  pub stopped : Stopped start (lines_in reach) fault now.driver now.kept

-- A replay that had taken these bytes took the next piece of so many bytes, without a fault.
pub record Took (n : ℕ) (start : Start) (bytes : List ℕ) (input : Input) (now : Moment) : Type 0 where
  pub piece : List ℕ
  pub given : Gives input.left input.left_after piece
  pub count : length piece ≡ n
  pub some : 0 < n
  pub clean : input.faults_after ≡ input.faults
  pub progress : Progress start (bytes ++ piece) now

-- what a turn came to: more progress, or the end
abbrev pub Turns : Result ℕ End → Start → List ℕ → Input → Moment → Type 0
Turns (Ok n) start bytes input now = Took n start bytes input now
Turns (Err end) start bytes input now = Ended end start bytes input now

-- The log of an end went to the journal, and the heap shows the state after it.
pub record Logged (end : End) (start : Start) (reach : Reach) (heap : Gc) (kept : Kept) : Type 0 where
  pub commands : List Command
  pub groups : List Line
  pub carried : AreCommandsOf start.extras.rate start.settings (commands_in reach) groups commands
  pub own : List Turn
  pub own_are : AreOwn start.extras.rate start.settings (commands_in reach) groups commands carried own
  pub state : State
  pub legal : IsLegal IsStep start.settings commands groups state
  pub good : IsGood state
  pub shows : Shows (view_of_gc heap) state
  pub log : List Line
  pub log_is : IsLogOf end reach groups state log
  pub added : List ℕ
  pub follows : IsFollowed start.extras groups (sited_by state own reach) log added
  pub written : GrewSince start kept (spelling_of log ++ added)
