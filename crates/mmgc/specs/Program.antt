-- What a run promises of each of its ends.
use Rattle.std.specs.Prelude.{◌≡◌, ℕ, ◌⊎◌, List, Option, None, Some, IsSome, codes}
use Rattle.mm_model.specs.Logs.Faithful.{IsFaithful}
use Rattle.mm_io.specs.Faults.{Rose}
use Rattle.mm_io.specs.Told.{NamedFile, Chooses}
use Rattle.mm_gc.specs.Gc.{Gc}
use Rattle.mm_pace.specs.Paced.{AreInTime}
use Rattle.mmgc.specs.declared.program.Outcome.{Outcome}
use Rattle.mmgc.specs.declared.replay.End.{End}
use Rattle.mmgc.specs.declared.replay.End.TheVariants.{Whole, Fault, ReadFailed, WriteFailed, TooLong}
use Rattle.mmgc.specs.Added.{Task}
use Rattle.mmgc.specs.Run.{Input, IsPassedOn, Output, Replayed, commands_in}
use Rattle.mmgc.specs.declared.generator.GeneratedTrace.{GeneratedTrace}
use Rattle.mmgc.specs.Generator.{commands_of}
use Rattle.mmgc.specs.Generating.{Generated}
use Rattle.mmgc.specs.Telling.{end_text}
use Rattle.mmgc.specs.Words.{Choice, choice_of, choice_read}

-- the exit status of each end
abbrev pub status_of : End → ℕ
status_of Whole = 0
status_of (Fault line fault) = 1
status_of ReadFailed = 3
status_of WriteFailed = 4
status_of TooLong = 6

-- what went through the source and the sink of a run, and the file that the source could turn to
pub record Traffic : Type 0 where
  pub named : Option NamedFile
  pub input : Input
  pub output : Output

-- The input of a run is what the source has left, or the file that is asked for.
abbrev pub IsInput : Option (List ℕ) → Option NamedFile → Option (List ℕ) → Option (List ℕ) → Type 0
IsInput None named left bytes = bytes ≡ left
IsInput (Some name) named left bytes = Chooses left bytes named name

-- The sink took nothing, and no fault was counted there.
pub record IsUnwritten (output : Output) : Type 0 where
  pub taken : output.taken_after ≡ output.taken
  pub faults : output.faults_after ≡ output.faults

-- There was no memory. Nothing was read, though the file that is asked for may be open.
pub record LacksMemory (choice : Choice) (traffic : Traffic) (outcome : Outcome) (says : List ℕ → Type 0) :
    Type 0 where
  pub status : outcome.status ≡ 5
  pub no_heap : outcome.heap ≡ None
  pub text : says (codes "mmgc: out of memory\n")
  pub unread : (traffic.input.left_after ≡ traffic.input.left) ⊎ IsInput choice.file traffic.named traffic.input.left
      traffic.input.left_after
  pub unwritten : IsUnwritten traffic.output

-- An end at which nothing was written: that of a source that failed, unless the flush of the sink failed then.
abbrev pub EndsUnwritten : End → Output → Type 0
EndsUnwritten ReadFailed output = IsUnwritten output × IsPassedOn output
EndsUnwritten WriteFailed output =
    (output.taken_after ≡ output.taken) × Rose output.faults output.faults_after
EndsUnwritten _ output = ⊥

-- The file that is asked for couldn't be opened. Nothing was read or written, and the sink was flushed.
pub record FailsToOpen (choice : Choice) (traffic : Traffic) (outcome : Outcome) (says : List ℕ → Type 0) :
    Type 0 where
  pub replays : choice.generated ≡ None
  pub asked : IsSome choice.file
  pub end : End
  pub status : outcome.status ≡ status_of end
  pub no_heap : outcome.heap ≡ None
  pub text : says (end_text end)
  pub cause : Rose traffic.input.faults traffic.input.faults_after
  pub unread : traffic.input.left_after ≡ traffic.input.left
  pub ends : EndsUnwritten end traffic.output

-- what a choice asks of the replay of a trace
abbrev pub task_of : Choice → Task
task_of choice = record { settings = choice.settings; extras = choice.extras }

-- The input was replayed to this end, on the heap that is handed back. The lines of the commands that were carried out
-- are legal and keep what is promised of logs. Where cycles are paced, each ends in time.
pub record Replays (choice : Choice) (traffic : Traffic) (outcome : Outcome) (says : List ℕ → Type 0) : Type 0 where
  pub replays : choice.generated ≡ None
  pub end : End
  pub heap : Gc
  pub bytes : Option (List ℕ)
  pub input : IsInput choice.file traffic.named traffic.input.left bytes
  pub status : outcome.status ≡ status_of end
  pub heap_back : outcome.heap ≡ Some heap
  pub text : says (end_text end)
  pub replayed : Replayed end (task_of choice) (record traffic.input { left = bytes }) traffic.output heap
  pub faithful : IsFaithful choice.settings replayed.commands replayed.groups
  pub in_time : AreInTime choice.extras.rate choice.settings (commands_in replayed.reach) replayed.groups
      replayed.commands replayed.carried

-- nothing was read, and no fault was counted there
pub record IsUnread (input : Input) : Type 0 where
  pub left : input.left_after ≡ input.left
  pub faults : input.faults_after ≡ input.faults

-- A generated trace was carried out to its end, on the heap that is handed back. Nothing was read, and of its whole log
-- the total line alone was written. The lines of its commands keep what is promised of logs.
pub record Generates (choice : Choice) (traffic : Traffic) (outcome : Outcome) (says : List ℕ → Type 0) : Type 0 where
  pub trace : GeneratedTrace
  pub generates : choice.generated ≡ Some trace
  pub end : End
  pub heap : Gc
  pub unread : IsUnread traffic.input
  pub status : outcome.status ≡ status_of end
  pub heap_back : outcome.heap ≡ Some heap
  pub text : says (end_text end)
  pub generated : Generated end choice.settings trace traffic.output heap
  pub faithful : IsFaithful choice.settings (commands_of trace) generated.whole.groups

-- what a run comes to for this choice
abbrev pub Serves : Choice → Traffic → Outcome → (List ℕ → Type 0) → Type 0
Serves choice traffic outcome says =
    LacksMemory choice traffic outcome says ⊎ FailsToOpen choice traffic outcome says
    ⊎ Replays choice traffic outcome says ⊎ Generates choice traffic outcome says

-- The words can't be read. Nothing was read or written.
pub record Refuses (words : List (List ℕ)) (traffic : Traffic) (outcome : Outcome) (says : List ℕ → Type 0) :
    Type 0 where
  pub unreadable : choice_read words ≡ None
  pub status : outcome.status ≡ 2
  pub no_heap : outcome.heap ≡ None
  pub text : says (codes "mmgc: bad arguments\n")
  pub unread : traffic.input.left_after ≡ traffic.input.left
  pub unwritten : IsUnwritten traffic.output

-- There was no memory while the words were read. Nothing was read or written.
pub record LacksMemoryForWords (traffic : Traffic) (outcome : Outcome) (says : List ℕ → Type 0) : Type 0 where
  pub status : outcome.status ≡ 5
  pub no_heap : outcome.heap ≡ None
  pub text : says (codes "mmgc: out of memory\n")
  pub unread : traffic.input.left_after ≡ traffic.input.left
  pub unwritten : IsUnwritten traffic.output

-- what a run comes to for these words
abbrev pub Ran : List (List ℕ) → Traffic → Outcome → (List ℕ → Type 0) → Type 0
Ran words traffic outcome says =
    Refuses words traffic outcome says ⊎ LacksMemoryForWords traffic outcome says
    ⊎ ((choice : Choice) × (choice_of words ≡ Some choice) × Serves choice traffic outcome says)
