-- When a run must carry out the whole of its input.
use Rattle.std.specs.Prelude.{◌≡◌, ℕ, ◌≤◌, ◌⊎◌, List, length, Option, None, Some, IsSome, IfSome}
use Rattle.mm_model.specs.Logs.Trace.{lines_of}
use Rattle.mm_io.specs.Faults.{Rose}
use Rattle.mmgc.specs.Replaying.{reading_of, most_bytes}
use Rattle.mmgc.specs.Program.{Traffic, IsInput}
use Rattle.mmgc.specs.Words.{Choice, choice_read}

-- These bytes are a trace: there are not too many of them, and no line has a fault.
pub record IsTrace (bytes : List ℕ) : Type 0 where
  pub fits : length bytes ≤ most_bytes
  pub no_fault : (reading_of (lines_of bytes)).fault ≡ None

-- The input is a trace, where it is told, the source tells what is left, and its count of faults didn't rise.
pub record IsWholeInput (file : Option (List ℕ)) (traffic : Traffic) : Type 0 where
  pub trace : (bytes : Option (List ℕ)) → IsInput file traffic.named traffic.input.left bytes → IfSome bytes IsTrace
  pub told : IsSome traffic.input.left_after
  pub reads : ¬ Rose traffic.input.faults traffic.input.faults_after

-- The words can be read, the sink's count of faults didn't rise, and where a trace is read, the input is all of one.
pub record IsUnhindered (words : List (List ℕ)) (traffic : Traffic) : Type 0 where
  pub choice : Choice
  pub readable : choice_read words ≡ Some choice
  pub input : choice.generated ≡ None → IsWholeInput choice.file traffic
  pub writes : ¬ Rose traffic.output.faults traffic.output.faults_after

-- Where nothing hinders it, a run carries out the whole of its input, or of its generated trace, unless there is no
-- memory.
abbrev pub IsComplete : List (List ℕ) → Traffic → ℕ → Type 0
IsComplete words traffic status = IsUnhindered words traffic → (status ≡ 0) ⊎ (status ≡ 5)
