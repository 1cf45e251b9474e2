-- What a program says of why it ended before its input did.
use Rattle.std.specs.Prelude.{ℕ, ◌≤◌, ◌⊎◌, List, [], ◌++◌, Option, Result, OnOk, OnErr, codes, decimal}
use Rattle.mm_io.specs.Faults.{Rose, Counts}
use Rattle.mm_io.specs.Told.{Appends, AppendsFront}
use Rattle.mm_io.specs.declared.fault.Failed.{Failed}
use Rattle.mm_model.specs.declared.refusal.LineFault.{LineFault}
use Rattle.mm_model.specs.Logs.Spelling.{fault_text}
use Rattle.mmgc.specs.declared.replay.End.{End}
use Rattle.mmgc.specs.declared.replay.End.TheVariants.{Whole, Fault, ReadFailed, WriteFailed, TooLong}

-- A sink was asked to take this text: all of it, or after a fault a front of it.
pub record Takes (before now : Option (List ℕ)) (faults faults_now : ℕ) (result : Result (Unit {0}) Failed)
    (text : List ℕ) : Type 0 where
  pub ok : OnOk result (Appends before now text)
  pub err : OnErr result (AppendsFront before now text)
  pub counts : Counts faults faults_now result

-- A sink took a front of this text, and all of it unless a fault was counted.
pub record IsTold (before now : Option (List ℕ)) (faults faults_now : ℕ) (text : List ℕ) : Type 0 where
  pub front : AppendsFront before now text
  pub whole : Appends before now text ⊎ Rose faults faults_now
  pub never_falls : faults ≤ faults_now

-- what is said of a line outside the grammar
abbrev pub line_text : ℕ → LineFault → List ℕ
line_text line fault = (codes "mmgc: line " ++ decimal line) ++ ((codes ": " ++ fault_text fault) ++ codes "\n")

-- what is said of each end
abbrev pub end_text : End → List ℕ
end_text Whole = []
end_text (Fault line fault) = line_text line fault
end_text ReadFailed = codes "mmgc: read failed\n"
end_text WriteFailed = codes "mmgc: write failed\n"
end_text TooLong = codes "mmgc: trace too long\n"
