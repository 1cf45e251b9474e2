-- What an audit says of a log.
use Rattle.std.specs.Prelude.{◌≡◌, ℕ, ◌+◌, ◌≤◌, nat_lt, List, [], ◌∷◌, ◌++◌, map, length}
use Rattle.mm_model.specs.declared.command.Command.{Command}
use Rattle.mm_model.specs.declared.line.Line.{Line}
use Rattle.mm_model.specs.declared.settings.Settings.{Settings}
use Rattle.mm_model.specs.State.{State}
use Rattle.mm_model.specs.Step.{IsStep}
use Rattle.mm_model.specs.Logs.Log.{IsWhole}
use Rattle.mm_model.specs.Logs.Spelling.{spelling, spelling_of}
use Rattle.mm_model.specs.Logs.Trace.{pieces_of, ended_lines, rest_of, line_if}
use Rattle.mm_audit.specs.declared.answer.Answer.{Answer}
use Rattle.mm_audit.specs.declared.answer.Answer.TheVariants as answers

abbrev pub with_newline : List ℕ → List ℕ
with_newline piece = piece ++ 10 ∷ []

-- The lines of a log: its pieces that end at a newline byte, that byte included, and a rest that isn't empty. Such a
-- rest is a line too, but never the spelling of one.
abbrev pub log_lines : List ℕ → List (List ℕ)
log_lines bytes =
    map with_newline (ended_lines (pieces_of bytes)) ++ line_if (nat_lt 0 (length (rest_of bytes))) (rest_of bytes)

-- the bytes are the spelling of a whole log of the commands
pub record IsWholeLog (settings : Settings) (commands : List Command) (bytes : List ℕ) : Type 0 where
  pub log : List Line
  pub end : State
  pub whole : IsWhole IsStep settings commands log end
  pub spelled : bytes ≡ spelling_of log

-- so many lines of the log, from the first on, are the spellings of the first lines of some whole log of the commands
pub record Fits (settings : Settings) (commands : List Command) (bytes : List ℕ) (count : ℕ) : Type 0 where
  pub front : List Line
  pub later : List Line
  pub end : State
  pub whole : IsWhole IsStep settings commands (front ++ later) end
  pub count_is : length front ≡ count
  -- the lines of the log behind those
  pub rest : List (List ℕ)
  pub spelled : log_lines bytes ≡ map spelling front ++ rest

-- so many lines fit, and no more
pub record FitsUpTo (settings : Settings) (commands : List Command) (bytes : List ℕ) (count : ℕ) : Type 0 where
  pub fits : Fits settings commands bytes count
  pub greatest : (more : ℕ) → Fits settings commands bytes more → more ≤ count

-- The answer is `Yes` exactly where the log is the spelling of a whole log. Else it is the number of the line behind
-- those that fit, counted from 1.
abbrev pub IsAudited : Settings → List Command → List ℕ → Answer → Type 0
IsAudited settings commands bytes answers.Yes = IsWholeLog settings commands bytes
IsAudited settings commands bytes (answers.No n) =
    (IsWholeLog settings commands bytes → ⊥) × (m : ℕ) × (n ≡ m + 1) × FitsUpTo settings commands bytes m
