-- What the bytes of a trace say: its lines, the command of each line, and the first fault.
use Rattle.std.specs.Prelude.{ℕ, ◌+◌, ◌-◌, ◌*◌, ◌^◌, Bool, true, false, if◌then◌else◌, ◌&&◌, ◌==◌, nat_lt, nat_le, List}
use Rattle.std.specs.Prelude.{[], ◌∷◌, ◌++◌, length, Option, Some, None, Result, Ok, Err, codes}
use Rattle.std.specs.List.{list_all, fold, filter, slice_split}
use Rattle.std.specs.Str.{bytes_eq}
use Rattle.mm_model.specs.declared.object.Kind.{Kind}
use Rattle.mm_model.specs.declared.object.Kind.TheVariants.{Traced, Leaf, Counted}
use Rattle.mm_model.specs.declared.command.Command.{Command}
use Rattle.mm_model.specs.declared.command.Command.TheVariants as commands
use Rattle.mm_model.specs.declared.refusal.LineFault.{LineFault}
use Rattle.mm_model.specs.declared.refusal.LineFault.TheVariants.{UnknownCommand, WordCount, BadWord, BadNumber}
use Rattle.mm_model.specs.declared.refusal.LineFault.TheVariants.{LineTooLong}

-- the words of a line: what stands between spaces, without the empty pieces
abbrev pub words_of : List ℕ → List (List ℕ)
words_of line = filter (λ piece. nat_lt 0 (length piece)) (slice_split (λ b. b == 32) line)

abbrev pub is_digit : ℕ → Bool
is_digit b = nat_le 48 b && nat_le b 57

-- the value of decimal digits, the highest first
abbrev pub digits_value : List ℕ → ℕ
digits_value digits = fold (λ value digit. 10 * value + (digit - 48)) 0 digits

-- one to ten digits whose value is below 2 ^ 32; zeros may stand in front
abbrev pub is_number : List ℕ → Bool
is_number word =
    nat_le 1 (length word) && nat_le (length word) 10 && list_all is_digit word && nat_lt (digits_value word) (2 ^ 32)

abbrev pub number_of : List ℕ → Result ℕ LineFault
number_of word = if is_number word then Ok (digits_value word) else Err BadNumber

-- what a table has at a word
abbrev pub entry_at : {X : Type 0} → List (List ℕ × X) → List ℕ → Option X
entry_at [] word = None
entry_at (row ∷ rows) word = if bytes_eq row.0 word then Some row.1 else entry_at rows word

abbrev pub found_or : {X : Type 0} → Option X → LineFault → Result X LineFault
found_or None fault = Err fault
found_or (Some x) fault = Ok x

-- the kind words, each with the kind and whether a finalizer is asked for
abbrev pub kind_words : List (List ℕ × (Kind × Bool))
kind_words =
    (codes "t", (Traced, false)) ∷ (codes "l", (Leaf, false)) ∷ (codes "r", (Counted, false)) ∷
    (codes "tf", (Traced, true)) ∷ (codes "lf", (Leaf, true)) ∷ (codes "rf", (Counted, true)) ∷ []

abbrev pub kind_of : List ℕ → Result (Kind × Bool) LineFault
kind_of word = found_or (entry_at kind_words word) BadWord

-- what stands behind a command's first word: a kind and two numbers, or so many numbers
pub data Form : Type 0 where
  Shaped : Form
  Bare : Command → Form
  OneNumber : (ℕ → Command) → Form
  TwoNumbers : (ℕ → ℕ → Command) → Form
  ThreeNumbers : (ℕ → ℕ → ℕ → Command) → Form

abbrev pub forms : List (List ℕ × Form)
forms =
    (codes "new", Shaped) ∷
    (codes "push", OneNumber commands.Push) ∷
    (codes "dup", OneNumber commands.Dup) ∷
    (codes "pop", OneNumber commands.Pop) ∷
    (codes "inner", TwoNumbers commands.Inner) ∷
    (codes "get", TwoNumbers commands.Get) ∷
    (codes "put", ThreeNumbers commands.Put) ∷
    (codes "weak", OneNumber commands.Weak) ∷
    (codes "look", OneNumber commands.Look) ∷
    (codes "root", TwoNumbers commands.Root) ∷
    (codes "fixed", OneNumber commands.Fixed) ∷
    (codes "drop", OneNumber commands.DropArea) ∷
    (codes "aget", TwoNumbers commands.AreaGet) ∷
    (codes "aput", ThreeNumbers commands.AreaPut) ∷
    (codes "reap", Bare commands.Reap) ∷
    (codes "collect", Bare commands.Collect) ∷
    (codes "begin", Bare commands.Begin) ∷
    (codes "step", OneNumber commands.Step) ∷
    (codes "finish", Bare commands.Finish) ∷
    (codes "map", OneNumber commands.Map) ∷
    (codes "stat", Bare commands.Stat) ∷ []

infixl 10 ◌>>=◌
abbrev pub ◌>>=◌ : {A B : Type 0} → Result A LineFault → (A → Result B LineFault) → Result B LineFault
(Ok x) >>= f = f x
(Err fault) >>= f = Err fault

abbrev pub new_command : (Kind × Bool) → ℕ → ℕ → Command
new_command kind counted slots =
    commands.New (record { kind = kind.0; finalize = kind.1; counted = counted; slots = slots })

-- The command of a form and the words after the first. Words are tried from left to right.
abbrev pub command_of : Form → List (List ℕ) → Result Command LineFault
command_of (Bare command) [] = Ok command
command_of (OneNumber command) (x ∷ []) = do
  a ← number_of x
  Ok (command a)
command_of (TwoNumbers command) (x ∷ y ∷ []) = do
  a ← number_of x
  b ← number_of y
  Ok (command a b)
command_of (ThreeNumbers command) (x ∷ y ∷ z ∷ []) = do
  a ← number_of x
  b ← number_of y
  c ← number_of z
  Ok (command a b c)
command_of Shaped (x ∷ y ∷ z ∷ []) = do
  kind ← kind_of x
  counted ← number_of y
  slots ← number_of z
  Ok (new_command kind counted slots)
command_of form words = Err WordCount

-- a line without words is passed over
unfoldable pub words_reading : List (List ℕ) → Result (Option Command) LineFault
words_reading [] = Ok None
words_reading (first ∷ words) = do
  form ← found_or (entry_at forms first) UnknownCommand
  command ← command_of form words
  Ok (Some command)

-- whether the first byte is the number sign
abbrev pub is_comment : List ℕ → Bool
is_comment [] = false
is_comment (b ∷ line) = b == 35

-- What a line says: a command, nothing, or why it is outside the grammar.
unfoldable pub line_reading : List ℕ → Result (Option Command) LineFault
line_reading line =
    if nat_lt 1024 (length line) then Err LineTooLong else
    if is_comment line then Ok None else words_reading (words_of line)

-- The lines that a newline byte ends, without it, and the bytes after the last one.
abbrev pub ended_lines : List (List ℕ) → List (List ℕ)
ended_lines [] = []
ended_lines (rest ∷ []) = []
ended_lines (line ∷ next ∷ pieces) = line ∷ ended_lines (next ∷ pieces)

abbrev pub last_piece : List (List ℕ) → List ℕ
last_piece [] = []
last_piece (rest ∷ []) = rest
last_piece (line ∷ next ∷ pieces) = last_piece (next ∷ pieces)

abbrev pub pieces_of : List ℕ → List (List ℕ)
pieces_of bytes = slice_split (λ b. b == 10) bytes

-- the bytes after the last newline byte
abbrev pub rest_of : List ℕ → List ℕ
rest_of bytes = last_piece (pieces_of bytes)

abbrev pub line_if : Bool → List ℕ → List (List ℕ)
line_if true line = line ∷ []
line_if false line = []

-- The lines of a whole input: a rest that isn't empty is a line too.
abbrev pub lines_of : List ℕ → List (List ℕ)
lines_of bytes = ended_lines (pieces_of bytes) ++ line_if (nat_lt 0 (length (rest_of bytes))) (rest_of bytes)

-- The lines that are complete while more may come: a rest is one only where it is too long already.
abbrev pub complete_lines : List ℕ → List (List ℕ)
complete_lines bytes = ended_lines (pieces_of bytes) ++ line_if (nat_lt 1024 (length (rest_of bytes))) (rest_of bytes)

-- a fault and the number of its line, counted from 1, lines that are passed over included
pub record FaultAt : Type 0 where
  pub line : ℕ
  pub fault : LineFault

-- the commands of the lines before the first fault, and that fault
pub record Reading : Type 0 where
  pub commands : List Command
  pub fault : Option FaultAt

-- line number n reads so, and the lines after it like rest
abbrev pub reading_before : ℕ → Result (Option Command) LineFault → Reading → Reading
reading_before n (Err fault) rest = record { commands = []; fault = Some (record { line = n; fault = fault }) }
reading_before n (Ok None) rest = rest
reading_before n (Ok (Some command)) rest = record { commands = command ∷ rest.commands; fault = rest.fault }

-- what lines say, each by the given reading, the first of them having this number
abbrev pub reading_from : (List ℕ → Result (Option Command) LineFault) → ℕ → List (List ℕ) → Reading
reading_from read n [] = record { commands = []; fault = None }
reading_from read n (line ∷ lines) = reading_before n (read line) (reading_from read (n + 1) lines)

-- what a whole input says
abbrev pub trace_reading : List ℕ → Reading
trace_reading bytes = reading_from line_reading 1 (lines_of bytes)
