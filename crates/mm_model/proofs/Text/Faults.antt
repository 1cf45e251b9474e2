-- Laws of what bytes say around the line that is held: where it ends, where it is at fault, and how the lines count.
use Rattle.std.proofs.Common.{◌≡◌, ◌≢◌, ℕ, suc, ◌+◌, ◌≤◌, ◌<◌, false, ◌==◌, nat_lt, List, [], ◌∷◌, ◌++◌, length, Option}
use Rattle.std.proofs.Common.{Some, None, Result, Ok, Err, refl, ◌∙◌, ap, append_assoc, length-append}
use Rattle.std.proofs.Common.{lt-ltb, le-ltb, arith}
use Rattle.std.specs.List.{All, flat_map}
use Rattle.std.proofs.lemmas.Bool.Decides.{nat_tests}
use Rattle.std.proofs.lemmas.List.{append-nil, length_push}
use Rattle.std.proofs.lemmas.List.Elements.{All-head, All-tail, All-weaker}
use Rattle.std.proofs.lemmas.List.Splits.{slice_split_at, length-slice_split}
use Rattle.mm_model.specs.declared.command.Command.{Command}
use Rattle.mm_model.specs.declared.refusal.LineFault.{LineFault}
use Rattle.mm_model.specs.Logs.Trace.{pieces_of, ended_lines, last_piece, lines_of, complete_lines, line_if, Reading}
use Rattle.mm_model.specs.Logs.Trace.{reading_before, reading_from}
use Rattle.mm_model.proofs.Text.Traces.{NoNewline, with_newline, Cuts, lines_of-cuts, complete_lines-cuts}
use Rattle.mm_model.proofs.Text.Traces.{reading_from-clean}

-- The lines that a newline ends, and the rest where it is longer than the bound.
abbrev lines_in : ℕ → List (List ℕ) → List (List ℕ)
lines_in bound pieces =
    ended_lines pieces ++ line_if (nat_lt bound (length (last_piece pieces))) (last_piece pieces)

abbrev lines_over : ℕ → List ℕ → List (List ℕ)
lines_over bound bytes = lines_in bound (pieces_of bytes)

lines_in-cons : (bound : ℕ) (line : List ℕ) (pieces : List (List ℕ)) → 0 < length pieces
    → lines_in bound (line ∷ pieces) ≡ line ∷ lines_in bound pieces
lines_in-cons bound line [] some = absurd (omega arith)
lines_in-cons bound line (next ∷ pieces) some = refl

some_piece : (bytes : List ℕ) → 0 < length (pieces_of bytes)
some_piece bytes = omega (arith, length-slice_split (λ (b : ℕ). b == 10) bytes)

pieces_of-newline : (line rest : List ℕ) → NoNewline line → pieces_of (line ++ 10 ∷ rest) ≡ line ∷ pieces_of rest
pieces_of-newline line rest clean = slice_split_at (λ (b : ℕ). b == 10) line 10 rest untested refl
  where
    test_fails : (b : ℕ) → b ≢ 10 → (b == 10) ≡ false
    test_fails b other = grind (arith, nat_tests)

    untested : All (λ (b : ℕ). (b == 10) ≡ false) line
    untested = All-weaker (λ (b : ℕ). b ≢ 10) (λ (b : ℕ). (b == 10) ≡ false) test_fails line clean

lines_over-newline : (bound : ℕ) (held rest : List ℕ) → NoNewline held
    → lines_over bound (held ++ 10 ∷ rest) ≡ held ∷ lines_over bound rest
lines_over-newline bound held rest clean =
    ap (lines_in bound) (pieces_of-newline held rest clean)
    ∙ lines_in-cons bound held (pieces_of rest) (some_piece rest)

lines_over-whole : (bound : ℕ) (lines : List (List ℕ)) (ys : List ℕ) → All NoNewline lines
    → lines_over bound (flat_map with_newline lines ++ ys) ≡ lines ++ lines_over bound ys
lines_over-whole bound [] ys clean = refl
lines_over-whole bound (line ∷ lines) ys clean =
    let rest = flat_map with_newline lines in
    ap (lines_over bound) (append_assoc (with_newline line) rest ys ∙ append_assoc line (10 ∷ []) (rest ++ ys))
    ∙ lines_over-newline bound line (rest ++ ys) (All-head NoNewline line lines clean)
    ∙ ap (λ (next : List (List ℕ)). line ∷ next)
    (lines_over-whole bound lines ys (All-tail NoNewline line lines clean))

lines_over-after : (bound : ℕ) (bytes : List ℕ) (done : List (List ℕ)) (held ys : List ℕ) → Cuts bytes done held
    → lines_over bound (bytes ++ ys) ≡ done ++ lines_over bound (held ++ ys)
lines_over-after bound bytes done held ys cuts =
    ap (λ (xs : List ℕ). lines_over bound (xs ++ ys)) cuts.whole
    ∙ ap (lines_over bound) (append_assoc (flat_map with_newline done) held ys)
    ∙ lines_over-whole bound done (held ++ ys) cuts.lines_clean

-- the lines of more bytes: those that are done, and then what the held bytes begin
pub complete_lines-after : (bytes : List ℕ) (done : List (List ℕ)) (held ys : List ℕ) → Cuts bytes done held
    → complete_lines (bytes ++ ys) ≡ done ++ complete_lines (held ++ ys)
complete_lines-after = lines_over-after 1024

pub lines_of-after : (bytes : List ℕ) (done : List (List ℕ)) (held ys : List ℕ) → Cuts bytes done held
    → lines_of (bytes ++ ys) ≡ done ++ lines_of (held ++ ys)
lines_of-after = lines_over-after 0

-- a newline ends the line that is held
pub complete_lines-newline : (held rest : List ℕ) → NoNewline held
    → complete_lines (held ++ 10 ∷ rest) ≡ held ∷ complete_lines rest
complete_lines-newline = lines_over-newline 1024

-- while it fits, a line that is held is no complete one
pub complete_lines-held : (bytes : List ℕ) (done : List (List ℕ)) (held : List ℕ) → Cuts bytes done held
    → length held ≤ 1024
    → complete_lines bytes ≡ done
complete_lines-held bytes done held cuts fits =
    complete_lines-cuts bytes done held cuts
    ∙ ap (λ b. done ++ line_if b held) (le-ltb 1024 (length held) fits)
    ∙ append-nil done

-- what is held at the end of the input is a line
lines_of-end : (bytes : List ℕ) (done : List (List ℕ)) (held : List ℕ) → Cuts bytes done held → 0 < length held
    → lines_of bytes ≡ done ++ held ∷ []
lines_of-end bytes done held cuts some =
    lines_of-cuts bytes done held cuts ∙ ap (λ b. done ++ line_if b held) (lt-ltb 0 (length held) some)

-- each line has a byte of its own, its newline
pub lines-fewer : (bytes : List ℕ) (done : List (List ℕ)) (held : List ℕ) → Cuts bytes done held
    → length done + length held ≤ length bytes
lines-fewer bytes done held cuts =
    let whole : length bytes ≡ length (flat_map with_newline done) + length held =
    ap length cuts.whole ∙ length-append (flat_map with_newline done) held in
    omega (arith, whole, whole_lines done)
  where
    whole_lines : (lines : List (List ℕ)) → length lines ≤ length (flat_map with_newline lines)
    whole_lines [] = omega arith
    whole_lines (line ∷ lines) =
        let rest = flat_map with_newline lines in
        omega (arith, length-append (with_newline line) rest, length_push line 10, whole_lines lines)

-- The commands before a fault, with the number of the line that is at fault.
abbrev stopped : List Command → ℕ → LineFault → Reading
stopped commands n fault = record { commands = commands; fault = Some (record { line = n; fault = fault }) }

-- commands and then another reading
abbrev onto : List Command → Reading → Reading
onto commands next = record { commands = commands ++ next.commands; fault = next.fault }

-- commands without a fault
abbrev going_well : List Command → Reading
going_well commands = record { commands = commands; fault = None }

commands_before-fewer : (n k : ℕ) (says : Result (Option Command) LineFault) (next : Reading)
    → length next.commands ≤ k
    → length (reading_before n says next).commands ≤ suc k
commands_before-fewer n k (Err fault) next fewer = omega arith
commands_before-fewer n k (Ok None) next fewer = omega arith
commands_before-fewer n k (Ok (Some command)) next fewer = omega arith

module _ (read : List ℕ → Result (Option Command) LineFault) where
  -- a line says one command at most
  pub commands-fewer : (n : ℕ) (lines : List (List ℕ))
      → length (reading_from read n lines).commands ≤ length lines
  commands-fewer n [] = omega arith
  commands-fewer n (line ∷ lines) =
      let rest = reading_from read (n + 1) lines in
      commands_before-fewer n (length lines) (read line) rest (commands-fewer (n + 1) lines)

  -- the next line after lines that go well, by what it says
  reading-next : (done : List (List ℕ)) (held : List ℕ) (rest : List (List ℕ))
      (says : Result (Option Command) LineFault)
      → (reading_from read 1 done).fault ≡ None
      → read held ≡ says
      → reading_from read 1 (done ++ held ∷ rest)
      ≡ onto (reading_from read 1 done).commands
      (reading_before (length done + 1) says (reading_from read (length done + 1 + 1) rest))
  reading-next done held rest says clean is =
      let first = (reading_from read 1 done).commands in
      let turned : 1 + length done ≡ length done + 1 = omega arith in
      reading_from-clean read 1 done (held ∷ rest) clean
      ∙ ap (λ (n : ℕ). onto first (reading_from read n (held ∷ rest))) turned
      ∙ ap (λ (r : Result (Option Command) LineFault).
      onto first (reading_before (length done + 1) r (reading_from read (length done + 1 + 1) rest))) is

  -- the next line is at fault
  reading-next-fault : (done : List (List ℕ)) (held : List ℕ) (rest : List (List ℕ)) (fault : LineFault)
      → (reading_from read 1 done).fault ≡ None
      → read held ≡ Err fault
      → reading_from read 1 (done ++ held ∷ rest) ≡ stopped (reading_from read 1 done).commands (length done + 1) fault
  reading-next-fault done held rest fault clean says =
      reading-next done held rest (Err fault) clean says
      ∙ ap (λ (commands : List Command). stopped commands (length done + 1) fault)
      (append-nil (reading_from read 1 done).commands)

  -- one more line that says nothing
  pub reading-next-nothing : (done : List (List ℕ)) (held : List ℕ)
      → (reading_from read 1 done).fault ≡ None
      → read held ≡ Ok None
      → reading_from read 1 (done ++ held ∷ [])
      ≡ record { commands = (reading_from read 1 done).commands; fault = None }
  reading-next-nothing done held clean says =
      reading-next done held [] (Ok None) clean says ∙ ap going_well (append-nil (reading_from read 1 done).commands)

  -- one more line that says a command
  pub reading-next-command : (done : List (List ℕ)) (held : List ℕ) (command : Command)
      → (reading_from read 1 done).fault ≡ None
      → read held ≡ Ok (Some command)
      → reading_from read 1 (done ++ held ∷ [])
      ≡ record { commands = (reading_from read 1 done).commands ++ command ∷ []; fault = None }
  reading-next-command done held command clean says = reading-next done held [] (Ok (Some command)) clean says

  -- a newline ends a line that is at fault
  pub fault_at_newline : (bytes : List ℕ) (done : List (List ℕ)) (held rest : List ℕ) (fault : LineFault)
      → Cuts bytes done held
      → (reading_from read 1 done).fault ≡ None
      → read held ≡ Err fault
      → reading_from read 1 (complete_lines (bytes ++ 10 ∷ rest))
      ≡ record {
        commands = (reading_from read 1 done).commands;
        fault = Some (record { line = length done + 1; fault = fault });
      }
  fault_at_newline bytes done held rest fault cuts clean says =
      ap (reading_from read 1) (complete_lines-after bytes done held (10 ∷ rest) cuts
      ∙ ap (λ (lines : List (List ℕ)). done ++ lines) (complete_lines-newline held rest cuts.held_clean))
      ∙ reading-next-fault done held (complete_lines rest) fault clean says

  -- the last line is at fault and has no newline
  pub fault_at_end : (bytes : List ℕ) (done : List (List ℕ)) (held : List ℕ) (fault : LineFault)
      → Cuts bytes done held
      → (reading_from read 1 done).fault ≡ None
      → 0 < length held
      → read held ≡ Err fault
      → reading_from read 1 (lines_of bytes)
      ≡ record {
        commands = (reading_from read 1 done).commands;
        fault = Some (record { line = length done + 1; fault = fault });
      }
  fault_at_end bytes done held fault cuts clean some says =
      ap (reading_from read 1) (lines_of-end bytes done held cuts some)
      ∙ reading-next-fault done held [] fault clean says

  -- the input ends with a newline, or has no byte
  pub reading-end-none : (bytes : List ℕ) (done : List (List ℕ)) → Cuts bytes done []
      → reading_from read 1 (lines_of bytes) ≡ reading_from read 1 done
  reading-end-none bytes done cuts = ap (reading_from read 1) (lines_of-cuts bytes done [] cuts ∙ append-nil done)

  -- the last line has no newline and says nothing
  pub reading-end-nothing : (bytes : List ℕ) (done : List (List ℕ)) (held : List ℕ)
      → Cuts bytes done held
      → (reading_from read 1 done).fault ≡ None
      → 0 < length held
      → read held ≡ Ok None
      → reading_from read 1 (lines_of bytes)
      ≡ record { commands = (reading_from read 1 done).commands; fault = None }
  reading-end-nothing bytes done held cuts clean some says =
      ap (reading_from read 1) (lines_of-end bytes done held cuts some)
      ∙ reading-next-nothing done held clean says

  -- the last line has no newline and says a command
  pub reading-end-command : (bytes : List ℕ) (done : List (List ℕ)) (held : List ℕ) (command : Command)
      → Cuts bytes done held
      → (reading_from read 1 done).fault ≡ None
      → 0 < length held
      → read held ≡ Ok (Some command)
      → reading_from read 1 (lines_of bytes)
      ≡ record { commands = (reading_from read 1 done).commands ++ command ∷ []; fault = None }
  reading-end-command bytes done held command cuts clean some says =
      ap (reading_from read 1) (lines_of-end bytes done held cuts some)
      ∙ reading-next-command done held command clean says
