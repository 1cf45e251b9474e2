-- Laws of cutting bytes into lines and of reading lines in turn, for a loop that takes one byte or one line at a time.
use Rattle.std.proofs.Common.{◌≡◌, ◌≢◌, ℕ, suc, ◌+◌, ◌<◌, ◌≤◌, true, false, ◌==◌, nat_lt, List, [], ◌∷◌, ◌++◌, length}
use Rattle.std.proofs.Common.{Option, Some, None, Result, Ok, Err, refl, sym, ◌∙◌, ap, append_assoc, length-append}
use Rattle.std.proofs.Common.{arith}
use Rattle.std.specs.List.{All, flat_map, onto_first}
use Rattle.std.proofs.lemmas.Bool.Decides.{nat_tests}
use Rattle.std.proofs.lemmas.List.{append-nil}
use Rattle.std.proofs.lemmas.List.Concat.{flat_map-append}
use Rattle.std.proofs.lemmas.List.Elements.{All-head, All-tail, All-nil, All-push, All-weaker}
use Rattle.std.proofs.lemmas.List.Splits.{slice_split_at, slice_split-cons_no, length-slice_split}
use Rattle.mm_model.specs.declared.command.Command.{Command}
use Rattle.mm_model.specs.declared.refusal.LineFault.{LineFault}
use Rattle.mm_model.specs.declared.refusal.LineFault.TheVariants.{LineTooLong}
use Rattle.mm_model.specs.Logs.Trace.{line_reading, pieces_of, ended_lines, last_piece, lines_of, complete_lines}
use Rattle.mm_model.specs.Logs.Trace.{line_if, FaultAt, Reading, reading_before, reading_from}

-- no byte is a newline
abbrev pub NoNewline : List ℕ → Type 0
NoNewline line = All (λ (b : ℕ). b ≢ 10) line

abbrev pub with_newline : List ℕ → List ℕ
with_newline line = line ++ 10 ∷ []

-- The bytes are these lines, each with its newline, and then what is held of the next one.
pub record Cuts (bytes : List ℕ) (lines : List (List ℕ)) (held : List ℕ) : Type 0 where
  pub whole : bytes ≡ flat_map with_newline lines ++ held
  pub lines_clean : All NoNewline lines
  pub held_clean : NoNewline held

-- no byte yet
pub Cuts-none : Cuts [] [] []
Cuts-none = record { whole = refl; lines_clean = All-nil NoNewline; held_clean = All-nil (λ (b : ℕ). b ≢ 10) }

-- one more byte of the line that is held
pub Cuts-byte : (bytes : List ℕ) (lines : List (List ℕ)) (held : List ℕ) (b : ℕ) → Cuts bytes lines held → b ≢ 10
    → Cuts (bytes ++ b ∷ []) lines (held ++ b ∷ [])
Cuts-byte bytes lines held b cuts other = record {
  whole = ap (λ (xs : List ℕ). xs ++ b ∷ []) cuts.whole ∙ append_assoc (flat_map with_newline lines) held (b ∷ []);
  lines_clean = cuts.lines_clean;
  held_clean = All-push (λ (c : ℕ). c ≢ 10) held b cuts.held_clean other;
}

lines_whole : (lines : List (List ℕ)) (held : List ℕ)
    → (flat_map with_newline lines ++ held) ++ 10 ∷ [] ≡ flat_map with_newline (lines ++ held ∷ []) ++ []
lines_whole lines held =
    append_assoc (flat_map with_newline lines) held (10 ∷ [])
    ∙ ap (λ (xs : List ℕ). flat_map with_newline lines ++ xs) (sym (append-nil (with_newline held)))
    ∙ sym (flat_map-append with_newline lines (held ∷ []))
    ∙ sym (append-nil (flat_map with_newline (lines ++ held ∷ [])))

-- a newline makes a line of what is held
pub Cuts-newline : (bytes : List ℕ) (lines : List (List ℕ)) (held : List ℕ) → Cuts bytes lines held
    → Cuts (bytes ++ 10 ∷ []) (lines ++ held ∷ []) []
Cuts-newline bytes lines held cuts = record {
  whole = ap (λ (xs : List ℕ). xs ++ 10 ∷ []) cuts.whole ∙ lines_whole lines held;
  lines_clean = All-push NoNewline lines held cuts.lines_clean cuts.held_clean;
  held_clean = All-nil (λ (b : ℕ). b ≢ 10);
}

test_fails : (b : ℕ) → b ≢ 10 → (b == 10) ≡ false
test_fails b other = grind (arith, nat_tests)

untested : (line : List ℕ) → NoNewline line → All (λ (b : ℕ). (b == 10) ≡ false) line
untested line clean = All-weaker (λ (b : ℕ). b ≢ 10) (λ (b : ℕ). (b == 10) ≡ false) test_fails line clean

-- pieces whose first one begins with what is held
abbrev pub joined_to : List ℕ → List (List ℕ) → List (List ℕ)
joined_to held [] = held ∷ []
joined_to held (piece ∷ pieces) = (held ++ piece) ∷ pieces

joined_to-nil : (pieces : List (List ℕ)) → 0 < length pieces → joined_to [] pieces ≡ pieces
joined_to-nil [] some = absurd (omega arith)
joined_to-nil (piece ∷ pieces) some = refl

onto_first-joined : (b : ℕ) (held : List ℕ) (pieces : List (List ℕ))
    → onto_first b (joined_to held pieces) ≡ joined_to (b ∷ held) pieces
onto_first-joined b held [] = refl
onto_first-joined b held (piece ∷ pieces) = refl

some_pieces : (bytes : List ℕ) → 0 < length (pieces_of bytes)
some_pieces bytes = omega (arith, length-slice_split (λ (b : ℕ). b == 10) bytes)

pieces_of-held : (held more : List ℕ) → NoNewline held → pieces_of (held ++ more) ≡ joined_to held (pieces_of more)
pieces_of-held [] more clean = sym (joined_to-nil (pieces_of more) (some_pieces more))
pieces_of-held (b ∷ held) more clean =
    slice_split-cons_no (λ (c : ℕ). c == 10) b (held ++ more) (test_fails b (All-head (λ (c : ℕ). c ≢ 10) b held clean))
    ∙ ap (onto_first b) (pieces_of-held held more (All-tail (λ (c : ℕ). c ≢ 10) b held clean))
    ∙ onto_first-joined b held (pieces_of more)

pieces_of-lines : (lines : List (List ℕ)) (rest : List ℕ) → All NoNewline lines
    → pieces_of (flat_map with_newline lines ++ rest) ≡ lines ++ pieces_of rest
pieces_of-lines [] rest clean = refl
pieces_of-lines (line ∷ lines) rest clean =
    let others = flat_map with_newline lines in
    ap pieces_of (append_assoc (with_newline line) others rest ∙ append_assoc line (10 ∷ []) (others ++ rest))
    ∙ slice_split_at (λ (b : ℕ). b == 10) line 10 (others ++ rest)
    (untested line (All-head NoNewline line lines clean)) refl
    ∙ ap (λ (pieces : List (List ℕ)). line ∷ pieces)
    (pieces_of-lines lines rest (All-tail NoNewline line lines clean))

-- whatever bytes come, the lines stay, and the next piece begins with what is held
pub pieces_of-more : (bytes : List ℕ) (lines : List (List ℕ)) (held : List ℕ) → Cuts bytes lines held → (more : List ℕ)
    → pieces_of (bytes ++ more) ≡ lines ++ joined_to held (pieces_of more)
pieces_of-more bytes lines held cuts more =
    ap (λ (xs : List ℕ). pieces_of (xs ++ more)) cuts.whole
    ∙ ap pieces_of (append_assoc (flat_map with_newline lines) held more)
    ∙ pieces_of-lines lines (held ++ more) cuts.lines_clean
    ∙ ap (λ (pieces : List (List ℕ)). lines ++ pieces) (pieces_of-held held more cuts.held_clean)

pub pieces_of-cuts : (bytes : List ℕ) (lines : List (List ℕ)) (held : List ℕ) → Cuts bytes lines held
    → pieces_of bytes ≡ lines ++ held ∷ []
pieces_of-cuts bytes lines held cuts =
    ap pieces_of (sym (append-nil bytes)) ∙ pieces_of-more bytes lines held cuts []
    ∙ ap (λ (xs : List ℕ). lines ++ xs ∷ []) (append-nil held)

ended_lines-append : (lines : List (List ℕ)) (piece : List ℕ) (pieces : List (List ℕ))
    → ended_lines (lines ++ piece ∷ pieces) ≡ lines ++ ended_lines (piece ∷ pieces)
ended_lines-append [] piece pieces = refl
ended_lines-append (line ∷ []) piece pieces = refl
ended_lines-append (line ∷ next ∷ lines) piece pieces =
    ap (λ (xs : List (List ℕ)). line ∷ xs) (ended_lines-append (next ∷ lines) piece pieces)

last_piece-append : (lines : List (List ℕ)) (piece : List ℕ) (pieces : List (List ℕ))
    → last_piece (lines ++ piece ∷ pieces) ≡ last_piece (piece ∷ pieces)
last_piece-append [] piece pieces = refl
last_piece-append (line ∷ []) piece pieces = refl
last_piece-append (line ∷ next ∷ lines) piece pieces = last_piece-append (next ∷ lines) piece pieces

-- The lines that pieces make: the last piece is one only where it has more bytes than the limit.
abbrev lines_with : ℕ → List (List ℕ) → List (List ℕ)
lines_with limit pieces = ended_lines pieces ++ line_if (nat_lt limit (length (last_piece pieces))) (last_piece pieces)

lines_with-append : (limit : ℕ) (lines : List (List ℕ)) (piece : List ℕ) (pieces : List (List ℕ))
    → lines_with limit (lines ++ piece ∷ pieces) ≡ lines ++ lines_with limit (piece ∷ pieces)
lines_with-append limit lines piece pieces =
    rw (ended_lines-append lines piece pieces, last_piece-append lines piece pieces)
    (append_assoc lines (ended_lines (piece ∷ pieces)) _)

lines_with-first : (limit : ℕ) (piece : List ℕ) (pieces : List (List ℕ)) → limit < length piece
    → (rest : List (List ℕ)) × (lines_with limit (piece ∷ pieces) ≡ piece ∷ rest)
lines_with-first limit piece [] long =
    let e : nat_lt limit (length piece) ≡ true = grind (arith, nat_tests) in ([], rw e refl)
lines_with-first limit piece (next ∷ pieces) long = (lines_with limit (next ∷ pieces), refl)

-- where the input ends here, what is held is a line unless it is empty
pub lines_of-cuts : (bytes : List ℕ) (lines : List (List ℕ)) (held : List ℕ) → Cuts bytes lines held
    → lines_of bytes ≡ lines ++ line_if (nat_lt 0 (length held)) held
lines_of-cuts bytes lines held cuts =
    ap (lines_with 0) (pieces_of-cuts bytes lines held cuts) ∙ lines_with-append 0 lines held []

-- where more may come, what is held is a line only where it is too long
pub complete_lines-cuts : (bytes : List ℕ) (lines : List (List ℕ)) (held : List ℕ) → Cuts bytes lines held
    → complete_lines bytes ≡ lines ++ line_if (nat_lt 1024 (length held)) held
complete_lines-cuts bytes lines held cuts =
    ap (lines_with 1024) (pieces_of-cuts bytes lines held cuts) ∙ lines_with-append 1024 lines held []

lines_with-joined : (limit : ℕ) (lines : List (List ℕ)) (held : List ℕ) (pieces : List (List ℕ))
    → (rest : List (List ℕ)) × (lines_with limit (lines ++ joined_to held pieces) ≡ lines ++ rest)
lines_with-joined limit lines held [] = (lines_with limit (held ∷ []), lines_with-append limit lines held [])
lines_with-joined limit lines held (piece ∷ pieces) =
    (lines_with limit ((held ++ piece) ∷ pieces), lines_with-append limit lines (held ++ piece) pieces)

-- the lines of a longer input, where the first of them are known
pub lines_of-more : (bytes : List ℕ) (lines : List (List ℕ)) (held : List ℕ) → Cuts bytes lines held → (more : List ℕ)
    → (rest : List (List ℕ)) × (lines_of (bytes ++ more) ≡ lines ++ rest)
lines_of-more bytes lines held cuts more =
    let w = lines_with-joined 0 lines held (pieces_of more) in
    (w.0, ap (lines_with 0) (pieces_of-more bytes lines held cuts more) ∙ w.1)

-- a next line that is too long, and the lines after it
abbrev pub TooLongNext : List (List ℕ) → List (List ℕ) → Type 0
TooLongNext all lines =
    (line : List ℕ) × (rest : List (List ℕ)) × (1024 < length line) × (all ≡ lines ++ line ∷ rest)

lines_with-long : (limit : ℕ) (lines : List (List ℕ)) (piece : List ℕ) (pieces : List (List ℕ))
    → limit ≤ 1024 → 1024 < length piece → TooLongNext (lines_with limit (lines ++ piece ∷ pieces)) lines
lines_with-long limit lines piece pieces low long =
    let first = lines_with-first limit piece pieces (omega arith) in (
      piece,
      first.0,
      long,
      lines_with-append limit lines piece pieces ∙ ap (λ (xs : List (List ℕ)). lines ++ xs) first.1,
    )

lines_with-joined_long : (limit : ℕ) (lines : List (List ℕ)) (held : List ℕ) (pieces : List (List ℕ))
    → limit ≤ 1024 → 1024 < length held → TooLongNext (lines_with limit (lines ++ joined_to held pieces)) lines
lines_with-joined_long limit lines held [] low long = lines_with-long limit lines held [] low long
lines_with-joined_long limit lines held (piece ∷ pieces) low long =
    lines_with-long limit lines (held ++ piece) pieces low (omega (arith, length-append held piece))

too_long_along : (all other lines : List (List ℕ)) → all ≡ other → TooLongNext other lines → TooLongNext all lines
too_long_along all other lines e w = (w.0, w.1, w.2, e ∙ w.3)

-- what is held is too long already, whatever bytes come
pub lines_of-too_long : (bytes : List ℕ) (lines : List (List ℕ)) (held : List ℕ) → Cuts bytes lines held
    → 1024 < length held → (more : List ℕ) → TooLongNext (lines_of (bytes ++ more)) lines
lines_of-too_long bytes lines held cuts long more =
    too_long_along _ _ lines (ap (lines_with 0) (pieces_of-more bytes lines held cuts more))
    (lines_with-joined_long 0 lines held (pieces_of more) (omega arith) long)

pub line_reading-too_long : (line : List ℕ) → 1024 < length line → line_reading line ≡ Err LineTooLong
unfolding line_reading
line_reading-too_long line long = let e : nat_lt 1024 (length line) ≡ true = grind (arith, nat_tests) in rw e refl

-- Commands and perhaps a fault behind them, and then another reading. A fault ends it.
abbrev pub joined : List Command → Option FaultAt → Reading → Reading
joined commands None next = record { commands = commands ++ next.commands; fault = next.fault }
joined commands (Some fault) next = record { commands = commands; fault = Some fault }

-- one reading after another
abbrev pub reading_then : Reading → Reading → Reading
reading_then first next = joined first.commands first.fault next

joined-cons : (command : Command) (commands : List Command) (fault : Option FaultAt) (next : Reading)
    → reading_before 0 (Ok (Some command)) (joined commands fault next) ≡ joined (command ∷ commands) fault next
joined-cons command commands None next = refl
joined-cons command commands (Some fault) next = refl

reading_before-then : (n : ℕ) (read : Result (Option Command) LineFault) (first next : Reading)
    → reading_before n read (reading_then first next) ≡ reading_then (reading_before n read first) next
reading_before-then n (Err fault) first next = refl
reading_before-then n (Ok None) first next = refl
reading_before-then n (Ok (Some command)) first next = joined-cons command first.commands first.fault next

-- lines in two parts
pub reading_from-append : (read : List ℕ → Result (Option Command) LineFault) (n : ℕ) (xs ys : List (List ℕ))
    → reading_from read n (xs ++ ys) ≡ reading_then (reading_from read n xs) (reading_from read (n + length xs) ys)
reading_from-append read n [] ys = ap (λ (k : ℕ). reading_from read k ys) (let e : n ≡ n + 0 = omega arith in e)
reading_from-append read n (x ∷ xs) ys =
    let e : n + 1 + length xs ≡ n + suc (length xs) = omega arith in
    ap (reading_before n (read x)) (reading_from-append read (n + 1) xs ys)
    ∙ reading_before-then n (read x) (reading_from read (n + 1) xs) (reading_from read (n + 1 + length xs) ys)
    ∙ ap (λ (k : ℕ). reading_then (reading_from read n (x ∷ xs)) (reading_from read k ys)) e

-- after lines without a fault the rest is read too
pub reading_from-clean : (read : List ℕ → Result (Option Command) LineFault) (n : ℕ) (xs ys : List (List ℕ))
    → (reading_from read n xs).fault ≡ None
    → reading_from read n (xs ++ ys)
    ≡ record {
      commands = (reading_from read n xs).commands ++ (reading_from read (n + length xs) ys).commands;
      fault = (reading_from read (n + length xs) ys).fault;
    }
reading_from-clean read n xs ys none =
    reading_from-append read n xs ys
    ∙ ap (λ (fault : Option FaultAt).
    joined (reading_from read n xs).commands fault (reading_from read (n + length xs) ys)) none

-- nothing is read after a fault
pub reading_from-fault : (read : List ℕ → Result (Option Command) LineFault) (n : ℕ) (xs ys : List (List ℕ))
    (fault : FaultAt)
    → (reading_from read n xs).fault ≡ Some fault
    → reading_from read n (xs ++ ys) ≡ reading_from read n xs
reading_from-fault read n xs ys fault some =
    let first = reading_from read n xs in
    let next = reading_from read (n + length xs) ys in
    let whole : Option FaultAt → Reading = λ (f : Option FaultAt). record { commands = first.commands; fault = f } in
    reading_from-append read n xs ys
    ∙ ap (λ (f : Option FaultAt). joined first.commands f next) some
    ∙ ap whole (sym some)

-- the first fault ends the reading
pub reading_from-stops : (read : List ℕ → Result (Option Command) LineFault) (n : ℕ) (lines : List (List ℕ))
    (line : List ℕ) (rest : List (List ℕ)) (fault : LineFault)
    → (reading_from read n lines).fault ≡ None → read line ≡ Err fault
    → reading_from read n (lines ++ line ∷ rest)
    ≡ record {
      commands = (reading_from read n lines).commands;
      fault = Some (record { line = n + length lines; fault = fault });
    }
reading_from-stops read n lines line rest fault none says =
    reading_from-clean read n lines (line ∷ rest) none
    ∙ rw (says, append-nil (reading_from read n lines).commands) refl
