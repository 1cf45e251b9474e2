-- Bytes that end at a newline: how they are cut, and what is read of them and of what comes behind.
use Rattle.std.proofs.Common.{◌≡◌, ℕ, ◌+◌, List, [], ◌∷◌, ◌++◌, length, Option, Some, None, Result, Ok, Err, refl, sym}
use Rattle.std.proofs.Common.{◌∙◌, ap, subst, append_assoc, ⊎_elim, arith}
use Rattle.std.specs.Option.{option_map}
use Rattle.std.proofs.lemmas.Bool.{cases_eq}
use Rattle.std.proofs.lemmas.List.{append-nil}
use Rattle.mm_model.specs.declared.command.Command.{Command}
use Rattle.mm_model.specs.declared.refusal.LineFault.{LineFault}
use Rattle.mm_model.specs.Logs.Trace.{lines_of, FaultAt, Reading, reading_before, reading_from, line_reading}
use Rattle.mm_model.specs.Logs.Trace.{trace_reading}
use Rattle.mm_model.proofs.Text.Traces.{Cuts, Cuts-none, Cuts-byte, Cuts-newline, lines_of-cuts, reading_from-clean}
use Rattle.mm_model.proofs.Text.Traces.{reading_from-fault}
use Rattle.mm_model.proofs.Text.Faults.{lines_of-after}
use Rattle.mm_laws.specs.Faults.{raised_by}

-- the lines that newlines end, and the bytes after the last of them
record IsCut (bytes : List ℕ) : Type 0 where
  lines : List (List ℕ)
  held : List ℕ
  cuts : Cuts bytes lines held

cut_on : (bytes lines : _) (held : List ℕ) (more : List ℕ) → Cuts bytes lines held → IsCut (bytes ++ more)
cut_on bytes lines held [] cuts =
    record { lines = lines; held = held; cuts = subst (λ xs. Cuts xs lines held) (sym (append-nil bytes)) cuts }
cut_on bytes lines held (b ∷ more) cuts =
    subst IsCut (append_assoc bytes (b ∷ []) more)
    (⊎_elim
    (λ (same : b ≡ 10).
    cut_on (bytes ++ b ∷ []) (lines ++ held ∷ []) [] more
    (subst (λ (c : ℕ). Cuts (bytes ++ c ∷ []) (lines ++ held ∷ []) []) (sym same) (Cuts-newline bytes lines held cuts)))
    (λ other. cut_on (bytes ++ b ∷ []) lines (held ++ b ∷ []) more (Cuts-byte bytes lines held b cuts other))
    (cases_eq b 10))

-- all bytes are cut
is_cut : (bytes : List ℕ) → IsCut bytes
is_cut bytes = cut_on [] [] [] bytes Cuts-none

-- the lines of bytes that end at a newline are those of any longer input
pub lines_of-append : (front first rest : List ℕ) → first ≡ front ++ 10 ∷ []
    → lines_of (first ++ rest) ≡ lines_of first ++ lines_of rest
lines_of-append front first rest ends =
    let cut = is_cut front in
    let done = cut.lines ++ cut.held ∷ [] in
    let cuts : Cuts first done [] =
    subst (λ (xs : List ℕ). Cuts xs done []) (sym ends) (Cuts-newline front cut.lines cut.held cut.cuts) in
    lines_of-after first done [] rest cuts
    ∙ ap (λ (lines : List (List ℕ)). lines ++ lines_of rest) (sym (lines_of-cuts first done [] cuts ∙ append-nil done))

-- a reading whose lines are numbered from a higher number on
abbrev raised : ℕ → Reading → Reading
raised k reading = record { commands = reading.commands; fault = option_map (raised_by k) reading.fault }

reading_before-raised : (n k : ℕ) (says : Result (Option Command) LineFault) (next : Reading)
    → reading_before (n + k) says (raised k next) ≡ raised k (reading_before n says next)
reading_before-raised n k (Err fault) next = refl
reading_before-raised n k (Ok None) next = refl
reading_before-raised n k (Ok (Some command)) next = refl

module _ (read : List ℕ → Result (Option Command) LineFault) where
  reading_from-raised : (n k : ℕ) (lines : List (List ℕ))
      → reading_from read (n + k) lines ≡ raised k (reading_from read n lines)
  reading_from-raised n k [] = refl
  reading_from-raised n k (line ∷ lines) =
      let turned : n + k + 1 ≡ n + 1 + k = omega arith in
      ap (λ (m : ℕ). reading_before (n + k) (read line) (reading_from read m lines)) turned
      ∙ ap (reading_before (n + k) (read line)) (reading_from-raised (n + 1) k lines)
      ∙ reading_before-raised n k (read line) (reading_from read (n + 1) lines)

-- where the first bytes have no fault, the whole is read as the two parts are, with the second part's lines behind
pub trace_reading-clean : (front first rest : List ℕ) → first ≡ front ++ 10 ∷ []
    → (trace_reading first).fault ≡ None
    → trace_reading (first ++ rest)
    ≡ record {
      commands = (trace_reading first).commands ++ (trace_reading rest).commands;
      fault = option_map (raised_by (length (lines_of first))) (trace_reading rest).fault;
    }
trace_reading-clean front first rest ends clean =
    let done = lines_of first in
    let whole : Reading → Reading =
    λ (next : Reading). record { commands = (trace_reading first).commands ++ next.commands; fault = next.fault } in
    ap (reading_from line_reading 1) (lines_of-append front first rest ends)
    ∙ reading_from-clean line_reading 1 done (lines_of rest) clean
    ∙ ap whole (reading_from-raised line_reading 1 (length done) (lines_of rest))

-- nothing is read after a fault
pub trace_reading-fault : (front first rest : List ℕ) (fault : FaultAt) → first ≡ front ++ 10 ∷ []
    → (trace_reading first).fault ≡ Some fault
    → trace_reading (first ++ rest) ≡ trace_reading first
trace_reading-fault front first rest fault ends some =
    ap (reading_from line_reading 1) (lines_of-append front first rest ends)
    ∙ reading_from-fault line_reading 1 (lines_of first) (lines_of rest) fault some
