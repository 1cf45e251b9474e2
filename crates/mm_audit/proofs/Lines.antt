-- The lines of a log: what they make up, and those of a log that is spelled.
use Rattle.std.proofs.Common.{◌≡◌, ◌≢◌, ℕ, suc, ◌<◌, ◌≤◌, Bool, true, false, ◌==◌, nat_lt, List, [], ◌∷◌, ◌++◌}
use Rattle.std.proofs.Common.{if◌then◌else◌, map, drop, length, refl, sym, ap, ◌∙◌, subst, append_assoc, arith}
use Rattle.std.specs.List.{All, AllByRecursion, concat, join_with_byte, onto_first}
use Rattle.std.proofs.lemmas.Bool.Decides.{nat_tests}
use Rattle.std.proofs.lemmas.List.{append-nil}
use Rattle.std.proofs.lemmas.List.Elements.{All-nil, All-cons, All-head, All-tail, All-weaker}
use Rattle.std.proofs.lemmas.List.Splits.{join_with_byte-slice_split, length-slice_split, slice_split_at}
use Rattle.mm_model.specs.declared.line.Line.{Line}
use Rattle.mm_model.specs.Logs.Spelling.{spelling, spelling_of}
use Rattle.mm_model.specs.Logs.Trace.{pieces_of, ended_lines, last_piece, rest_of, line_if}
use Rattle.mm_model.proofs.Text.Traces.{NoNewline}
use Rattle.mm_audit.specs.Audit.{with_newline, log_lines}
use Rattle.mm_audit.proofs.Spellings.{EndsOnce, spelling-ends}

-- the lines of bytes that are cut into these pieces
abbrev lines_in : List (List ℕ) → List (List ℕ)
lines_in pieces =
    map with_newline (ended_lines pieces)
    ++ line_if (nat_lt 0 (length (last_piece pieces))) (last_piece pieces)

rest-joined : (rest : List ℕ) → concat (line_if (nat_lt 0 (length rest)) rest) ≡ rest
rest-joined [] = refl
rest-joined (b ∷ rest) =
    let e : nat_lt 0 (suc (length rest)) ≡ true = grind (arith, nat_tests) in
    rw e (append-nil (b ∷ rest))

lines_in-joined : (pieces : List (List ℕ)) → concat (lines_in pieces) ≡ join_with_byte 10 pieces
lines_in-joined [] = refl
lines_in-joined (rest ∷ []) = rest-joined rest
lines_in-joined (piece ∷ next ∷ pieces) =
    append_assoc piece (10 ∷ []) (concat (lines_in (next ∷ pieces)))
    ∙ ap (λ (xs : List ℕ). piece ++ 10 ∷ xs) (lines_in-joined (next ∷ pieces))

-- the lines are all of the bytes
pub log_lines-joined : (bytes : List ℕ) → concat (log_lines bytes) ≡ bytes
log_lines-joined bytes = lines_in-joined (pieces_of bytes) ∙ join_with_byte-slice_split 10 bytes

untested : (line : List ℕ) → NoNewline line → All (λ (b : ℕ). (b == 10) ≡ false) line
untested line clean = All-weaker (λ (b : ℕ). b ≢ 10) (λ (b : ℕ). (b == 10) ≡ false) test_fails line clean
  where
    test_fails : (b : ℕ) → b ≢ 10 → (b == 10) ≡ false
    test_fails b other = grind (arith, nat_tests)

-- one more piece in front
lines_in-cons : (piece : List ℕ) (pieces : List (List ℕ)) → 0 < length pieces
    → lines_in (piece ∷ pieces) ≡ with_newline piece ∷ lines_in pieces
lines_in-cons piece [] some = absurd (omega arith)
lines_in-cons piece (next ∷ pieces) some = refl

-- a line in front of other bytes
line-first : (line rest : List ℕ) → EndsOnce line → log_lines (line ++ rest) ≡ line ∷ log_lines rest
line-first line rest ends =
    ap log_lines (ap (λ (xs : List ℕ). xs ++ rest) ends.is ∙ append_assoc ends.body (10 ∷ []) rest)
    ∙ ap lines_in (slice_split_at (λ (b : ℕ). b == 10) ends.body 10 rest (untested ends.body ends.clean) refl)
    ∙ lines_in-cons ends.body (pieces_of rest) (omega (arith, length-slice_split (λ (b : ℕ). b == 10) rest))
    ∙ ap (λ (xs : List ℕ). xs ∷ log_lines rest) (sym ends.is)

-- the lines of a spelled log are the spellings
pub log_lines-spelled : (log : List Line) → log_lines (spelling_of log) ≡ map spelling log
log_lines-spelled [] = refl
log_lines-spelled (line ∷ log) =
    line-first (spelling line) (spelling_of log) (spelling-ends line)
    ∙ ap (λ (xs : List (List ℕ)). spelling line ∷ xs) (log_lines-spelled log)

-- no piece of a cut at newline bytes has one
onto_first-clean : (b : ℕ) (pieces : List (List ℕ)) → b ≢ 10 → AllByRecursion NoNewline pieces
    → AllByRecursion NoNewline (onto_first b pieces)
onto_first-clean b [] other clean = (All-cons (λ (c : ℕ). c ≢ 10) b [] other (All-nil (λ (c : ℕ). c ≢ 10)), tt)
onto_first-clean b (piece ∷ pieces) other clean =
    (All-cons (λ (c : ℕ). c ≢ 10) b piece other clean.0, clean.1)

pieces_of-clean : (bytes : List ℕ) → AllByRecursion NoNewline (pieces_of bytes)
pieces_of-clean [] = (All-nil (λ (c : ℕ). c ≢ 10), tt)
pieces_of-clean (b ∷ bytes) = split (pieces_of-clean bytes) (b == 10) refl
  where
    other : (b == 10) ≡ false → b ≢ 10
    other e = grind (arith, nat_tests)

    split : AllByRecursion NoNewline (pieces_of bytes) → (t : Bool) → (b == 10) ≡ t
        → AllByRecursion NoNewline (if t then [] ∷ pieces_of bytes else onto_first b (pieces_of bytes))
    split clean true e = (All-nil (λ (c : ℕ). c ≢ 10), clean)
    split clean false e = onto_first-clean b (pieces_of bytes) (other e) clean

last_piece-clean : (pieces : List (List ℕ)) → AllByRecursion NoNewline pieces → NoNewline (last_piece pieces)
last_piece-clean [] clean = All-nil (λ (b : ℕ). b ≢ 10)
last_piece-clean (rest ∷ []) clean = clean.0
last_piece-clean (piece ∷ next ∷ pieces) clean = last_piece-clean (next ∷ pieces) clean.1

ends_unclean : (body : List ℕ) → NoNewline (body ++ 10 ∷ []) → ⊥
ends_unclean [] clean = All-head (λ (b : ℕ). b ≢ 10) 10 [] clean refl
ends_unclean (b ∷ body) clean = ends_unclean body (All-tail (λ (c : ℕ). c ≢ 10) b (body ++ 10 ∷ []) clean)

-- what has no newline byte is no spelling
clean_is_no_spelling : (line : Line) (rest : List ℕ) → NoNewline rest → spelling line ≡ rest → ⊥
clean_is_no_spelling line rest clean e =
    let ends = spelling-ends line in
    ends_unclean ends.body (subst NoNewline (sym e ∙ ends.is) clean)

rest_of-clean : (bytes : List ℕ) → NoNewline (rest_of bytes)
rest_of-clean bytes = last_piece-clean (pieces_of bytes) (pieces_of-clean bytes)

pub rest_is_no_spelling : (line : Line) (bytes : List ℕ) → spelling line ≡ rest_of bytes → ⊥
rest_is_no_spelling line bytes = clean_is_no_spelling line (rest_of bytes) (rest_of-clean bytes)

abbrev first_of : List (List ℕ) → List ℕ
first_of [] = []
first_of (line ∷ lines) = line

-- where lines begin with spellings, as many of them have ended
spelled_have_ended : (ended : List (List ℕ)) (some : Bool) (rest : List ℕ) (front : List Line)
    (later : List (List ℕ)) → NoNewline rest
    → map with_newline ended ++ line_if some rest ≡ map spelling front ++ later → length front ≤ length ended
spelled_have_ended ended some rest [] later clean e = omega arith
spelled_have_ended [] true rest (line ∷ front) later clean e =
    absurd (clean_is_no_spelling line rest clean (sym (ap first_of e)))
spelled_have_ended [] false rest (line ∷ front) later clean e = cc
spelled_have_ended (piece ∷ ended) some rest (line ∷ front) later clean e =
    let fewer = spelled_have_ended ended some rest front later clean (ap (λ (xs : List (List ℕ)). drop 1 xs) e) in
    omega arith

pub fronts_have_ended : (bytes : List ℕ) (front : List Line) (later : List (List ℕ))
    → log_lines bytes ≡ map spelling front ++ later → length front ≤ length (ended_lines (pieces_of bytes))
fronts_have_ended bytes front later =
    spelled_have_ended (ended_lines (pieces_of bytes)) (nat_lt 0 (length (rest_of bytes))) (rest_of bytes) front later
    (rest_of-clean bytes)
