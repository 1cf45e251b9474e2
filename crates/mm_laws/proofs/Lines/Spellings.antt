-- Spellings behind one another: each ends at its newline.
use Rattle.std.proofs.Common.{◌≡◌, ℕ, ◌⊎◌, List, [], ◌∷◌, ◌++◌, ◌+◌, length, get_or, drop, append-nil, sym, ◌∙◌, ap}
use Rattle.std.proofs.Common.{arith, length-append}
use Rattle.std.specs.List.{All, slice_split}
use Rattle.std.proofs.lemmas.List.Elements.{All-head, All-tail}
use Rattle.mm_model.specs.declared.line.Line.{Line}
use Rattle.mm_model.specs.Logs.Spelling.{spelling, spelling_of}
use Rattle.mm_model.specs.Logs.Trace.{pieces_of}
use Rattle.mm_laws.specs.Lines.{IsSpelledInFull, AreNothing, AreAlike}
use Rattle.mm_laws.proofs.Lines.Words.{is_space, slice_split-joined_words, pieces_of-newline, pieces_of-injective}
use Rattle.mm_laws.proofs.Lines.LineWords.{body, line_words, line_words-clean, line_words-some, spelling-body}
use Rattle.mm_laws.proofs.Lines.LineWords.{body-no_newline}
use Rattle.mm_laws.proofs.Lines.ReadBack.{line_words-alike}

pieces_of-spelling : (line : Line) (rest : List ℕ) → pieces_of (spelling line ++ rest) ≡ body line ∷ pieces_of rest
pieces_of-spelling line rest =
    ap (λ (bytes : List ℕ). pieces_of (bytes ++ rest)) (spelling-body line)
    ∙ pieces_of-newline (body line) rest (body-no_newline line)

-- the bodies are the same, and what stands behind them
record AreSplitAlike (x y : Line) (more rest : List ℕ) : Type 0 where
  bodies : body x ≡ body y
  others : more ≡ rest

split_spellings : (x y : Line) (more rest : List ℕ) → spelling x ++ more ≡ spelling y ++ rest
    → AreSplitAlike x y more rest
split_spellings x y more rest same =
    let pieces : body x ∷ pieces_of more ≡ body y ∷ pieces_of rest =
    sym (pieces_of-spelling x more) ∙ ap pieces_of same ∙ pieces_of-spelling y rest in
    record {
      bodies = ap (λ (ps : List (List ℕ)). get_or ps 0 []) pieces;
      others = pieces_of-injective more rest (ap (λ (ps : List (List ℕ)). drop 1 ps) pieces);
    }

-- a spelling that begins with another one ends with it
pub spelling-whole : (x y : Line) (rest : List ℕ) → spelling x ++ rest ≡ spelling y → rest ≡ []
spelling-whole x y rest same = (split_spellings x y rest [] (same ∙ sym (append-nil (spelling y)))).others

words_of_body : (line : Line) → slice_split is_space (body line) ≡ line_words line
words_of_body line = slice_split-joined_words (line_words line) (line_words-clean line) (line_words-some line)

body-alike : (x y : Line) → IsSpelledInFull x → IsSpelledInFull y → body x ≡ body y → (x ≡ y) ⊎ AreNothing x y
body-alike x y full_x full_y same =
    line_words-alike x y full_x full_y
    (sym (words_of_body x) ∙ ap (slice_split is_space) same ∙ words_of_body y)

-- lines that are spelled alike
pub spelling-alike : (x y : Line) → IsSpelledInFull x → IsSpelledInFull y → spelling x ≡ spelling y
    → (x ≡ y) ⊎ AreNothing x y
spelling-alike x y full_x full_y same =
    body-alike x y full_x full_y
    (split_spellings x y [] [] (ap (λ (bytes : List ℕ). bytes ++ []) same)).bodies

some_bytes : (line : Line) (rest : List ℕ) → [] ≡ spelling line ++ rest → ⊥
some_bytes line rest none =
    let whole : length (spelling line) ≡ length (body line) + 1 =
    ap length (spelling-body line) ∙ length-append (body line) (10 ∷ []) in
    let none_long : 0 ≡ length (spelling line ++ rest) = ap length none in
    omega (arith, whole, none_long, length-append (spelling line) rest)

-- logs that are spelled alike
pub spelling_of-alike : (xs ys : List Line) → All IsSpelledInFull xs → All IsSpelledInFull ys
    → spelling_of xs ≡ spelling_of ys
    → AreAlike xs ys
spelling_of-alike [] [] full_xs full_ys same = tt
spelling_of-alike [] (y ∷ ys) full_xs full_ys same = some_bytes y (spelling_of ys) same
spelling_of-alike (x ∷ xs) [] full_xs full_ys same = some_bytes x (spelling_of xs) (sym same)
spelling_of-alike (x ∷ xs) (y ∷ ys) full_xs full_ys same =
    let split = split_spellings x y (spelling_of xs) (spelling_of ys) same in (
      body-alike x y (All-head IsSpelledInFull x xs full_xs) (All-head IsSpelledInFull y ys full_ys) split.bodies,
      spelling_of-alike xs ys (All-tail IsSpelledInFull x xs full_xs) (All-tail IsSpelledInFull y ys full_ys)
          split.others,
    )
