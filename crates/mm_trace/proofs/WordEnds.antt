-- How the words of a plain line follow from what stands at its front.
use Rattle.std.proofs.Common.{◌≡◌, ℕ, ◌-◌, ◌<◌, ◌≤◌, ◌==◌, Bool, true, false, ltb, List, [], ◌∷◌, ◌++◌, length, take}
use Rattle.std.proofs.Common.{drop, get_or, refl, ap, ◌∙◌, arith, append-nil}
use Rattle.std.proofs.lemmas.Grind.{common_steps}
use Rattle.std.proofs.lemmas.List.{take_all}
use Rattle.std.specs.List.{slice_split}
use Rattle.mm_model.specs.Logs.Trace.{words_of}
use Rattle.mm_trace.specs.Plain.{has_no_space, EndsWord}
use Rattle.mm_trace.proofs.Words.{is_space}

slice_split-word_by : (r : Bool) (b : ℕ) (word rest : List ℕ) → (b == 32) ≡ r
    → has_no_space (b ∷ word) ≡ true
    → (has_no_space word ≡ true → slice_split is_space (word ++ 32 ∷ rest) ≡ word ∷ slice_split is_space rest)
    → slice_split is_space (b ∷ (word ++ 32 ∷ rest)) ≡ (b ∷ word) ∷ slice_split is_space rest
slice_split-word_by true b word rest e h ih = let no : false ≡ true = rw e at h in cc
slice_split-word_by false b word rest e h ih = rw (e, ih (rw e at h)) refl

-- a word without spaces is the first piece of a line
slice_split-word : (word rest : List ℕ) → has_no_space word ≡ true
    → slice_split is_space (word ++ 32 ∷ rest) ≡ word ∷ slice_split is_space rest
slice_split-word [] rest h = refl
slice_split-word (b ∷ word) rest h = slice_split-word_by (b == 32) b word rest refl h (slice_split-word word rest)

slice_split-whole_by : (r : Bool) (b : ℕ) (word : List ℕ) → (b == 32) ≡ r → has_no_space (b ∷ word) ≡ true
    → (has_no_space word ≡ true → slice_split is_space word ≡ word ∷ [])
    → slice_split is_space (b ∷ word) ≡ (b ∷ word) ∷ []
slice_split-whole_by true b word e h ih = let no : false ≡ true = rw e at h in cc
slice_split-whole_by false b word e h ih = rw (e, ih (rw e at h)) refl

-- a word without spaces is the only piece of itself
slice_split-whole : (word : List ℕ) → has_no_space word ≡ true → slice_split is_space word ≡ word ∷ []
slice_split-whole [] h = refl
slice_split-whole (b ∷ word) h = slice_split-whole_by (b == 32) b word refl h (slice_split-whole word)

words_of-space_behind : (rest word : List ℕ) → 0 < length word → has_no_space word ≡ true
    → words_of (word ++ 32 ∷ rest) ≡ word ∷ words_of rest
words_of-space_behind rest word some h =
    let full : ltb 0 (length word) ≡ true = grind (arith, common_steps) in rw (slice_split-word word rest h, full) refl

words_of-whole : (word : List ℕ) → 0 < length word → has_no_space word ≡ true → words_of word ≡ word ∷ []
words_of-whole word some h =
    let full : ltb 0 (length word) ≡ true = grind (arith, common_steps) in rw (slice_split-whole word h, full) refl

-- the end of a line ends a word
pub EndsWord-end : (text : List ℕ) → length text < 1 → EndsWord text text
EndsWord-end [] none word some h = ap words_of (append-nil word) ∙ words_of-whole word some h
EndsWord-end (b ∷ text) none word some h = absurd (omega arith)

-- one space ends a word
pub EndsWord-space : (text : List ℕ) → 1 ≤ length text → get_or text 0 0 ≡ 32
    → EndsWord text (take (length text - 1) (drop 1 text))
EndsWord-space [] some first = absurd (omega arith)
EndsWord-space (b ∷ rest) some first =
    let all : take (length (b ∷ rest) - 1) rest ≡ rest = take_all _ rest (omega arith) in
    rw (first, all) (words_of-space_behind rest)
