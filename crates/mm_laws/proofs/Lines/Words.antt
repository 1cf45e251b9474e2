-- Words without spaces and newlines, and how a sentence is cut into them again.
use Rattle.std.proofs.Common.{◌≡◌, ◌≢◌, ℕ, zero, suc, ◌+◌, ◌/◌, ◌%◌, ◌<◌, Bool, true, false, ◌==◌, nat_lt}
use Rattle.std.proofs.Common.{if◌then◌else◌, List, [], ◌∷◌, ◌++◌, length, decimal, refl, sym, ◌∙◌, ap, append_assoc}
use Rattle.std.proofs.Common.{arith}
use Rattle.std.specs.Fmt.{digits, digits_onto, digit_glyph}
use Rattle.std.specs.List.{All, AllByRecursion, list_all, slice_split, join_with_byte}
use Rattle.std.proofs.lemmas.Bool.{ltb-true}
use Rattle.std.proofs.lemmas.Bool.Decides.{nat_tests}
use Rattle.std.proofs.lemmas.List.Elements.{All-nil, All-cons, All-append, All-weaker}
use Rattle.std.proofs.lemmas.List.Splits.{slice_split_at, slice_split_none, join_with_byte-slice_split}
use Rattle.std.proofs.lemmas.List.Sums.{AllPass-from_list_all}
use Rattle.mm_model.specs.Logs.Spelling.{sentence}
use Rattle.mm_model.specs.Logs.Trace.{pieces_of}
use Rattle.mm_model.proofs.Text.Traces.{NoNewline}

-- each byte stands above the space, and so above the newline too
abbrev pub IsWord : List ℕ → Type 0
IsWord word = All (λ (b : ℕ). 32 < b) word

abbrev pub AreWords : List (List ℕ) → Type 0
AreWords words = AllByRecursion IsWord words

-- the same as a test
abbrev pub are_words : List (List ℕ) → Bool
are_words words = list_all (list_all (nat_lt 32)) words

pub IsWord-from_test : (word : List ℕ) → list_all (nat_lt 32) word ≡ true → IsWord word
IsWord-from_test word passes =
    All-weaker (λ (b : ℕ). nat_lt 32 b ≡ true) (λ (b : ℕ). 32 < b) (λ b e. ltb-true 32 b e) word
    (AllPass-from_list_all (nat_lt 32) word passes)

-- a digit stands above the space, whatever comes before it
digit_glyph-word : (d : ℕ) → 32 < digit_glyph false d
digit_glyph-word d =
    let split : (b : Bool) → 32 < (if b then 48 + d else 87 + d) = elim [ true ↦ omega arith | false ↦ omega arith ] in
    split (nat_lt d 10)

digits_onto-word : (k n : ℕ) (behind : List ℕ) → IsWord behind → IsWord (digits_onto k 10 false n behind)
digits_onto-word zero n behind word = word
digits_onto-word (suc k) n behind word =
    let longer = digit_glyph false (n % 10) ∷ behind in
    let longer_word : IsWord longer =
    All-cons (λ (b : ℕ). 32 < b) (digit_glyph false (n % 10)) behind (digit_glyph-word (n % 10)) word in
    let split : (b : Bool) → IsWord (if b then longer else digits_onto k 10 false (n / 10) longer) =
    elim [ true ↦ longer_word | false ↦ digits_onto-word k (n / 10) longer longer_word ] in
    split (n / 10 == 0)

pub decimal-word : (n : ℕ) → IsWord (decimal n)
unfolding digits
decimal-word n = digits_onto-word 64 n [] (All-nil (λ (b : ℕ). 32 < b))

-- a sentence is its words with spaces in between, and a newline
pub sentence-joined : (words : List (List ℕ)) → sentence words ≡ join_with_byte 32 words ++ 10 ∷ []
sentence-joined [] = refl
sentence-joined (word ∷ []) = refl
sentence-joined (word ∷ next ∷ words) =
    ap (λ (xs : List ℕ). word ++ 32 ∷ xs) (sentence-joined (next ∷ words))
    ∙ sym (append_assoc word (32 ∷ join_with_byte 32 (next ∷ words)) (10 ∷ []))

word_has_no_newline : (word : List ℕ) → IsWord word → NoNewline word
word_has_no_newline word clean = All-weaker (λ (b : ℕ). 32 < b) (λ (b : ℕ). b ≢ 10) (λ b h. omega arith) word clean

pub joined_words-no_newline : (words : List (List ℕ)) → AreWords words → NoNewline (join_with_byte 32 words)
joined_words-no_newline [] clean = All-nil (λ (b : ℕ). b ≢ 10)
joined_words-no_newline (word ∷ []) clean = word_has_no_newline word clean.0
joined_words-no_newline (word ∷ next ∷ words) clean =
    let rest = join_with_byte 32 (next ∷ words) in
    let space : 32 ≢ 10 = omega arith in
    All-append (λ (b : ℕ). b ≢ 10) word (32 ∷ rest) (word_has_no_newline word clean.0)
    (All-cons (λ (b : ℕ). b ≢ 10) 32 rest space (joined_words-no_newline (next ∷ words) clean.1))

abbrev pub is_space : ℕ → Bool
is_space b = b == 32

word_has_no_space : (word : List ℕ) → IsWord word → All (λ (b : ℕ). is_space b ≡ false) word
word_has_no_space word clean = All-weaker (λ (b : ℕ). 32 < b) (λ (b : ℕ). is_space b ≡ false) not_space word clean
  where
    not_space : (b : ℕ) → 32 < b → is_space b ≡ false
    not_space b h = grind (arith, nat_tests)

-- words that are joined by spaces are cut apart at the spaces
pub slice_split-joined_words : (words : List (List ℕ)) → AreWords words → 0 < length words
    → slice_split is_space (join_with_byte 32 words) ≡ words
slice_split-joined_words [] clean some = absurd (omega arith)
slice_split-joined_words (word ∷ []) clean some = slice_split_none is_space word (word_has_no_space word clean.0)
slice_split-joined_words (word ∷ next ∷ words) clean some =
    slice_split_at is_space word 32 (join_with_byte 32 (next ∷ words)) (word_has_no_space word clean.0) refl
    ∙ ap (λ (xs : List (List ℕ)). word ∷ xs) (slice_split-joined_words (next ∷ words) clean.1 (omega arith))

-- the first piece ends at the first newline
pub pieces_of-newline : (line rest : List ℕ) → NoNewline line
    → pieces_of ((line ++ 10 ∷ []) ++ rest) ≡ line ∷ pieces_of rest
pieces_of-newline line rest clean =
    ap pieces_of (append_assoc line (10 ∷ []) rest) ∙ slice_split_at (λ (b : ℕ). b == 10) line 10 rest passed refl
  where
    not_newline : (b : ℕ) → b ≢ 10 → (b == 10) ≡ false
    not_newline b other = grind (arith, nat_tests)

    passed : All (λ (b : ℕ). (b == 10) ≡ false) line
    passed = All-weaker (λ (b : ℕ). b ≢ 10) (λ (b : ℕ). (b == 10) ≡ false) not_newline line clean

-- the pieces of bytes determine the bytes
pub pieces_of-injective : (xs ys : List ℕ) → pieces_of xs ≡ pieces_of ys → xs ≡ ys
pieces_of-injective xs ys same =
    sym (join_with_byte-slice_split 10 xs) ∙ ap (join_with_byte 10) same ∙ join_with_byte-slice_split 10 ys
