-- How a scan over the bytes of a line finds its words.
use Rattle.std.proofs.Common.{◌≡◌, ℕ, suc, ◌+◌, ◌-◌, ◌<◌, ◌==◌, Bool, true, false, cond, not, ltb, List, [], ◌∷◌}
use Rattle.std.proofs.Common.{length, take, drop, length-drop, refl, sym, ap, ◌∙◌, arith}
use Rattle.std.proofs.lemmas.Grind.{common_steps}
use Rattle.std.proofs.lemmas.List.{take_all}
use Rattle.std.specs.List.{prefix_len, slice_split}
use Rattle.std.proofs.lemmas.List.Folds.{length-prefix_len}
use Rattle.mm_model.specs.Logs.Trace.{words_of}

-- what stands behind the first n bytes, as a slice without an end has it
pub take-drop_rest : (line : List ℕ) (n : ℕ) → take (length line - n) (drop n line) ≡ drop n line
take-drop_rest line n = take_all (length line - n) (drop n line) (omega (arith, length-drop n line))

abbrev pub is_space : ℕ → Bool
is_space b = b == 32

abbrev pub no_space : ℕ → Bool
no_space b = not (b == 32)

drop-next : (n b : ℕ) (line : List ℕ) → drop (1 + n) (b ∷ line) ≡ drop n line
drop-next n b line = let e : 1 + n ≡ suc n = omega arith in rw e refl

take-next : (n b : ℕ) (line : List ℕ) → take (1 + n) (b ∷ line) ≡ b ∷ take n line
take-next n b line = let e : 1 + n ≡ suc n = omega arith in rw e refl

words_of-space : (b : ℕ) (line : List ℕ) → (b == 32) ≡ true → words_of (b ∷ line) ≡ words_of line
words_of-space b line e = rw e refl

-- spaces in front make no difference
words_of-skip_by : (r : Bool) (b : ℕ) (line : List ℕ) → (b == 32) ≡ r
    → words_of (drop (prefix_len is_space line) line) ≡ words_of line
    → words_of (drop (cond r (1 + prefix_len is_space line) 0) (b ∷ line)) ≡ words_of (b ∷ line)
words_of-skip_by true b line e ih =
    ap words_of (drop-next (prefix_len is_space line) b line) ∙ ih ∙ sym (words_of-space b line e)
words_of-skip_by false b line e ih = refl

pub words_of-skip : (line : List ℕ) → words_of (drop (prefix_len is_space line) line) ≡ words_of line
words_of-skip [] = refl
words_of-skip (b ∷ line) = words_of-skip_by (b == 32) b line refl (words_of-skip line)

-- a line's first piece, up to its first space, and the pieces after it
abbrev FirstPiece : ℕ → List ℕ → Type 0
FirstPiece n line =
    (pieces : List (List ℕ)) × (slice_split is_space line ≡ take n line ∷ pieces)
    × (slice_split is_space (drop n line) ≡ [] ∷ pieces)

first_piece_by : (r : Bool) (b : ℕ) (line : List ℕ) → (b == 32) ≡ r
    → FirstPiece (prefix_len no_space line) line
    → FirstPiece (cond (not r) (1 + prefix_len no_space line) 0) (b ∷ line)
first_piece_by true b line e w = (slice_split is_space line, rw e refl, rw e refl)
first_piece_by false b line e w =
    let n = prefix_len no_space line in (
      w.0,
      rw (e, w.1) (ap (λ (x : List ℕ). x ∷ w.0) (sym (take-next n b line))),
      ap (slice_split is_space) (drop-next n b line) ∙ w.2,
    )

first_piece : (line : List ℕ) → FirstPiece (prefix_len no_space line) line
first_piece [] = ([], refl, refl)
first_piece (b ∷ line) = first_piece_by (b == 32) b line refl (first_piece line)

-- the first word ends at the first space
pub words_of-cut : (line : List ℕ) → 0 < prefix_len no_space line
    → words_of line ≡ take (prefix_len no_space line) line ∷ words_of (drop (prefix_len no_space line) line)
words_of-cut line h =
    let w = first_piece line in
    let full : ltb 0 (length (take (prefix_len no_space line) line)) ≡ true =
    grind (arith, common_steps, length-prefix_len no_space line) in
    rw (w.1, w.2, full) refl

-- after the spaces in front a word begins, or the line is at its end
begins_word_by : (r : Bool) (b : ℕ) (line : List ℕ) → (b == 32) ≡ r
    → (0 < length (drop (prefix_len is_space line) line)
    → 0 < prefix_len no_space (drop (prefix_len is_space line) line))
    → 0 < length (drop (cond r (1 + prefix_len is_space line) 0) (b ∷ line))
    → 0 < prefix_len no_space (drop (cond r (1 + prefix_len is_space line) 0) (b ∷ line))
begins_word_by true b line e ih h =
    rw (drop-next (prefix_len is_space line) b line) (ih (rw (drop-next (prefix_len is_space line) b line) at h))
begins_word_by false b line e ih h = rw e (omega arith)

pub begins_word : (line : List ℕ) → 0 < length (drop (prefix_len is_space line) line)
    → 0 < prefix_len no_space (drop (prefix_len is_space line) line)
begins_word [] h = absurd (omega arith)
begins_word (b ∷ line) h = begins_word_by (b == 32) b line refl (begins_word line) h

-- a line of spaces alone has no word
pub words_of-none : (line text : List ℕ) (n : ℕ) → n ≡ prefix_len is_space line → text ≡ drop n line
    → length text ≡ 0 → words_of line ≡ []
words_of-none line [] n e t h = sym (words_of-skip line) ∙ ap words_of (sym (ap (λ k. drop k line) e) ∙ sym t)
words_of-none line (b ∷ text) n e t h = absurd (omega arith)

-- the first word stands between the spaces in front and the next space, or the end
pub words_of-first : (line text front back : List ℕ) (n k : ℕ) → n ≡ prefix_len is_space line
    → text ≡ drop n line → 0 < length text
    → k ≡ prefix_len no_space text → front ≡ take k text → back ≡ drop k text → words_of line ≡ front ∷ words_of back
words_of-first line text front back n k e t h f g b =
    let from : text ≡ drop (prefix_len is_space line) line = cc in
    let some : 0 < prefix_len no_space text = rw from (begins_word line (rw from at h)) in
    sym (words_of-skip line) ∙ ap words_of (sym from) ∙ words_of-cut text some
    ∙ rw (g, b, f) refl
