-- The words of objects, row by row: which stand where after a row is set, and after rows of zeros are added.
use Rattle.std.proofs.Common.{◌≡◌, ℕ, ◌≤◌, zero, suc, List, [], ◌∷◌, ◌++◌, map, length, Option, Some, sym, ap, ◌∙◌}
use Rattle.std.proofs.Common.{subst, ◌⊎◌, ⊎_elim, inl, inr, arith}
use Rattle.std.specs.Prelude.{slice_get, slice_set, replicate}
use Rattle.std.specs.Option.{option_and_then}
use Rattle.std.proofs.lemmas.Bool.{cases_eq}
use Rattle.mm_model.proofs.Lists.Replaced.{get-set_same, get-set_other, get-set_cases}

-- the word in a place of a row
abbrev pub word_in : List (List ℕ) → ℕ → ℕ → Option ℕ
word_in rows i s = option_and_then (λ row. slice_get row s) (slice_get rows i)

get-zeros : (n s word : ℕ) → slice_get (replicate n 0) s ≡ Some word → word ≡ 0
get-zeros zero s word e = cc
get-zeros (suc n) zero word e = cc
get-zeros (suc n) (suc s) word e = get-zeros n s word e

-- rows of zeros
abbrev pub zeros : List ℕ → List (List ℕ)
zeros counts = map (λ n. replicate n 0) counts

word_in-zeros : (counts : List ℕ) (i s word : ℕ) → word_in (zeros counts) i s ≡ Some word → word ≡ 0
word_in-zeros [] i s word e = cc
word_in-zeros (n ∷ counts) zero s word e = get-zeros n s word e
word_in-zeros (n ∷ counts) (suc i) s word e = word_in-zeros counts i s word e

-- what stands in rows with rows of zeros behind them stands in the rows, or is 0 behind them
pub word_in-more : (rows : List (List ℕ)) (counts : List ℕ) (i s word : ℕ)
    → word_in (rows ++ zeros counts) i s ≡ Some word
    → (word_in rows i s ≡ Some word) ⊎ ((length rows ≤ i) × (word ≡ 0))
word_in-more [] counts i s word e = inr (omega arith, word_in-zeros counts i s word e)
word_in-more (row ∷ rows) counts zero s word e = inl e
word_in-more (row ∷ rows) counts (suc i) s word e =
    ⊎_elim (λ (l : word_in rows i s ≡ Some word). inl l)
    (λ (r : (length rows ≤ i) × (word ≡ 0)). inr (let behind = r.0 in omega arith, r.1))
    (word_in-more rows counts i s word e)

module _ (rows : List (List ℕ)) (row : List ℕ) (i s new : ℕ) (is : slice_get rows i ≡ Some row) where
  -- one word of a row is set
  abbrev pub with_word : List (List ℕ)
  with_word = slice_set rows i (slice_set row s new)

  row_is : slice_get with_word i ≡ Some (slice_set row s new)
  row_is = get-set_same rows i row (slice_set row s new) is

  -- there it stands
  pub word_in-set_same : (word : ℕ) → word_in with_word i s ≡ Some word → word ≡ new
  word_in-set_same word e =
      let own = sym (ap (option_and_then (λ (r : List ℕ). slice_get r s)) row_is) ∙ e in
      ⊎_elim (λ (l : (s ≡ s) × (new ≡ word)). sym l.1)
      (λ (r : slice_get row s ≡ Some word).
      let there = get-set_same row s word new r in let same : word ≡ new = cc in same)
      (get-set_cases row s s new word own)

  -- and anywhere else stands what stood there
  pub word_in-set_other : (j t word : ℕ) → (j ≡ i → t ≡ s → ⊥) → word_in with_word j t ≡ Some word
      → word_in rows j t ≡ Some word
  word_in-set_other j t word other e =
      ⊎_elim
      (λ (same : j ≡ i).
      let own : word_in with_word i t ≡ Some word = subst (λ n. word_in with_word n t ≡ Some word) same e in
      let in_row = sym (ap (option_and_then (λ (r : List ℕ). slice_get r t)) row_is) ∙ own in
      let before = sym (get-set_other row s t new (other same)) ∙ in_row in
      subst (λ n. word_in rows n t ≡ Some word) (sym same)
      (ap (option_and_then (λ (r : List ℕ). slice_get r t)) is ∙ before))
      (λ (differs : j ≡ i → ⊥).
      ap (option_and_then (λ (r : List ℕ). slice_get r t))
      (sym (get-set_other rows i j (slice_set row s new) differs)) ∙ e)
      (cases_eq j i)
