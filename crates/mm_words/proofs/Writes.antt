-- What a list reads after a write, for callers of `fill` and `part_mut`.
use Rattle.std.proofs.Common.{◌≡◌, ℕ, ◌+◌, ◌-◌, ◌<◌, ◌≤◌, List, ◌++◌, length, take, drop, get_or}
use Rattle.std.proofs.Common.{length-append, ap, sym, refl, ◌∙◌, arith}
use Rattle.std.proofs.lemmas.List.{length-take, length-drop, get_or-take, get_or_append_left, take_all}
use Rattle.std.proofs.lemmas.List.{get_or-append_right, get_or-drop, take-append-le, take-take, drop-append-le}
use Rattle.std.proofs.lemmas.List.{drop_at, take_at, drop-take}
use Rattle.std.proofs.lemmas.Slice.{drop-append-drop}
use Rattle.mm_words.specs.Writes.{written}

-- the list before it is cut to its old length
abbrev uncut : ℕ → List ℕ → List ℕ → List ℕ
uncut from ws xs = take from xs ++ ws ++ drop (from + length ws) xs

length-uncut : (from : ℕ) (ws xs : List ℕ) → length xs ≤ length (uncut from ws xs)
length-uncut from ws xs =
    omega (
      arith,
      length-append (take from xs ++ ws) (drop (from + length ws) xs),
      length-append (take from xs) ws,
      length-take from xs,
      length-drop (from + length ws) xs,
    )

pub length-written : (from : ℕ) (ws xs : List ℕ) → length (written from ws xs) ≡ length xs
length-written from ws xs = omega (arith, length-take (length xs) (uncut from ws xs), length-uncut from ws xs)

module _ (from : ℕ) (ws xs : List ℕ) (fits : from + length ws ≤ length xs) where
  front : length (take from xs) ≡ from
  front = omega (arith, length-take from xs)

  both : length (take from xs ++ ws) ≡ from + length ws
  both = length-append (take from xs) ws ∙ ap (λ (k : ℕ). k + length ws) front

  -- those before them
  pub get_or-written-before : (i d : ℕ) → i < from → get_or (written from ws xs) i d ≡ get_or xs i d
  get_or-written-before i d before =
      let here : i < length (take from xs ++ ws) = omega (arith, both) in
      let inside : i < length (take from xs) = omega (arith, front) in
      get_or-take (length xs) (uncut from ws xs) i d (omega arith)
      ∙ get_or_append_left (take from xs ++ ws) (drop (from + length ws) xs) d i here
      ∙ get_or_append_left (take from xs) ws d i inside ∙ get_or-take from xs i d before

  -- those after them
  pub get_or-written-after : (i d : ℕ) → from + length ws ≤ i → i < length xs
      → get_or (written from ws xs) i d ≡ get_or xs i d
  get_or-written-after i d after inside =
      let n = from + length ws in
      get_or-take (length xs) (uncut from ws xs) i d inside
      ∙ get_or-append_right (take from xs ++ ws) (drop n xs) n i d both after ∙ get_or-drop n xs (i - n) d
      ∙ ap (λ (k : ℕ). get_or xs k d) (let e : n + (i - n) ≡ i = omega arith in e)

  -- a write that fits leaves the length as it is
  pub written-is : written from ws xs ≡ take from xs ++ ws ++ drop (from + length ws) xs
  written-is =
      let size : length (uncut from ws xs) ≡ length xs =
      omega (
        arith,
        length-append (take from xs ++ ws) (drop (from + length ws) xs),
        both,
        length-drop (from + length ws) xs,
      ) in
      take_all (length xs) (uncut from ws xs) (omega arith)

  -- the words before the write, the written ones, and those behind
  pub take-written : (n : ℕ) → n ≤ from → take n (written from ws xs) ≡ take n xs
  take-written n before =
      ap (λ (x : List ℕ). take n x) written-is
      ∙ take-append-le n (take from xs ++ ws) (drop (from + length ws) xs) (omega (arith, both))
      ∙ take-append-le n (take from xs) ws (omega (arith, front)) ∙ take-take n from xs before

  pub drop-written : take (length ws) (drop from (written from ws xs)) ≡ ws
  drop-written =
      ap (λ (x : List ℕ). take (length ws) (drop from x)) written-is
      ∙ ap (λ (x : List ℕ). take (length ws) x)
      (drop-append-le from (take from xs ++ ws) (drop (from + length ws) xs) (omega (arith, both)))
      ∙ ap (λ (x : List ℕ). take (length ws) (x ++ drop (from + length ws) xs)) (drop_at (take from xs) ws from front)
      ∙ take_at ws (drop (from + length ws) xs) (length ws) refl

  pub drop-written_behind : (n : ℕ) → from + length ws ≤ n → drop n (written from ws xs) ≡ drop n xs
  drop-written_behind n behind =
      ap (λ (x : List ℕ). drop n x) written-is
      ∙ drop-append-drop (from + length ws) xs (take from xs ++ ws) n behind both

  -- a part before the write
  pub range-written_before : (n m : ℕ) → m + n ≤ from → take n (drop m (written from ws xs)) ≡ take n (drop m xs)
  range-written_before n m before =
      sym (drop-take m n (written from ws xs)) ∙ ap (λ (x : List ℕ). drop m x) (take-written (m + n) before)
      ∙ drop-take m n xs
