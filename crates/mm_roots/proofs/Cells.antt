-- A stack's words from the top down, where the list of its words grows at its end.
use Rattle.std.proofs.Common.{◌≡◌, ℕ, ◌+◌, ◌-◌, ◌<◌, ◌≤◌, ◌^◌, List, ◌++◌, length, reverse, take, drop}
use Rattle.std.proofs.Common.{arith, ap, sym, ◌∙◌}
use Rattle.std.proofs.lemmas.List.{length-reverse, length-take-le, length-drop, reverse-append}
use Rattle.std.proofs.lemmas.List.{take-append-drop, take-take, drop_at}
use Rattle.std.proofs.lemmas.List.Elements.{All-drop}
use Rattle.mm_words.specs.Piece.{Piece}
use Rattle.mm_roots.specs.Stack.{cells_of, popped, KeepsStack}

-- the words before the last k
reverse-take : (k n : ℕ) (xs : List ℕ) → length xs ≡ n + k → reverse (take n xs) ≡ drop k (reverse xs)
reverse-take k n xs size =
    let parts : reverse xs ≡ reverse (drop n xs) ++ reverse (take n xs) =
    ap reverse (sym (take-append-drop n xs)) ∙ reverse-append (take n xs) (drop n xs) in
    let top : length (reverse (drop n xs)) ≡ k =
    omega (arith, length-reverse (drop n xs), length-drop n xs) in
    sym (ap (drop k) parts ∙ drop_at (reverse (drop n xs)) (reverse (take n xs)) k top)

module _ (p : Piece) (depth limit : ℕ) (kept : KeepsStack p depth limit) where
  within : depth ≤ length p.words
  within = omega (arith, kept.within, kept.room)

  length-cells : length (reverse (take depth p.words)) ≡ depth
  length-cells = length-reverse (take depth p.words) ∙ length-take-le depth p.words within

  module _ (k : ℕ) (some : k ≤ length (reverse (take depth p.words))) where
    less : k ≤ depth
    less = omega (arith, some, length-cells)

    words-less : reverse (take (depth - k) p.words) ≡ drop k (reverse (take depth p.words))
    words-less = ap reverse (sym (take-take (depth - k) depth p.words (omega arith)))
        ∙ reverse-take k (depth - k) (take depth p.words)
        (omega (arith, less, length-take-le depth p.words within))

    -- the stack after a pop
    pub cells_of-less : cells_of p (depth - k) limit ≡ popped (cells_of p depth limit) k
    cells_of-less = ap (λ (ws : List ℕ). record (cells_of p depth limit) { words = ws }) words-less

    pub KeepsStack-less : KeepsStack p (depth - k) limit
    KeepsStack-less = record {
      within = omega (arith, kept.within);
      room = kept.room;
      small = kept.small;
      fitting = rw words-less (All-drop (λ w. w < 2 ^ 32) k (reverse (take depth p.words)) kept.fitting);
    }
