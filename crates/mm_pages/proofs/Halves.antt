-- The words of a tree after its two parts were written.
use Rattle.std.proofs.Common.{◌≡◌, ℕ, suc, ◌+◌, ◌-◌, ◌^◌, ◌≤◌, List, ◌++◌, length, take, drop, arith, sym, ◌∙◌, ap}
use Rattle.std.proofs.Common.{subst}
use Rattle.std.proofs.Math.Nat.{pow-suc}
use Rattle.std.proofs.lemmas.Nat.{pow_pos}
use Rattle.std.proofs.lemmas.List.{drop_at, length-take-le, length-drop, length-append, append-nil, drop_all}
use Rattle.std.proofs.lemmas.List.{drop-take, drop-drop, take_rest}
use Rattle.std.proofs.lemmas.Slice.{take-put_mid, take-put_mid_below, drop-put_mid}
use borrow.Rule.Slice.PartMut.{put_mid}
use Rattle.mm_pages.specs.Tree.{tree_words, lower, upper, Shows, HalvesShow}
use Rattle.mm_pages.specs.Free.{Marks, beyond, TellsRuns}
use Rattle.mm_pages.specs.declared.runs.Runs.{Runs}

-- a tree is a node and two trees
pub tree_words-suc : (height : ℕ) → tree_words (suc height) ≡ 3 + tree_words height + tree_words height
tree_words-suc height = omega (arith, pow-suc 2 height, pow_pos height)

-- what is written over the end of a list
pub drop-put_end : (n k : ℕ) (xs ys : List ℕ) → n ≤ length xs → length xs ≤ n + k → drop n (put_mid n k xs ys) ≡ ys
drop-put_end n k xs ys h e =
    drop_at (take n xs) (ys ++ drop k (drop n xs)) n (length-take-le n xs h)
    ∙ ap (λ (z : List ℕ). ys ++ z) (drop_all k (drop n xs) (omega (arith, length-drop n xs)))
    ∙ append-nil ys

length-put_at : (a k : ℕ) (xs ys : List ℕ) → a ≤ length xs → a + length ys ≤ length (put_mid a k xs ys)
length-put_at a k xs ys h =
    omega (
      arith,
      length-append (take a xs) (ys ++ drop k (drop a xs)),
      length-append ys (drop k (drop a xs)),
      length-take-le a xs h,
    )

length-put : (a k : ℕ) (xs ys : List ℕ) → a + k ≤ length xs → length ys ≡ k → length (put_mid a k xs ys) ≡ length xs
length-put a k xs ys h e =
    omega (
      arith,
      length-append (take a xs) (ys ++ drop k (drop a xs)),
      length-append ys (drop k (drop a xs)),
      length-take-le a xs (omega arith),
      length-drop k (drop a xs),
      length-drop a xs,
    )

pub lower-put : (height n k : ℕ) (words low high : List ℕ) → n ≡ tree_words height →
    length words ≡ tree_words (suc height) → length low ≡ n →
    lower height (put_mid (3 + n) k (put_mid 3 (3 + n - 3) words low) high) ≡ low
lower-put height n k words low high e s l =
    let once : List ℕ = put_mid 3 (3 + n - 3) words low in
    let twice : List ℕ = put_mid (3 + n) k once high in
    let room : 3 ≤ length words = omega (arith, tree_words-suc height) in
    let reach : 3 + n ≤ length once = omega (arith, length-put_at 3 (3 + n - 3) words low room) in
    let same : 3 + n ≡ 3 + length low = omega arith in
    ap (λ (x : ℕ). take x (drop 3 twice)) (sym e)
    ∙ sym (drop-take 3 n twice)
    ∙ ap (λ (x : List ℕ). drop 3 x) (take-put_mid_below (3 + n) k once high (3 + n) (omega arith) reach
    ∙ take-put_mid 3 (3 + n - 3) words low (3 + n) same room)
    ∙ drop_at (take 3 words) low 3 (length-take-le 3 words room)

pub upper-put : (height n k : ℕ) (words low high : List ℕ) → n ≡ tree_words height →
    length words ≡ tree_words (suc height) → length low ≡ n → n ≤ k →
    upper height (put_mid (3 + n) k (put_mid 3 (3 + n - 3) words low) high) ≡ high
upper-put height n k words low high e s l b =
    let once : List ℕ = put_mid 3 (3 + n - 3) words low in
    let size : length once ≡ length words = length-put 3 (3 + n - 3) words low
    (omega (arith, tree_words-suc height)) (omega arith) in
    ap (λ (x : ℕ). drop (3 + x) (put_mid (3 + n) k once high)) (sym e)
    ∙ drop-put_end (3 + n) k once high (omega (arith, tree_words-suc height)) (omega (arith, tree_words-suc height))

-- the part of the words that is written as the lower half
pub length-low : (height n : ℕ) (words : List ℕ) → n ≡ tree_words height → length words ≡ tree_words (suc height) →
    length (take (3 + n - 3) (drop 3 words)) ≡ n
length-low height n words e s = length-take-le (3 + n - 3) (drop 3 words)
    (omega (arith, length-drop 3 words, tree_words-suc height)) ∙ omega arith

-- a tree whose parts were written shows its halves as they do
pub HalvesShow-put : (height n : ℕ) (words low high : List ℕ) (free : Marks) → n ≡ tree_words height →
    length words ≡ tree_words (suc height) → length low ≡ length (take (3 + n - 3) (drop 3 words)) →
    Shows free height low → Shows (beyond (2 ^ height) free) height high →
    HalvesShow free height (put_mid (3 + n) (length (put_mid 3 (3 + n - 3) words low) - (3 + n))
    (put_mid 3 (3 + n - 3) words low) high)
HalvesShow-put height n words low high free e s l p q =
    let once : List ℕ = put_mid 3 (3 + n - 3) words low in
    let same : length low ≡ n = l ∙ length-low height n words e s in
    let size : length once ≡ length words = length-put 3 (3 + n - 3) words low
    (omega (arith, tree_words-suc height)) (omega arith) in
    let rest : n ≤ length once - (3 + n) = omega (arith, tree_words-suc height) in
    record {
      low = subst (λ (x : List ℕ). Shows free height x)
          (sym (lower-put height n (length once - (3 + n)) words low high e s same)) p;
      high = subst (λ (x : List ℕ). Shows (beyond (2 ^ height) free) height x)
          (sym (upper-put height n (length once - (3 + n)) words low high e s same rest)) q;
    }

-- the same runs of as many pages
pub TellsRuns-same : (free : Marks) (n m : ℕ) (a b : Runs) → n ≡ m → a ≡ b → TellsRuns free n b → TellsRuns free m a
TellsRuns-same free n m a b e r t = subst (λ (x : ℕ). TellsRuns free x a) e
    (subst (λ (x : Runs). TellsRuns free n x) (sym r) t)

-- the part of the words that the code reads as the lower half
pub lower-part : (height n : ℕ) (words : List ℕ) → n ≡ tree_words height →
    take (3 + n - 3) (drop 3 words) ≡ lower height words
lower-part height n words e = let same : 3 + n - 3 ≡ tree_words height = omega arith in
    ap (λ (x : ℕ). take x (drop 3 words)) same

-- and as the upper half
pub upper-part : (height n : ℕ) (words : List ℕ) → n ≡ tree_words height →
    take (length words - (3 + n)) (drop (3 + n) words) ≡ upper height words
upper-part height n words e = take_rest words (3 + n) ∙ ap (λ (x : ℕ). drop (3 + x) words) e

-- a node's own words are no part of its halves
pub lower-same : (height : ℕ) (words words' : List ℕ) → drop 3 words' ≡ drop 3 words →
    lower height words' ≡ lower height words
lower-same height words words' e = ap (λ (x : List ℕ). take (tree_words height) x) e

pub upper-same : (height : ℕ) (words words' : List ℕ) → drop 3 words' ≡ drop 3 words →
    upper height words' ≡ upper height words
upper-same height words words' e =
    sym (drop-drop (tree_words height) 3 words') ∙ ap (λ (x : List ℕ). drop (tree_words height) x) e
    ∙ drop-drop (tree_words height) 3 words

-- the part that the code reads as the upper half after it wrote the lower one
pub upper-after : (height n : ℕ) (words low : List ℕ) → n ≡ tree_words height →
    length words ≡ tree_words (suc height) → length low ≡ length (take (3 + n - 3) (drop 3 words)) →
    take (length (put_mid 3 (3 + n - 3) words low) - (3 + n))
    (drop (3 + n) (put_mid 3 (3 + n - 3) words low)) ≡ upper height words
upper-after height n words low e s l =
    let same : length low ≡ n = l ∙ length-low height n words e s in
    upper-part height n (put_mid 3 (3 + n - 3) words low) e
    ∙ drop-put_mid 3 (3 + n - 3) words low (3 + tree_words height) (omega arith)
    (omega (arith, tree_words-suc height)) (omega arith)

pub length-upper : (height : ℕ) (words : List ℕ) → length words ≡ tree_words (suc height) →
    length (upper height words) ≡ tree_words height
length-upper height words s = length-drop (3 + tree_words height) words ∙ omega (arith, tree_words-suc height)

-- a tree whose lower part alone was written
pub HalvesShow-put_low : (height n : ℕ) (words low : List ℕ) (free : Marks) → n ≡ tree_words height →
    length words ≡ tree_words (suc height) → length low ≡ length (take (3 + n - 3) (drop 3 words)) →
    Shows free height low → Shows (beyond (2 ^ height) free) height (upper height words) →
    HalvesShow free height (put_mid 3 (3 + n - 3) words low)
HalvesShow-put_low height n words low free e s l p q =
    let once : List ℕ = put_mid 3 (3 + n - 3) words low in
    let same : length low ≡ n = l ∙ length-low height n words e s in
    let room : 3 ≤ length words = omega (arith, tree_words-suc height) in
    let reach : 3 + n ≡ 3 + length low = omega arith in
    let low_is : lower height once ≡ low =
    ap (λ (x : ℕ). take x (drop 3 once)) (sym e)
    ∙ sym (drop-take 3 n once)
    ∙ ap (λ (x : List ℕ). drop 3 x) (take-put_mid 3 (3 + n - 3) words low (3 + n) reach room)
    ∙ drop_at (take 3 words) low 3 (length-take-le 3 words room) in
    let high_is : upper height once ≡ upper height words =
    drop-put_mid 3 (3 + n - 3) words low (3 + tree_words height) (omega arith) room (omega arith) in
    record {
      low = subst (λ (x : List ℕ). Shows free height x) (sym low_is) p;
      high = subst (λ (x : List ℕ). Shows (beyond (2 ^ height) free) height x) (sym high_is) q;
    }
