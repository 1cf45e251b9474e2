-- Single bits of words, and the marks that they are.
use Rattle.std.proofs.Common.{◌≡◌, ◌≢◌, ℕ, ◌+◌, ◌-◌, ◌*◌, ◌/◌, ◌%◌, ◌^◌, ◌<◌, ◌≤◌, Bool, true, false, nat_eq, eqb-true}
use Rattle.std.proofs.Common.{List, length, replicate, slice_index, slice_set, Option, Some, None, w64, ⊎_elim}
use Rattle.std.proofs.Common.{sym, ap, zero-add}
use Rattle.std.proofs.Common.{MatchOption}
use Rattle.std.proofs.Common.{◌∙◌, arith}
use Rattle.std.specs.Prelude.{slice_get}
use Rattle.std.specs.Int.{bit_at, trailing_zeros}
use Rattle.std.proofs.Math.ListN.{get_or}
use Rattle.std.proofs.Math.Nat.{div-le_self}
use Rattle.std.proofs.lemmas.Bool.{cases_eq, cases_lt}
use Rattle.std.proofs.lemmas.List.{ext_get_or, get_or-set_same, get_or-set_other, get_or-replicate, get_or_past}
use Rattle.std.proofs.lemmas.List.{length-replicate, length-set}
use Rattle.std.proofs.lemmas.List.FromFn.{get_or-map-range_with_len, length-map-range_with_len}
use Rattle.std.proofs.lemmas.Nat.{shr-shr}
use Rattle.std.proofs.lemmas.Nat.Bits.{bit_at-trailing_zeros, bit_at-zero, bit_at_above}
use Rattle.std.proofs.lemmas.Option.{slice_get-get_or, slice_get_within}
use Rattle.mm_audit.specs.Bits.{IsMarked, NoneBetween, IsNextBeside, bit_of, ChangesBit, bits_of, KeepsBits}
use Rattle.mm_audit.specs.Bits.{NoneBeside, IsLowestBeside}

-- a bit of a word that is 0
pub bit_of-zero : (words : List ℕ) (k : ℕ) → slice_index words (k / 64) ≡ 0 → bit_of words k ≡ 0
bit_of-zero words k e = ap (λ w. bit_at w (k % 64)) e ∙ bit_at-zero (k % 64)

-- bit b of word i
bit_of-word : (words : List ℕ) (i b : ℕ) → b < 64 → bit_of words (64 * i + b) ≡ bit_at (slice_index words i) b
bit_of-word words i b small =
    let word : (64 * i + b) / 64 ≡ i = omega arith in
    let place : (64 * i + b) % 64 ≡ b = omega arith in
    ap (λ n. bit_at (slice_index words n) ((64 * i + b) % 64)) word
    ∙ ap (λ n. bit_at (slice_index words i) n) place

-- a word is written in which one bit alone differs
pub write-changes : (words : List ℕ) (k old word value : ℕ) → k / 64 < length words
    → old ≡ slice_index words (k / 64) → bit_at word (k % 64) ≡ value
    → ((i : ℕ) → i < 64 → i ≢ k % 64 → bit_at word i ≡ bit_at old i)
    → ChangesBit words (slice_set words (k / 64) word) k value
write-changes words k old word value within read here others =
    let same = get_or-set_same words (k / 64) word 0 within in
    record {
      size = length-set words (k / 64) word;
      here = ap (λ w. bit_at w (k % 64)) same ∙ here;
      others = λ j apart.
          ⊎_elim
          (λ (e : j / 64 ≡ k / 64).
          let there : j % 64 ≢ k % 64 = omega arith in
          ap (λ i. bit_at (slice_index (slice_set words (k / 64) word) i) (j % 64)) e
          ∙ ap (λ w. bit_at w (j % 64)) same ∙ others (j % 64) (omega arith) there ∙ ap (λ w. bit_at w (j % 64)) read
          ∙ sym (ap (λ i. bit_at (slice_index words i) (j % 64)) e))
          (λ (ne : j / 64 ≢ k / 64).
          ap (λ w. bit_at w (j % 64)) (get_or-set_other words (k / 64) (j / 64) word 0 ne))
          (cases_eq (j / 64) (k / 64));
    }

-- what is left of the word of a bit where the bits below it are shifted out
abbrev pub rest_of : List ℕ → ℕ → ℕ
rest_of words from = slice_index words (from / 64) / 2 ^ (from % 64)

bit_of-rest : (words : List ℕ) (from i : ℕ) → from % 64 + i < 64
    → bit_of words (from + i) ≡ bit_at (rest_of words from) i
bit_of-rest words from i small =
    let e : from + i ≡ 64 * (from / 64) + (from % 64 + i) = omega arith in
    ap (bit_of words) e ∙ bit_of-word words (from / 64) (from % 64 + i) small
    ∙ ap (λ n. n % 2) (sym (shr-shr (slice_index words (from / 64)) (from % 64) i))

rest_short : (words : List ℕ) (from i : ℕ) → slice_index words (from / 64) < 2 ^ 64
    → bit_at (rest_of words from) i ≡ 1 → from % 64 + i < 64
rest_short words from i fits one =
    ⊎_elim (λ (less : from % 64 + i < 64). less)
    (λ (past : 64 ≤ from % 64 + i).
    absurd
    (omega (
      arith,
      one,
      ap (λ n. n % 2) (shr-shr (slice_index words (from / 64)) (from % 64) i),
      bit_at_above (slice_index words (from / 64)) 64 (from % 64 + i) fits past,
    )))
    (cases_lt (from % 64 + i) 64)

pub lowest-rest : (words : List ℕ) (from : ℕ) → rest_of words from ≢ 0 → slice_index words (from / 64) < 2 ^ 64
    → IsLowestBeside words from (from + trailing_zeros w64 (rest_of words from))
lowest-rest words from some fits =
    let rest_fits : rest_of words from < 2 ^ 64 =
    omega (arith, div-le_self (slice_index words (from / 64)) (2 ^ (from % 64))) in
    let t = bit_at-trailing_zeros w64 (rest_of words from) (omega arith) rest_fits in
    let short = rest_short words from (trailing_zeros w64 (rest_of words from)) fits t.1 in
    record {
      reached = omega arith;
      within = omega (arith, short);
      here = bit_of-rest words from (trailing_zeros w64 (rest_of words from)) short ∙ t.1;
      none_lower = λ j from_on below.
          let e : j ≡ from + (j - from) = omega arith in
          ap (bit_of words) e ∙ bit_of-rest words from (j - from) (omega (arith, short))
          ∙ t.2 (j - from) (omega arith);
    }

-- where none is left, none is set from there on in the word
pub none-rest : (words : List ℕ) (from : ℕ) → rest_of words from ≡ 0 → NoneBeside words from
none-rest words from none j from_on below =
    let e : j ≡ from + (j - from) = omega arith in
    ap (bit_of words) e ∙ bit_of-rest words from (j - from) (omega arith) ∙ ap (λ w. bit_at w (j - from)) none
    ∙ bit_at-zero (j - from)

-- bits as marks
pub length-bits : (words : List ℕ) (limit : ℕ) → length (bits_of words limit) ≡ limit
length-bits words limit = length-map-range_with_len (λ n. nat_eq (bit_of words n) 1) 0 limit

bits-get : (words : List ℕ) (limit n : ℕ) (d : Bool) → n < limit
    → get_or (bits_of words limit) n d ≡ nat_eq (bit_of words n) 1
bits-get words limit n d below =
    get_or-map-range_with_len (λ k. nat_eq (bit_of words k) 1) 0 limit n n d below (zero-add n)

pub bits-told : (words : List ℕ) (limit n : ℕ) → n < limit
    → slice_get (bits_of words limit) n ≡ Some (nat_eq (bit_of words n) 1)
bits-told words limit n below =
    slice_get-get_or (bits_of words limit) n false (omega (arith, length-bits words limit))
    ∙ ap (λ (b : Bool). Some b) (bits-get words limit n false below)

inside : (a b : Bool) → Some a ≡ Some b → a ≡ b
inside a b e = cc

pub marked-bit : (words : List ℕ) (limit n : ℕ) → IsMarked (bits_of words limit) n
    → (n < limit) × (bit_of words n ≡ 1)
marked-bit words limit n marked =
    let below : n < limit =
    omega (arith, slice_get_within (bits_of words limit) n true marked, length-bits words limit) in
    (below, eqb-true (bit_of words n) 1 (inside _ _ (sym (bits-told words limit n below) ∙ marked)))

pub bit-marked : (words : List ℕ) (limit n : ℕ) → n < limit → bit_of words n ≡ 1 → IsMarked (bits_of words limit) n
bit-marked words limit n below set =
    bits-told words limit n below ∙ ap (λ b. Some (nat_eq b 1)) set

-- the lowest bit in a word is the next mark
pub beside-next : (words : List ℕ) (limit from : ℕ) → KeepsBits words limit → (found : Option ℕ)
    → MatchOption found (NoneBeside words from) (IsLowestBeside words from)
    → MatchOption found (NoneBetween (bits_of words limit) from (64 * (from / 64 + 1)))
    (IsNextBeside (bits_of words limit) from)
beside-next words limit from keeps None none =
    λ n from_on below marked.
    let bit = marked-bit words limit n marked in
    let clear = none n from_on below in
    omega (arith, bit.1)
beside-next words limit from keeps (Some k) lowest =
    let reached = lowest.reached in
    let within = lowest.within in
    record {
      next = record {
        reached = reached;
        marked = bit-marked words limit k (keeps.below k lowest.here) lowest.here;
        least = λ lower from_on marked.
            ⊎_elim
            (λ (below : lower < k).
            let bit = marked-bit words limit lower marked in
            let clear = lowest.none_lower lower from_on below in
            absurd (omega (arith, bit.1)))
            (λ (past : k ≤ lower). past) (cases_lt lower k);
      };
      in_word = omega arith;
    }

-- one bit has changed
pub bits-changed : (words after : List ℕ) (limit n value : ℕ) → n < limit → ChangesBit words after n value
    → bits_of after limit ≡ slice_set (bits_of words limit) n (nat_eq value 1)
bits-changed words after limit n value below changes =
    ext_get_or false (bits_of after limit) (slice_set (bits_of words limit) n (nat_eq value 1))
    (length-bits after limit
    ∙ sym (length-set (bits_of words limit) n (nat_eq value 1) ∙ length-bits words limit))
    (λ i within.
    let small : i < limit = omega (arith, within, length-bits after limit) in
    bits-get after limit i false small
    ∙ ⊎_elim
    (λ (e : i ≡ n).
    ap (λ k. nat_eq (bit_of after k) 1) e ∙ ap (λ b. nat_eq b 1) changes.here
    ∙ sym
    (ap (λ k. get_or (slice_set (bits_of words limit) n (nat_eq value 1)) k false) e
    ∙ get_or-set_same (bits_of words limit) n (nat_eq value 1) false (omega (arith, length-bits words limit))))
    (λ (ne : i ≢ n).
    ap (λ b. nat_eq b 1) (changes.others i ne) ∙ sym (bits-get words limit i false small)
    ∙ sym (get_or-set_other (bits_of words limit) n i (nat_eq value 1) false ne))
    (cases_eq i n))

pub kept-changed : (words after : List ℕ) (limit n value : ℕ) → KeepsBits words limit → n < limit
    → ChangesBit words after n value → KeepsBits after limit
kept-changed words after limit n value keeps small changes =
    record {
      most = keeps.most;
      size = changes.size ∙ keeps.size;
      below = λ k set.
          ⊎_elim (λ (e : k ≡ n). omega (arith, e))
          (λ (ne : k ≢ n). keeps.below k (sym (changes.others k ne) ∙ set)) (cases_eq k n);
    }

-- no bit is set in words that are 0
abbrev pub zeros : ℕ → List ℕ
zeros n = replicate n 0

length-zeros : (n : ℕ) → length (zeros n) ≡ n
length-zeros n = length-replicate {A = ℕ} n 0

zero-get : (n i : ℕ) → get_or (zeros n) i 0 ≡ 0
zero-get n i =
    ⊎_elim (λ (within : i < n). get_or-replicate {A = ℕ} n i 0 0 within)
    (λ (past : n ≤ i). get_or_past {X = ℕ} (zeros n) i 0 (omega (arith, length-zeros n))) (cases_lt i n)

pub bits-zeros : (count limit : ℕ) → bits_of (zeros count) limit ≡ replicate limit false
bits-zeros count limit =
    ext_get_or false (bits_of (zeros count) limit) (replicate limit false)
    (length-bits (zeros count) limit ∙ sym (length-replicate limit false))
    (λ i within.
    let small : i < limit = omega (arith, within, length-bits (zeros count) limit) in
    bits-get (zeros count) limit i false small
    ∙ ap (λ b. nat_eq b 1) (bit_of-zero (zeros count) i (zero-get count (i / 64)))
    ∙ sym (get_or-replicate limit i false false small))

pub bit_of-zeros : (count k : ℕ) → bit_of (zeros count) k ≡ 1 → ⊥
bit_of-zeros count k set =
    let none = bit_of-zero (zeros count) k (zero-get count (k / 64)) in omega (arith, set, none)
