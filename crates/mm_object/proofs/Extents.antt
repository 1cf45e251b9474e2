-- The words of an extent, and what a write leaves of them.
use Rattle.std.proofs.Common.{◌≡◌, ℕ, ◌+◌, ◌-◌, ◌/◌, ◌<◌, ◌≤◌, List, length, take, drop, get_or, sym, ap, ◌∙◌, arith}
use Rattle.std.specs.Prelude.{min, set}
use Rattle.std.proofs.Math.Seq.{take-set-lt}
use Rattle.std.proofs.lemmas.List.{length-take, length-drop, get_or-take, get_or-drop, drop-set-add}
use Rattle.std.proofs.lemmas.List.{ext_get_or, take-take}
use Rattle.mm_words.specs.Writes.{written}
use Rattle.mm_words.proofs.Writes.{drop-written}
use Rattle.mm_object.specs.Kept.{extent_words}

pub length-extent_words : (words : List ℕ) (base extent : ℕ)
    → length (extent_words words base extent) ≡ min (extent / 4) (length words - base / 4)
length-extent_words words base extent =
    length-take (extent / 4) (drop (base / 4) words) ∙ ap (min (extent / 4)) (length-drop (base / 4) words)

pub extent_words-get : (words : List ℕ) (base extent i : ℕ) → i < extent / 4
    → get_or (extent_words words base extent) i 0 ≡ get_or words (base / 4 + i) 0
extent_words-get words base extent i within =
    get_or-take (extent / 4) (drop (base / 4) words) i 0 within ∙ get_or-drop (base / 4) words i 0

-- where the same words stand in an extent, it's the same
pub extent_words-same : (words others : List ℕ) (base extent : ℕ) → length others ≡ length words
    → ((i : ℕ) → base / 4 ≤ i → i < base / 4 + extent / 4 → get_or others i 0 ≡ get_or words i 0)
    → extent_words others base extent ≡ extent_words words base extent
extent_words-same words others base extent size same =
    ext_get_or 0 (extent_words others base extent) (extent_words words base extent)
    (omega (arith, length-extent_words others base extent, length-extent_words words base extent))
    (λ i within.
    let short : i < extent / 4 = omega (arith, length-extent_words others base extent) in
    extent_words-get others base extent i short ∙ same (base / 4 + i) (omega arith) (omega arith)
    ∙ sym (extent_words-get words base extent i short))

-- a write into an extent
pub extent_words-set : (words : List ℕ) (base extent i word : ℕ) → i < extent / 4
    → extent_words (set words (base / 4 + i) word) base extent ≡ set (extent_words words base extent) i word
extent_words-set words base extent i word within =
    ap (take (extent / 4)) (drop-set-add (base / 4) words i word)
    ∙ take-set-lt (extent / 4) (drop (base / 4) words) i word within

-- the first words of an extent once they were written
pub extent_words-written : (words news : List ℕ) (base extent : ℕ) → length news ≤ extent / 4
    → base / 4 + length news ≤ length words
    → take (length news) (extent_words (written (base / 4) news words) base extent) ≡ news
extent_words-written words news base extent short within =
    take-take (length news) (extent / 4) (drop (base / 4) (written (base / 4) news words)) short
    ∙ drop-written (base / 4) news words within
