-- The words from a place on, as words of memory change.
use Rattle.std.proofs.Common.{◌≡◌, ◌≢◌, ℕ, zero, suc, ◌+◌, ◌<◌, ◌≤◌, List, Option, Some, None, length, get_or}
use Rattle.std.proofs.Common.{set, replicate, refl, sym, ap, ◌∙◌, arith}
use Rattle.std.specs.Prelude.{slice_get}
use Rattle.std.specs.Option.{unwrap_or}
use Rattle.std.proofs.lemmas.List.{get_or-set_same, get_or-set_other}
use Rattle.std.proofs.lemmas.Option.{get_or_from_slice_get, unwrap_or-slice_get}
use Rattle.mm_roots.specs.Views.{word_at, words_from}

pub word_at-get : (raw : List (Option ℕ)) (place word : ℕ) → slice_get raw place ≡ Some (Some word) →
    word_at raw place ≡ word
word_at-get raw place word is =
    ap (λ (o : Option ℕ). unwrap_or o 0) (get_or_from_slice_get raw place (Some word) None is)

pub word_at-same : (raw other : List (Option ℕ)) (place word : ℕ) → slice_get raw place ≡ Some (Some word) →
    slice_get other place ≡ Some (Some word) → word_at other place ≡ word_at raw place
word_at-same raw other place word is same = word_at-get other place word same ∙ sym (word_at-get raw place word is)

pub word_at-alike : (raw other : List (Option ℕ)) (place : ℕ) → slice_get other place ≡ slice_get raw place →
    word_at other place ≡ word_at raw place
word_at-alike raw other place same =
    ap (λ (o : Option ℕ). unwrap_or o 0)
    (sym (unwrap_or-slice_get other place None) ∙ ap (λ o. unwrap_or o None) same ∙ unwrap_or-slice_get raw place None)

pub word_at-set_same : (raw : List (Option ℕ)) (place word : ℕ) → place < length raw →
    word_at (set raw place (Some word)) place ≡ word
word_at-set_same raw place word within =
    ap (λ (o : Option ℕ). unwrap_or o 0) (get_or-set_same raw place (Some word) None within)

pub word_at-set_other : (raw : List (Option ℕ)) (place other : ℕ) (word : Option ℕ) → other ≢ place →
    word_at (set raw place word) other ≡ word_at raw other
word_at-set_other raw place other word apart =
    ap (λ (o : Option ℕ). unwrap_or o 0) (get_or-set_other raw place other word None apart)

pub words_from-same : (raw other : List (Option ℕ)) (place count : ℕ) →
    ((here : ℕ) → place ≤ here → here < place + count → word_at other here ≡ word_at raw here) →
    words_from other place count ≡ words_from raw place count
words_from-same raw other place zero same = refl
words_from-same raw other place (suc count) same =
    let first = same place (omega arith) (omega arith) in
    let rest = words_from-same raw other (place + 1) count (λ here from to. same here (omega arith) (omega arith)) in
    cc

pub length-words_from : (raw : List (Option ℕ)) (place count : ℕ) → length (words_from raw place count) ≡ count
length-words_from raw place zero = refl
length-words_from raw place (suc count) = ap suc (length-words_from raw (place + 1) count)

pub get_or-words_from : (raw : List (Option ℕ)) (place count s here d : ℕ) → s < count → here ≡ place + s →
    get_or (words_from raw place count) s d ≡ word_at raw here
get_or-words_from raw place zero s here d within is = absurd (omega arith)
get_or-words_from raw place (suc count) zero here d within is =
    let same : place ≡ here = omega arith in ap (word_at raw) same
get_or-words_from raw place (suc count) (suc s) here d within is =
    get_or-words_from raw (place + 1) count s here d (omega arith) (omega arith)

pub words_from-set : (raw : List (Option ℕ)) (place count s here word : ℕ) → s < count → here ≡ place + s →
    here < length raw →
    words_from (set raw here (Some word)) place count ≡ set (words_from raw place count) s word
words_from-set raw place zero s here word within is room = absurd (omega arith)
words_from-set raw place (suc count) zero here word within is room =
    let same : here ≡ place = omega arith in
    let first : word_at (set raw here (Some word)) place ≡ word =
    ap (λ p. word_at (set raw here (Some word)) p) (sym same) ∙ word_at-set_same raw here word room in
    let rest = words_from-same raw (set raw here (Some word)) (place + 1) count (λ other from to.
    word_at-set_other raw here other (Some word) (λ e. absurd (omega arith))) in
    cc
words_from-set raw place (suc count) (suc s) here word within is room =
    let first = word_at-set_other raw here place (Some word) (λ e. absurd (omega arith)) in
    let rest = words_from-set raw (place + 1) count s here word (omega arith) (omega arith) room in
    cc

pub words_from-zeros : (raw : List (Option ℕ)) (place count : ℕ) →
    ((here : ℕ) → place ≤ here → here < place + count → word_at raw here ≡ 0) →
    words_from raw place count ≡ replicate count 0
words_from-zeros raw place zero zeros = refl
words_from-zeros raw place (suc count) zeros =
    let first = zeros place (omega arith) (omega arith) in
    let rest = words_from-zeros raw (place + 1) count (λ here from to. zeros here (omega arith) (omega arith)) in
    cc
