-- The entry of a list by base, and lists of which one entry is left out.
use Rattle.std.proofs.Common.{◌≡◌, ◌≢◌, ℕ, ◌-◌, ◌<◌, ◌≤◌, List, take, length, Option, Some, sym, ap, ◌∙◌, arith}
use Rattle.std.specs.Prelude.{slice_get, slice_set, slice_index}
use Rattle.std.specs.Option.{option_and_then}
use Rattle.std.proofs.lemmas.Option.{slice_get-get_or}
use Rattle.std.proofs.lemmas.List.{length-take, get_or-take, take-take}
use Rattle.std.proofs.Math.ListN.{length-set}
use Rattle.std.proofs.Math.Seq.{take-set-lt}
use Rattle.mm_words.specs.Piece.{Piece, with_words}
use Rattle.mm_model.specs.Views.ByBase.{Begins}
use Rattle.mm_model.proofs.Lists.Fronts.{get-take, get-take_within}
use Rattle.mm_model.proofs.Lists.Replaced.{get-set_same, get-set_other}
use Rattle.mm_model.proofs.View.ByBase.ReplacedEntries.{begins_get}
use Rattle.mm_count.specs.Counts.{entry_at}
use Rattle.mm_count.specs.Table.{with_entries, without_place}
use Rattle.mm_count.specs.Kept.{table_of}

pub entry_at-begins : {X : Type 0} (entries : List (Option X)) (base : ℕ) (x : X) → Begins entries base x
    → entry_at entries base ≡ Some x
entry_at-begins {X} entries base x begins =
    ap (option_and_then (λ (e : Option X). e)) (begins_get entries base x begins)

-- what a list holds without one of its entries, into whose place the last has come
module _ (entries : List ℕ) (gap : ℕ) where
  abbrev last : ℕ
  last = slice_index entries (length entries - 1)

  pub without_place_within : (place base : ℕ) → slice_get (without_place entries gap) place ≡ Some base
      → place < length entries - 1
  without_place_within place base is =
      get-take_within (length entries - 1) place (slice_set entries gap last) base is

  pub without_place_other : (place : ℕ) → place < length entries - 1 → place ≢ gap
      → slice_get (without_place entries gap) place ≡ slice_get entries place
  without_place_other place below other =
      get-take (length entries - 1) place (slice_set entries gap last) below
      ∙ get-set_other entries gap place last other

  pub without_place_gap : gap < length entries - 1 → slice_get (without_place entries gap) gap ≡ Some last
  without_place_gap below =
      get-take (length entries - 1) gap (slice_set entries gap last) below
      ∙ get-set_same entries gap _ last (slice_get-get_or entries gap 0 (omega arith))

pub length-without_place : (entries : List ℕ) (gap : ℕ) → length (without_place entries gap) ≡ length entries - 1
length-without_place entries gap =
    let word = slice_index entries (length entries - 1) in
    omega (arith, length-take (length entries - 1) (slice_set entries gap word), length-set entries gap word)

-- the words of a table once its last entry has come into a place
pub pulled : (n : ℕ) (words : List ℕ) (place : ℕ) → place < n → n ≤ length words
    → take (n - 1) (slice_set words place (slice_index words (n - 1))) ≡ without_place (take n words) place
pulled n words place below within =
    let size : length (take n words) ≡ n = omega (arith, length-take n words) in
    let word : slice_index (take n words) (n - 1) ≡ slice_index words (n - 1) = get_or-take n words (n - 1) 0 (omega
    arith) in
    sym (take-take (n - 1) n (slice_set words place (slice_index words (n - 1))) (omega arith))
    ∙ ap (take (n - 1)) (take-set-lt n words place (slice_index words (n - 1)) below)
    ∙ ap (λ (w : ℕ). take (n - 1) (slice_set (take n words) place w)) (sym word)
    ∙ ap (λ (m : ℕ). take (m - 1) (slice_set (take n words) place (slice_index (take n words) (n - 1)))) (sym size)
    ∙ ap (λ (m : ℕ). take (length (take n words) - 1) (slice_set (take n words) place (slice_index (take n words) (m -
    1)))) (sym size)

pub table-pulled : (words : Piece) (n pages place last : ℕ) → place < n → n ≤ length words.words
    → last ≡ slice_index words.words (n - 1)
    → table_of (with_words words (slice_set words.words place last)) (n - 1) pages
    ≡ with_entries (table_of words n pages) (without_place (take n words.words) place)
table-pulled words n pages place last below within is =
    ap
    (λ (size : ℕ). record {
      location = record { arena = words.arena; start = words.place; size = size };
      pages = pages;
      entries = take (n - 1) (slice_set words.words place last);
    })
    (length-set words.words place last)
    ∙ ap
    (λ (entries : List ℕ). record {
      location = record { arena = words.arena; start = words.place; size = length words.words };
      pages = pages;
      entries = entries;
    })
    (ap (λ (w : ℕ). take (n - 1) (slice_set words.words place w)) is ∙ pulled n words.words place below within)
