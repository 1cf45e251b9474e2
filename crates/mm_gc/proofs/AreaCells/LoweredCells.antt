-- The words of an area's counted cells are held no more, one after the other.
use Rattle.std.proofs.Common.{◌≡◌, ℕ, suc, ◌+◌, ◌<◌, ◌≤◌, ◌/◌, cond, List, ◌∷◌, take, drop, length, Option}
use Rattle.std.proofs.Common.{Some, sym, ap, ◌∙◌}
use Rattle.std.proofs.Common.{arith}
use Rattle.std.proofs.lemmas.List.{length-take, get_or-take}
use Rattle.std.proofs.lemmas.List.Sums.{sum_by-cons}
use Rattle.std.proofs.lemmas.Option.{slice_get-get_or}
use Rattle.std.proofs.Math.Seq.{drop-cons}
use Rattle.std.proofs.Math.ListN.{drop_of_length-le}
use Rattle.std.specs.Prelude.{◌==◌, ◌||◌, IsTrue, slice_index}
use Rattle.mm_model.specs.Views.GoodView.{AreTight}
use Rattle.mm_model.specs.Views.View.{AreaView}
use Rattle.mm_model.specs.Views.ViewWords.{begins_counted_in, cell_kind_of}
use Rattle.mm_model.proofs.Good.Living.{each_get}
use Rattle.mm_object.specs.declared.slot.Slot.{Slot}
use Rattle.mm_object.specs.Object.{views_of}
use Rattle.mm_object.specs.Heap.{Heap}
use Rattle.mm_count.specs.Table.{Table}
use Rattle.mm_count.specs.Counts.{one_more}
use Rattle.mm_roots.specs.declared.area_shape.AreaShape.{AreaShape}
use Rattle.mm_roots.specs.Views.{area_words, slot_in}
use Rattle.mm_roots.proofs.Words.{length-words_from}
use Rattle.mm_gc.specs.AreaCells.{CanLower, outside_with, word_in}
use Rattle.mm_gc.specs.Counts.{HasCounts}
use Rattle.mm_gc.proofs.AreaCells.AreaReads.{word_in-with}
use Rattle.mm_gc.proofs.AreaCells.OutsideWords.{one_more-is}
use Rattle.mm_gc.proofs.AreaCells.Replaced.{counts-outside}
use Rattle.mm_gc.proofs.Writing.Written.{named-tight}

pub word_in-slot : (area : AreaView) (s : ℕ) (slot : Slot) → slot ≡ slot_in area s
    → word_in slot ≡ slice_index area.words s
word_in-slot area s slot is = ap word_in is ∙ word_in-with (cell_kind_of area s) (slice_index area.words s)

drop-next : (words : List ℕ) (s : ℕ) → s < length words → drop s words ≡ slice_index words s ∷ drop (s + 1) words
drop-next words s within =
    let next : suc s ≡ s + 1 = omega arith in
    drop-cons words s 0 within ∙ ap (λ (n : ℕ). slice_index words s ∷ drop n words) next

-- one of the words apart
outside_with-cons : (word : ℕ) (words : List ℕ) (others : ℕ → ℕ) (b : ℕ)
    → one_more (outside_with words others) word b ≡ outside_with (word ∷ words) others b
outside_with-cons word words others b =
    let more = one_more-is (outside_with words others) word b in
    let sums = sum_by-cons (λ (w : ℕ). cond (w == b) 1 0) word words in
    omega arith

pub same_area : {found : Option AreaShape} {area other : AreaShape} → found ≡ Some area → found ≡ Some other
    → area ≡ other
same_area first second = cc

-- the first cells have the words that all have
pub first-word : (counted s : ℕ) (words : List ℕ) → s < counted
    → slice_index (take counted words) s ≡ slice_index words s
first-word counted s words below = get_or-take counted words s 0 below

pub within-counted : (raw : List (Option ℕ)) (area : AreaShape) (counted s : ℕ) → counted ≤ area.cells → s < counted
    → s < length (take counted (area_words raw area))
within-counted raw area counted s fits below =
    let size = length-words_from raw (area.base / 4) area.cells in
    let front = length-take counted (area_words raw area) in
    omega arith

module _ (table : Table) (h : Heap) (words : List ℕ) (others : ℕ → ℕ) where
  -- the next word apart
  pub counts-next : (s : ℕ) → s < length words → HasCounts table h (outside_with (drop s words) others)
      → HasCounts table h (one_more (outside_with (drop (s + 1) words) others) (slice_index words s))
  counts-next s within counts =
      counts-outside table h (outside_with (drop s words) others)
      (one_more (outside_with (drop (s + 1) words) others) (slice_index words s))
      (λ b.
      outside_with-cons (slice_index words s) (drop (s + 1) words) others b
      ∙ ap (λ (ws : List ℕ). outside_with ws others b) (sym (drop-next words s within))) counts

  -- it can be lowered
  pub can_lower : AreTight (views_of h.objects) words → (s : ℕ) → s < length words
      → HasCounts table h (outside_with (drop s words) others) → CanLower table h (slice_index words s)
  can_lower tight s within counts =
      let next = counts-next s within counts in
      record {
        named = named-tight h.objects (slice_index words s)
            (each_get (λ word. IsTrue (word == 0 || begins_counted_in (views_of h.objects) word)) words s
            (slice_index words s) tight (slice_get-get_or words s 0 within));
        held = record { outside = outside_with (drop (s + 1) words) others; counted = next.counted };
        right = next.right;
      }

  -- none is left
  pub counts-last : (s : ℕ) → length words ≤ s → HasCounts table h (outside_with (drop s words) others)
      → HasCounts table h others
  counts-last s past counts =
      counts-outside table h (outside_with (drop s words) others) others
      (λ b.
      let none : others b ≡ 0 + others b = omega arith in
      none ∙ sym (ap (λ (ws : List ℕ). outside_with ws others b) (drop_of_length-le words past))) counts
