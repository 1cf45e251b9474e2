-- The words of a new object.
use Rattle.std.proofs.Common.{◌≡◌, ℕ, ◌+◌, ◌-◌, ◌/◌, ◌<◌, ◌≤◌, Bool, true, false, inl, inr, List, ◌∷◌, ◌++◌, length}
use Rattle.std.proofs.Common.{take, drop, refl, sym, ap, subst, ◌∙◌, arith}
use Rattle.std.specs.Prelude.{replicate, set}
use Rattle.std.proofs.lemmas.Bool.{cases_lt}
use Rattle.std.proofs.lemmas.List.{get_or_past, length-replicate, length-append, take_at, take-append-drop}
use Rattle.std.proofs.lemmas.List.{replicate-append-replicate, set-append_left, set-append_right, length-take-le}
use Rattle.std.proofs.lemmas.List.{length-set}
use Rattle.mm_model.specs.declared.object.Shape.{Shape}
use Rattle.mm_model.specs.declared.object.Colour.{Colour}
use Rattle.mm_model.specs.Places.SizeClass.{extent_of, object_bytes}
use Rattle.mm_words.specs.Writes.{written}
use Rattle.mm_words.proofs.Writes.{written-is, length-written, get_or-written-before, get_or-written-after}
use Rattle.mm_cells.specs.Cells.{Taken}
use Rattle.mm_object.specs.Object.{newly_stored, flags_with, has_weak_object}
use Rattle.mm_object.specs.Header.{IsShape, shape_in, first_word, second_word}
use Rattle.mm_object.specs.Kept.{extent_words, object_told, newborn_words, IsHeaded}
use Rattle.mm_object.proofs.Extents.{extent_words-written}
use Rattle.mm_object.proofs.Writes.{ChangesWithin}

-- the cell of a new object
abbrev pub newborn_cell : Shape → Colour → Taken
newborn_cell shape colour =
    record {
      extent = extent_of (object_bytes shape.slots);
      colour = colour;
      flags = flags_with shape.finalize false;
    }

pub length-newborn : (shape : Shape) → length (newborn_words shape) ≡ 4 + shape.slots
length-newborn shape =
    omega (arith, length-replicate {A = ℕ} shape.slots 0)

-- zeros, and then the two words of the header
pub zeros-headed : (first second slots : ℕ) → set (set (replicate (4 + slots) 0) 0 first) 1 second
    ≡ first ∷ second ∷ 0 ∷ 0 ∷ replicate slots 0
zeros-headed first second slots =
    ap (λ (ws : List ℕ). set (set ws 0 first) 1 second) (sym (replicate-append-replicate 4 slots 0))

-- a write into words that were written
pub set-written : (from i word : ℕ) (news words : List ℕ) → from + length news ≤ length words → i < length news
    → set (written from news words) (from + i) word ≡ written from (set news i word) words
set-written from i word news words fits within =
    let front : length (take from words) ≡ from = length-take-le from words (omega arith) in
    let size : length (set news i word) ≡ length news = length-set news i word in
    let fits' : from + length (set news i word) ≤ length words = omega arith in
    let place : from + i - from ≡ i = omega arith in
    ap (λ (ws : List ℕ). set ws (from + i) word) (written-is from news words fits)
    ∙ set-append_left (take from words ++ news) (drop (from + length news) words) (from + i) word
    (omega (arith, length-append (take from words) news))
    ∙ ap (λ (ws : List ℕ). ws ++ drop (from + length news) words)
    (set-append_right (take from words) news from (from + i) word front (omega arith))
    ∙ ap (λ (n : ℕ). take from words ++ set news n word ++ drop (from + length news) words) place
    ∙ ap (λ (n : ℕ). take from words ++ set news i word ++ drop (from + n) words) (sym size)
    ∙ sym (written-is from (set news i word) words fits')

-- the words of a new object by three writes
pub newborn-filled : (at first second : ℕ) (shape : Shape) (words : List ℕ) → at + (4 + shape.slots) ≤ length words
    → first ≡ first_word shape → second ≡ second_word shape
    → set (set (written at (replicate (4 + shape.slots) 0) words) at first) (at + 1) second
    ≡ written at (newborn_words shape) words
newborn-filled at first second shape words fits e f =
    let zeros : List ℕ = replicate (4 + shape.slots) 0 in
    let size : length (replicate {A = ℕ} (4 + shape.slots) 0) ≡ 4 + shape.slots =
    length-replicate {A = ℕ} (4 + shape.slots) 0 in
    let place : at ≡ at + 0 = omega arith in
    let long : length (set zeros 0 first) ≡ length zeros = length-set zeros 0 first in
    ap (λ (n : ℕ). set (set (written at zeros words) n first) (at + 1) second) place
    ∙ ap (λ (ws : List ℕ). set ws (at + 1) second)
    (set-written at 0 first zeros words (omega (arith, size)) (omega (arith, size)))
    ∙ set-written at 1 second (set zeros 0 first) words (omega (arith, size, long)) (omega (arith, size, long))
    ∙ ap (λ (ws : List ℕ). written at ws words) (zeros-headed first second shape.slots)
    ∙ ap (λ (n : ℕ). written at (n ∷ second ∷ 0 ∷ 0 ∷ replicate shape.slots 0) words) e
    ∙ ap (λ (n : ℕ). written at (first_word shape ∷ n ∷ 0 ∷ 0 ∷ replicate shape.slots 0) words) f

-- what a new object's words tell, whatever stands behind them
module _ (shape : Shape) (colour : Colour) (ok : IsShape shape)
    (means : shape_in (first_word shape) (second_word shape) ≡ shape) where
  no-weak : (f : Bool) → has_weak_object (flags_with f false) ≡ false
  no-weak true = refl
  no-weak false = refl

  pub told-newborn : (rest : List ℕ)
      → object_told (newborn_cell shape colour) (newborn_words shape ++ rest) ≡ newly_stored shape colour
  told-newborn rest =
      ap (λ (s : Shape). record (newly_stored shape colour) {
        kind = s.kind;
        finalize = s.finalize;
        counted = s.counted;
        words = take s.slots (replicate shape.slots 0 ++ rest);
        has_weak = has_weak_object (flags_with shape.finalize false);
      }) means
      ∙ ap (λ (ws : List ℕ). record (newly_stored shape colour) {
        words = ws;
        has_weak = has_weak_object (flags_with shape.finalize false);
      }) (take_at (replicate shape.slots 0) rest shape.slots (length-replicate shape.slots 0))
      ∙ ap (λ (b : Bool). record (newly_stored shape colour) { has_weak = b }) (no-weak shape.finalize)

  pub headed-newborn : (rest : List ℕ) → object_bytes shape.slots ≤ extent_of (object_bytes shape.slots)
      → IsHeaded (newborn_cell shape colour) (newborn_words shape ++ rest)
  headed-newborn rest enough = record {
    shape = subst IsShape (sym means) ok;
    first = ap (λ (s : Shape). first_word s) (sym means);
    second = ap (λ (s : Shape). second_word s) (sym means);
    extent = ap (λ (s : Shape). extent_of (object_bytes s.slots)) (sym means);
    room =
        subst (λ (s : Shape). object_bytes s.slots ≤ extent_of (object_bytes shape.slots)) (sym means) enough;
    flags =
        ap (λ (s : Shape). flags_with s.finalize false) (sym means)
        ∙ ap (λ (b : Bool). flags_with (shape_in (first_word shape) (second_word shape)).finalize b)
        (sym (no-weak shape.finalize));
  }

-- the words of its extent
pub extent-newborn : (words : List ℕ) (shape : Shape) (base extent : ℕ) → 4 + shape.slots ≤ extent / 4
    → base / 4 + (4 + shape.slots) ≤ length words
    → (rest : List ℕ) × (extent_words (written (base / 4) (newborn_words shape) words) base extent
    ≡ newborn_words shape ++ rest)
extent-newborn words shape base extent short within =
    let size = length-newborn shape in
    let all : List ℕ = extent_words (written (base / 4) (newborn_words shape) words) base extent in (
      drop (length (newborn_words shape)) all,
      sym (take-append-drop (length (newborn_words shape)) all)
          ∙ ap (λ (ws : List ℕ). ws ++ drop (length (newborn_words shape)) all)
          (extent_words-written words (newborn_words shape) base extent (omega (arith, size)) (omega (arith, size))),
    )

pub changes-newborn : (words : List ℕ) (shape : Shape) (base extent : ℕ) → 4 + shape.slots ≤ extent / 4
    → base / 4 + (4 + shape.slots) ≤ length words
    → ChangesWithin words (written (base / 4) (newborn_words shape) words) base extent
changes-newborn words shape base extent short within =
    let size = length-newborn shape in
    let fits : base / 4 + length (newborn_words shape) ≤ length words = omega (arith, size) in
    let news : List ℕ = written (base / 4) (newborn_words shape) words in
    record {
      size = length-written (base / 4) (newborn_words shape) words;
      below = λ i h. get_or-written-before (base / 4) (newborn_words shape) words fits i 0 h;
      above = λ i h. elim (cases_lt i (length words)) [
        | inl low ↦
            get_or-written-after (base / 4) (newborn_words shape) words fits i 0 (omega (arith, size)) low
        | inr high ↦
            get_or_past (written (base / 4) (newborn_words shape) words) i 0
            (omega (arith, length-written (base / 4) (newborn_words shape) words))
            ∙ sym (get_or_past words i 0 high)
      ];
    }
