-- A table of unused pages keeps what it must, and shows no cell.
use Rattle.std.proofs.Common.{◌≡◌, ℕ, ◌*◌, ◌<◌, ◌≤◌, true, false, map, replicate, arith, sym, ◌∙◌, ap}
use Rattle.std.proofs.lemmas.List.{ext_get_or, get_or-replicate, length-replicate}
use Rattle.std.proofs.lemmas.List.FromFn.{get_or-map-range_with_len, length-map-range_with_len}
use Rattle.std.specs.Prelude.{◌/◌, ◌%◌, None}
use Rattle.std.specs.List.{range_with_len}
use Rattle.mm_words.specs.Location.{Location}
use Rattle.mm_cells.specs.declared.page_use.PageUse.{PageUse}
use Rattle.mm_cells.specs.declared.page_use.PageUse.TheVariants.{Unused, Class, First, Later}
use Rattle.mm_cells.specs.Map.{Map, use_at, mark_at, IsUntouched}
use Rattle.mm_cells.specs.Cells.{fresh}
use Rattle.mm_cells.specs.Kept.{taken_in, taken_at, run_of, cells_of, KeepsCells}
use Rattle.mm_cells.proofs.Tables.Changed.{cells-same}

pub KeepsCells-untouched : (location : Location) (pages : ℕ) (m : Map) → 2 ≤ pages → pages ≤ 4096
    → IsUntouched location pages m →
    KeepsCells m
KeepsCells-untouched location pages m two most none = record {
  two = omega (arith, none.same_pages);
  most = omega (arith, none.same_pages);
  off_zero = none.unused 0;
  inside = λ page h. none.unused page;
  classes = λ page class used.
      let other : Unused ≡ Class class = sym (none.unused page) ∙ used in
      absurd (cc);
  plain = λ page class used.
      let other : Unused ≡ Class class = sym (none.unused page) ∙ used in
      absurd (cc);
  wholes = λ page count used.
      let other : Unused ≡ First count = sym (none.unused page) ∙ used in
      absurd (cc);
  laters = λ page distance used.
      let other : Unused ≡ Later distance = sym (none.unused page) ∙ used in
      absurd (cc);
  rooms = λ class page low within. (
    (λ room.
        let other : false ≡ true = sym (none.no_room class page low (omega (arith, none.same_pages))) ∙ room in
        absurd (cc)),
    (λ has.
        let other : Unused ≡ Class class = sym (none.unused page) ∙ has.0 in
        absurd (cc)),
  );
}

taken_at-untouched : (location : Location) (pages : ℕ) (m : Map) → IsUntouched location pages m → (grain : ℕ) →
    taken_at m grain ≡ None
taken_at-untouched location pages m none grain =
    ap (λ (u : PageUse). taken_in u (mark_at m (grain / 256)) (16 * (grain % 256))) (none.unused (grain / 256))

range-all : {X : Type 0} (f : ℕ → X) (n : ℕ) (x : X) → ((i : ℕ) → f i ≡ x) → map f (range_with_len 0 n) ≡ replicate n x
range-all f n x all =
    ext_get_or x (map f (range_with_len 0 n)) (replicate n x)
    (length-map-range_with_len f 0 n ∙ sym (length-replicate n x))
    (λ i h.
    let within : i < n = omega (arith, length-map-range_with_len f 0 n) in
    get_or-map-range_with_len f 0 n i i x within (omega arith) ∙ all i ∙ sym (get_or-replicate n i x x within))

pub cells_of-untouched : (location : Location) (pages : ℕ) (m : Map) → IsUntouched location pages m →
    cells_of m ≡ fresh location pages
cells_of-untouched location pages m none =
    cells-same (cells_of m) (fresh location pages) none.same_location none.same_pages
    (ap (λ (n : ℕ). map (taken_at m) (range_with_len 0 (256 * n))) none.same_pages
    ∙ range-all (taken_at m) (256 * pages) None (taken_at-untouched location pages m none))
    (ap (λ (n : ℕ). map (λ page. run_of (use_at m page)) (range_with_len 0 n)) none.same_pages
    ∙ range-all (λ page. run_of (use_at m page)) pages 0 (λ page. ap run_of (none.unused page)))
