-- What callers see of a table, and what it keeps, as the taken cells of a page become white.
use Rattle.std.proofs.Common.{◌≡◌, ℕ, ◌+◌, ◌*◌, ◌/◌, ◌%◌, ◌<◌, ◌≤◌, ◌==◌, ◌&&◌, Bool, true, false, nat_lt, map}
use Rattle.std.proofs.Common.{inl, inr, refl, arith, sym, ◌∙◌, ap}
use Rattle.std.proofs.lemmas.Bool.{cases_eq, cases_lt, and_parts, ltb-true}
use Rattle.std.proofs.lemmas.List.{get_or_past}
use Rattle.std.proofs.lemmas.List.FromFn.{get_or-map-range_with_len, length-map-range_with_len}
use Rattle.std.specs.Prelude.{if◌then◌else◌, Option, None, ◌⊎◌}
use Rattle.std.specs.List.{range_with_len}
use Rattle.mm_cells.specs.declared.page_use.PageUse.{PageUse}
use Rattle.mm_cells.specs.declared.page_use.PageUse.TheVariants.{Unused, Class, First, Later}
use Rattle.mm_cells.specs.declared.marks.Mark.{Mark}
use Rattle.mm_cells.specs.declared.marks.Mark.TheVariants as marks
use Rattle.mm_cells.specs.Map.{Map, use_at, mark_at, WhitensPage}
use Rattle.mm_cells.specs.Marks.{whitened_mark}
use Rattle.mm_cells.specs.Cells.{Taken}
use Rattle.mm_cells.specs.Kept.{class_size, cells_in, taken_as, taken_in, taken_at, cells_of, KeepsCells, HaveMarks}
use Rattle.mm_cells.specs.Looking.{whitened, taken_of, Whitens}
use Rattle.mm_cells.proofs.Tables.Blocks.{use_at-same}
use Rattle.mm_cells.proofs.Tables.Changed.{cells-same, runs-same, taken_in-alike}
use Rattle.mm_cells.proofs.Tables.Marked.{KeepsCells-alike, KeepsCells-classes}

-- a mark says free, whatever the colour
free-whitened : (mark : Mark) → whitened_mark mark ≡ marks.Free → mark ≡ marks.Free
free-whitened marks.Free e = refl
free-whitened (marks.Taken colour flags) e = absurd (cc)

taken_as-whitened : (extent : ℕ) (mark : Mark) → taken_as extent (whitened_mark mark) ≡ whitened (taken_as extent mark)
taken_as-whitened extent marks.Free = refl
taken_as-whitened extent (marks.Taken colour flags) = refl

pub KeepsCells-whitened : (a b : Map) (page words : ℕ) → KeepsCells a → WhitensPage a b page words → KeepsCells b
KeepsCells-whitened a b page words kept w =
    let here : (cell : ℕ) → cell < 256 →
    (mark_at b page cell ≡ whitened_mark (mark_at a page cell)) ⊎ (mark_at b page cell ≡ mark_at a page cell) =
    λ cell low. elim (cases_lt cell (8 * words)) [
      | inl h ↦ inl (w.here cell h)
      | inr h ↦ inr (w.behind cell h low)
    ] in
    KeepsCells-alike a b (record {
      same = w.same;
      uses = w.uses;
      rooms = w.rooms;
      plain = w.plain;
      free_now = λ p cell low free. elim (cases_eq p page) [
        | inr apart ↦ w.other_pages p cell apart low ∙ free
        | inl e ↦
            let before : mark_at a page cell ≡ marks.Free = ap (λ (x : ℕ). mark_at a x cell) (sym e) ∙ free in
            ap (λ (x : ℕ). mark_at b x cell) e ∙ (elim (here cell low) [
              | inl white ↦ white ∙ ap whitened_mark before
              | inr same ↦ same ∙ before
            ])
      ];
      free_before = λ p cell low free. elim (cases_eq p page) [
        | inr apart ↦ sym (w.other_pages p cell apart low) ∙ free
        | inl e ↦
            let now : mark_at b page cell ≡ marks.Free = ap (λ (x : ℕ). mark_at b x cell) (sym e) ∙ free in
            ap (λ (x : ℕ). mark_at a x cell) e ∙ (elim (here cell low) [
              | inl white ↦ free-whitened (mark_at a page cell) (sym white ∙ now)
              | inr same ↦ sym same ∙ now
            ])
      ];
    }) kept

-- a choice is white where what it chooses is
if-whitened : (test : Bool) (x y : Option Taken) → (test ≡ true → x ≡ whitened y) →
    (if test then x else None) ≡ whitened (if test then y else None)
if-whitened true x y e = e refl
if-whitened false x y e = refl

taken_in-whitened : (page_use : PageUse) (f g : ℕ → Mark) (offset words : ℕ) → HaveMarks page_use words →
    ((cell : ℕ) → cell < 8 * words → g cell ≡ whitened_mark (f cell)) →
    taken_in page_use g offset ≡ whitened (taken_in page_use f offset)
taken_in-whitened Unused f g offset words all white = refl
taken_in-whitened (Class class) f g offset words all white =
    let size : ℕ = class_size class in
    if-whitened (offset % size == 0 && nat_lt (offset / size) (cells_in class))
    (taken_as size (g (offset / size))) (taken_as size (f (offset / size)))
    (λ test.
    let tests = and_parts (offset % size == 0) (nat_lt (offset / size) (cells_in class)) test in
    let low = ltb-true (offset / size) (cells_in class) tests.1 in
    ap (λ (mark : Mark). taken_as size mark) (white (offset / size) (omega (arith, low, all)))
    ∙ taken_as-whitened size (f (offset / size)))
taken_in-whitened (First count) f g offset words all white =
    if-whitened (offset == 0) (taken_as (4096 * count) (g 0)) (taken_as (4096 * count) (f 0))
    (λ test.
    ap (λ (mark : Mark). taken_as (4096 * count) mark) (white 0 (omega (arith, all)))
    ∙ taken_as-whitened (4096 * count) (f 0))
taken_in-whitened (Later distance) f g offset words all white = refl

-- what callers see at a multiple of 16 bytes
taken_of-at : (m : Map) (grain : ℕ) → grain < 256 * m.pages → taken_of (cells_of m) grain ≡ taken_at m grain
taken_of-at m grain within =
    get_or-map-range_with_len (taken_at m) 0 (256 * m.pages) grain grain None within (omega arith)

taken_of-past : (m : Map) (grain : ℕ) → 256 * m.pages ≤ grain → taken_of (cells_of m) grain ≡ None
taken_of-past m grain past =
    get_or_past (map (taken_at m) (range_with_len 0 (256 * m.pages))) grain None
    (omega (arith, length-map-range_with_len (taken_at m) 0 (256 * m.pages)))

module _ (a b : Map) (page words : ℕ) (kept : KeepsCells a) (within : page < a.pages)
    (all : HaveMarks (use_at a page) words) (w : WhitensPage a b page words) where
  inside : (grain : ℕ) → grain / 256 ≡ page → taken_at b grain ≡ whitened (taken_at a grain)
  inside grain at =
      ap (λ (p : ℕ). taken_in (use_at b p) (mark_at b p) (16 * (grain % 256))) at
      ∙ ap (λ (u : PageUse). taken_in u (mark_at b page) (16 * (grain % 256))) (use_at-same a b page w.uses)
      ∙ taken_in-whitened (use_at a page) (mark_at a page) (mark_at b page) (16 * (grain % 256)) words all w.here
      ∙ ap (λ (p : ℕ). whitened (taken_in (use_at a p) (mark_at a p) (16 * (grain % 256)))) (sym at)

  outside : (grain : ℕ) → (grain / 256 ≡ page → ⊥) → taken_at b grain ≡ taken_at a grain
  outside grain apart =
      let other : ℕ = grain / 256 in
      ap (λ (u : PageUse). taken_in u (mark_at b other) (16 * (grain % 256))) (use_at-same a b other w.uses)
      ∙ taken_in-alike (use_at a other) (mark_at a other) (mark_at b other) (16 * (grain % 256))
      (KeepsCells-classes a kept other) (λ cell low. w.other_pages other cell apart low)

  pub Whitens-whitened : Whitens (cells_of a) (cells_of b) (4096 * page) (4096 * page + 4096)
  Whitens-whitened =
      let pages : b.pages ≡ a.pages = w.same.pages in
      record {
        same = cells-same (cells_of b) (record (cells_of a) { taken = (cells_of b).taken }) w.same.location pages refl
            (runs-same a b pages w.uses);
        size = length-map-range_with_len (taken_at b) 0 (256 * b.pages) ∙ ap (λ (n : ℕ). 256 * n) pages
            ∙ sym (length-map-range_with_len (taken_at a) 0 (256 * a.pages));
        inside = λ grain reached below.
            taken_of-at b grain (omega arith) ∙ inside grain (omega arith)
            ∙ sym (ap whitened (taken_of-at a grain (omega arith)));
        outside = λ grain out. elim (cases_lt grain (256 * a.pages)) [
          | inl h ↦
              taken_of-at b grain (omega arith)
              ∙ outside grain (λ at. elim out [ inl before ↦ omega arith | inr behind ↦ omega arith ])
              ∙ sym (taken_of-at a grain h)
          | inr h ↦ taken_of-past b grain (omega arith) ∙ sym (taken_of-past a grain h)
        ];
      }
