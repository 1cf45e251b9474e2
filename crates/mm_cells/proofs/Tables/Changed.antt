-- What callers see of a table where one of its cells changed.
use Rattle.std.proofs.Common.{◌≡◌, ℕ, ◌+◌, ◌*◌, ◌/◌, ◌%◌, ◌<◌, ◌==◌, ◌&&◌, inl, inr, Bool, true, false, nat_lt}
use Rattle.std.proofs.Common.{length, map, set, get_or, refl, arith, sym, ◌∙◌, ap}
use Rattle.std.proofs.lemmas.Bool.{cases_eq, and_parts, eqb-true, ltb-true, ne_eqb}
use Rattle.std.proofs.lemmas.List.{ext_get_or, length-set, get_or-set_same, get_or-set_other}
use Rattle.std.proofs.lemmas.List.FromFn.{get_or-map-range_with_len, length-map-range_with_len}
use Rattle.std.specs.Prelude.{if◌then◌else◌, List, Option, None, slice_index}
use Rattle.std.specs.List.{range_with_len}
use Rattle.mm_cells.specs.declared.page_use.PageUse.{PageUse}
use Rattle.mm_cells.specs.declared.page_use.PageUse.TheVariants.{Unused, Class, First, Later}
use Rattle.mm_cells.specs.declared.marks.Mark.{Mark}
use Rattle.mm_cells.specs.Uses.{use_in}
use Rattle.mm_cells.specs.Map.{Map, use_at, mark_at, IsSame}
use Rattle.mm_cells.specs.Cells.{Taken, Cells, with_cell}
use Rattle.mm_cells.specs.Kept.{class_size, cells_in, taken_as, taken_in, taken_at, run_of, runs_of, cells_of}
use Rattle.mm_cells.proofs.Sizes.ClassSizes.{cells_in-most}
use Rattle.mm_cells.proofs.Sizes.Grains.{whole-div, page-of_grain, place-of_grain}

-- a function of the numbers below n that changes at one of them
range-changed : {X : Type 0} (f g : ℕ → X) (n i : ℕ) (x : X) → i < n →
    ((k : ℕ) → k < n → (k ≡ i → ⊥) → g k ≡ f k) → g i ≡ x →
    map g (range_with_len 0 n) ≡ set (map f (range_with_len 0 n)) i x
range-changed f g n i x within others here =
    let old = map f (range_with_len 0 n) in
    let long : length old ≡ n = length-map-range_with_len f 0 n in
    let longer : length (map g (range_with_len 0 n)) ≡ n = length-map-range_with_len g 0 n in
    ext_get_or x (map g (range_with_len 0 n)) (set old i x) (longer ∙ sym long ∙ sym (length-set old i x))
    (λ k h. elim (cases_eq k i) [
      | inl e ↦
          get_or-map-range_with_len g 0 n k i x (omega arith) (omega arith) ∙ here
          ∙ sym (get_or-set_same old i x x (omega arith)) ∙ ap (λ (p : ℕ). get_or (set old i x) p x) (sym e)
      | inr d ↦
          get_or-map-range_with_len g 0 n k k x (omega arith) (omega arith) ∙ others k (omega arith) d
          ∙ sym (get_or-map-range_with_len f 0 n k k x (omega arith) (omega arith))
          ∙ sym (get_or-set_other old i k x x d)
    ])

pub cells-same : (v w : Cells) → v.table ≡ w.table → v.pages ≡ w.pages → v.taken ≡ w.taken → v.runs ≡ w.runs → v ≡ w
cells-same v w table pages taken runs =
    let first : v ≡ record v { table = w.table } = ap (λ t. record v { table = t }) table in
    let second : record v { table = w.table } ≡ record w { taken = v.taken; runs = v.runs } =
    ap (λ n. record v { table = w.table; pages = n }) pages in
    first ∙ second ∙ ap (λ l. record w { taken = l; runs = v.runs }) taken ∙ ap (λ l. record w { runs = l }) runs

-- the run that begins at a page
pub run-at : (m : Map) (page : ℕ) → page < m.pages → slice_index (runs_of m) page ≡ run_of (use_at m page)
run-at m page within =
    get_or-map-range_with_len (λ p. run_of (use_at m p)) 0 m.pages page page 0 within (omega arith)

pub length-runs : (m : Map) → length (runs_of m) ≡ m.pages
length-runs m = length-map-range_with_len (λ p. run_of (use_at m p)) 0 m.pages

-- the runs after the use of a page changed
pub runs-changed : (a b : Map) (page count : ℕ) → b.pages ≡ a.pages → page < a.pages →
    ((other : ℕ) → other < a.pages → (other ≡ page → ⊥) → run_of (use_at b other) ≡ run_of (use_at a other)) →
    run_of (use_at b page) ≡ count → runs_of b ≡ set (runs_of a) page count
runs-changed a b page count pages within others here =
    ap (λ (n : ℕ). map (λ p. run_of (use_at b p)) (range_with_len 0 n)) pages
    ∙ range-changed (λ p. run_of (use_at a p)) (λ p. run_of (use_at b p)) a.pages page count within others here

pub runs-same : (a b : Map) → b.pages ≡ a.pages → b.uses ≡ a.uses → runs_of b ≡ runs_of a
runs-same a b pages uses =
    ap (λ (n : ℕ). map (λ p. run_of (use_at b p)) (range_with_len 0 n)) pages
    ∙ ap (λ (words : List ℕ). map (λ p. run_of (use_in words p)) (range_with_len 0 a.pages)) uses

-- the cell at one place of one page is another one, or none
pub record ChangesPlace (a b : Map) (page place : ℕ) (cell : Option Taken) : Type 0 where
  pub same : IsSame a b
  pub within : page < a.pages
  pub low : place < 256
  pub here : taken_in (use_at b page) (mark_at b page) (16 * place) ≡ cell
  pub others : (other : ℕ) → other < 256 → (other ≡ place → ⊥)
      → taken_in (use_at b page) (mark_at b page) (16 * other) ≡ taken_in (use_at a page) (mark_at a page) (16 * other)
  pub pages : (other any : ℕ) → other < a.pages → (other ≡ page → ⊥) → any < 256
      → taken_in (use_at b other) (mark_at b other) (16 * any) ≡ taken_in (use_at a other) (mark_at a other) (16 * any)

changed-other : (a b : Map) (page place : ℕ) (cell : Option Taken) → ChangesPlace a b page place cell → (grain : ℕ) →
    grain < 256 * a.pages → (grain ≡ 256 * page + place → ⊥) → taken_at b grain ≡ taken_at a grain
changed-other a b page place cell c grain within apart = elim (cases_eq (grain / 256) page) [
  | inr d ↦ c.pages (grain / 256) (grain % 256) (omega arith) d (omega arith)
  | inl e ↦
      ap (λ (p : ℕ). taken_in (use_at b p) (mark_at b p) (16 * (grain % 256))) e
      ∙ c.others (grain % 256) (omega arith) (λ same. apart (omega arith))
      ∙ ap (λ (p : ℕ). taken_in (use_at a p) (mark_at a p) (16 * (grain % 256))) (sym e)
]

pub cells_of-changed : (a b : Map) (page place base : ℕ) (cell : Option Taken) (runs : List ℕ) → runs_of b ≡ runs →
    ChangesPlace a b page place cell → base ≡ 4096 * page + 16 * place →
    cells_of b ≡ record (with_cell (cells_of a) base cell) { runs = runs }
cells_of-changed a b page place base cell runs now c begins =
    let grain : ℕ = 256 * page + place in
    let at : base / 16 ≡ grain = omega arith in
    let here : taken_at b grain ≡ cell =
    ap (λ (p : ℕ). taken_in (use_at b p) (mark_at b p) (16 * (grain % 256))) (page-of_grain page place c.low)
    ∙ ap (λ (p : ℕ). taken_in (use_at b page) (mark_at b page) (16 * p)) (place-of_grain page place c.low) ∙ c.here in
    let taken : map (taken_at b) (range_with_len 0 (256 * a.pages)) ≡ set (map (taken_at a)
    (range_with_len 0 (256 * a.pages))) grain cell =
    range-changed (taken_at a) (taken_at b) (256 * a.pages) grain cell (omega (arith, c.within, c.low))
    (λ k h d. changed-other a b page place cell c k h d) here in
    cells-same (cells_of b) (record (with_cell (cells_of a) base cell) { runs = runs }) c.same.location c.same.pages
    (ap (λ (n : ℕ). map (taken_at b) (range_with_len 0 (256 * n))) c.same.pages ∙ taken
    ∙ ap (λ (i : ℕ). set (map (taken_at a) (range_with_len 0 (256 * a.pages))) i cell) (sym at)) now

-- a choice changes only with what it chooses
if-same : {A : Type 0} (test : Bool) (x y : Option A) → (test ≡ true → x ≡ y) →
    (if test then x else None) ≡ (if test then y else None)
if-same true x y e = e refl
if-same false x y e = refl

-- the cells of a page by their marks
pub taken_in-alike : (page_use : PageUse) (f g : ℕ → Mark) (offset : ℕ) →
    ((class : ℕ) → page_use ≡ Class class → class < 19) → ((cell : ℕ) → cell < 256 → g cell ≡ f cell) →
    taken_in page_use g offset ≡ taken_in page_use f offset
taken_in-alike Unused f g offset known same = refl
taken_in-alike (Class class) f g offset known same =
    let size : ℕ = class_size class in
    if-same (offset % size == 0 && nat_lt (offset / size) (cells_in class))
    (taken_as size (g (offset / size))) (taken_as size (f (offset / size)))
    (λ test.
    let tests = and_parts (offset % size == 0) (nat_lt (offset / size) (cells_in class)) test in
    let low = ltb-true (offset / size) (cells_in class) tests.1 in
    let most = cells_in-most class (known class refl) in
    ap (λ (mark : Mark). taken_as size mark) (same (offset / size) (omega (arith, low, most))))
taken_in-alike (First count) f g offset known same =
    if-same (offset == 0) (taken_as (4096 * count) (g 0)) (taken_as (4096 * count) (f 0))
    (λ test. ap (λ (mark : Mark). taken_as (4096 * count) mark) (same 0 (omega arith)))
taken_in-alike (Later distance) f g offset known same = refl

-- the other cells of a page of a class
pub taken_in-class_other : (class number : ℕ) (f g : ℕ → Mark) (offset : ℕ) → class < 19 →
    ((cell : ℕ) → cell < 256 → (cell ≡ number → ⊥) → g cell ≡ f cell) → (offset ≡ number * class_size class → ⊥) →
    taken_in (Class class) g offset ≡ taken_in (Class class) f offset
taken_in-class_other class number f g offset known same apart =
    let size : ℕ = class_size class in
    if-same (offset % size == 0 && nat_lt (offset / size) (cells_in class))
    (taken_as size (g (offset / size))) (taken_as size (f (offset / size)))
    (λ test.
    let tests = and_parts (offset % size == 0) (nat_lt (offset / size) (cells_in class)) test in
    let low = ltb-true (offset / size) (cells_in class) tests.1 in
    let most = cells_in-most class known in
    let whole = whole-div offset size (eqb-true (offset % size) 0 tests.0) in
    ap (λ (mark : Mark). taken_as size mark) (same (offset / size) (omega (arith, low, most))
    (λ e. apart (whole ∙ ap (λ (n : ℕ). n * size) e))))

-- where a page of one cell has no other
pub taken_in-first_other : (count : ℕ) (f : ℕ → Mark) (offset : ℕ) → (offset ≡ 0 → ⊥) →
    taken_in (First count) f offset ≡ None
taken_in-first_other count f offset apart = rw (ne_eqb offset 0 apart)
