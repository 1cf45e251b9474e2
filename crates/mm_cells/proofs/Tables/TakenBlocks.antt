-- What callers see where the pages of a cell are taken or given back with it.
use Rattle.std.proofs.Common.{◌≡◌, ℕ, ◌+◌, ◌-◌, ◌*◌, ◌/◌, ◌%◌, ◌<◌, ◌≤◌, ◌==◌, ◌&&◌, inl, inr, Bool, true, false}
use Rattle.std.proofs.Common.{nat_lt, set, refl, arith, sym, ◌∙◌, ap}
use Rattle.std.specs.Prelude.{if◌then◌else◌, Option, None}
use Rattle.std.proofs.lemmas.Bool.{cases_lt, and_parts, eqb-true, ltb-true}
use Rattle.mm_cells.specs.declared.page_use.PageUse.{PageUse}
use Rattle.mm_cells.specs.declared.page_use.PageUse.TheVariants.{Unused, Class, First, Later}
use Rattle.mm_cells.specs.declared.marks.Mark.{Mark}
use Rattle.mm_cells.specs.declared.marks.Mark.TheVariants as marks
use Rattle.mm_cells.specs.Map.{Map, use_at, mark_at}
use Rattle.mm_cells.specs.Cells.{with_cell, with_run}
use Rattle.mm_cells.specs.Kept.{class_size, cells_in, taken_as, taken_in, run_of, runs_of, cells_of}
use Rattle.mm_cells.specs.Uses.{use_in_whole}
use Rattle.mm_cells.specs.Spans.{AreUnused}
use Rattle.mm_cells.proofs.Tables.Uses.{later-at}
use Rattle.mm_cells.proofs.Sizes.ClassSizes.{class_size-least, cells_in-fit, cell-units}
use Rattle.mm_cells.proofs.Sizes.Grains.{cell-fits, whole-div}
use Rattle.mm_cells.proofs.Region.Begins.{taken_in-class_here}
use Rattle.mm_cells.proofs.Tables.Changed.{cells_of-changed, taken_in-alike, taken_in-first_other, runs-changed}
use Rattle.mm_cells.proofs.Tables.Marked.{HasClasses}
use Rattle.mm_cells.proofs.Tables.Blocks.{IsOutside, IsInside, outside_or_inside, AgreesOff}

taken_in-outside : (a b : Map) (first count page offset : ℕ) → HasClasses a → AgreesOff a b first count →
    IsOutside first count page →
    taken_in (use_at b page) (mark_at b page) offset ≡ taken_in (use_at a page) (mark_at a page) offset
taken_in-outside a b first count page offset known agrees outside =
    ap (λ (u : PageUse). taken_in u (mark_at b page) offset) (agrees.uses page outside)
    ∙ taken_in-alike (use_at a page) (mark_at a page) (mark_at b page) offset (known page)
    (λ cell low. agrees.marks page cell outside low)

other-outside : (page other : ℕ) → (other ≡ page → ⊥) → IsOutside page 1 other
other-outside page other apart = elim (cases_lt other page) [
  | inl low ↦ inl low
  | inr high ↦ inr (elim (cases_lt page other) [
    | inl above ↦ omega arith
    | inr same ↦ absurd (apart (omega arith))
  ])
]

unused-none : (m : Map) (page offset : ℕ) → use_at m page ≡ Unused →
    taken_in (use_at m page) (mark_at m page) offset ≡ None
unused-none m page offset used = ap (λ (u : PageUse). taken_in u (mark_at m page) offset) used

later-none : (m : Map) (page distance offset : ℕ) → use_at m page ≡ Later distance →
    taken_in (use_at m page) (mark_at m page) offset ≡ None
later-none m page distance offset used = ap (λ (u : PageUse). taken_in u (mark_at m page) offset) used

if-none : {A : Type 0} (test : Bool) (x : Option A) → (test ≡ true → x ≡ None) → (if test then x else None) ≡ None
if-none true x e = e refl
if-none false x e = refl

-- only the cell of one number of the page may be taken
class-none : (class number : ℕ) (f : ℕ → Mark) (offset : ℕ) →
    ((cell : ℕ) → cell < cells_in class → (cell ≡ number → ⊥) → f cell ≡ marks.Free) →
    (offset ≡ number * class_size class → ⊥) → taken_in (Class class) f offset ≡ None
class-none class number f offset free apart =
    let size : ℕ = class_size class in
    if-none (offset % size == 0 && nat_lt (offset / size) (cells_in class)) (taken_as size (f (offset / size)))
    (λ test.
    let tests = and_parts (offset % size == 0) (nat_lt (offset / size) (cells_in class)) test in
    let low : offset / size < cells_in class = ltb-true (offset / size) (cells_in class) tests.1 in
    let whole = whole-div offset size (eqb-true (offset % size) 0 tests.0) in
    ap (λ (mark : Mark). taken_as size mark)
    (free (offset / size) low (λ e. apart (whole ∙ ap (λ (n : ℕ). n * size) e))))

-- an unused page becomes one of a class, of which one cell may be taken
pub cells_of-fresh : (a b : Map) (page class : ℕ) (mark : Mark) → HasClasses a → AgreesOff a b page 1 →
    page < a.pages → class < 19 → 0 < cells_in class → use_at a page ≡ Unused → use_at b page ≡ Class class →
    mark_at b page 0 ≡ mark →
    ((cell : ℕ) → cell < cells_in class → (cell ≡ 0 → ⊥) → mark_at b page cell ≡ marks.Free) →
    cells_of b ≡ with_run (with_cell (cells_of a) (4096 * page) (taken_as (class_size class) mark)) page 1
cells_of-fresh a b page class mark known agrees within low some before now marked free =
    let size : ℕ = class_size class in
    let zero : 0 * size ≡ 0 = omega arith in
    cells_of-changed a b page 0 (4096 * page) (taken_as size mark) (set (runs_of a) page 1)
    (runs-changed a b page 1 agrees.same.pages within
    (λ other below apart. ap run_of (agrees.uses other (other-outside page other apart))) (ap run_of now)) (record {
      same = agrees.same;
      within = within;
      low = omega arith;
      here =
          ap (λ (u : PageUse). taken_in u (mark_at b page) 0) now
          ∙ ap (λ (x : ℕ). taken_in (Class class) (mark_at b page) x) (sym zero)
          ∙ taken_in-class_here class 0 (mark_at b page) low some
          ∙ ap (λ (x : Mark). taken_as size x) marked;
      others = λ other below apart.
          ap (λ (u : PageUse). taken_in u (mark_at b page) (16 * other)) now
          ∙ class-none class 0 (mark_at b page) (16 * other) free (λ e. apart (omega arith))
          ∙ sym (unused-none a page (16 * other) before);
      pages = λ other any below apart small.
          taken_in-outside a b page 1 other (16 * any) known agrees (other-outside page other apart);
    }) (omega arith)

-- a page of a class, of which only one cell may be taken, is unused from now on
pub cells_of-emptied : (a b : Map) (page class number base : ℕ) → HasClasses a → AgreesOff a b page 1 →
    page < a.pages → class < 19 → number < cells_in class → base ≡ 4096 * page + number * class_size class →
    use_at a page ≡ Class class → use_at b page ≡ Unused →
    ((cell : ℕ) → cell < cells_in class → (cell ≡ number → ⊥) → mark_at a page cell ≡ marks.Free) →
    cells_of b ≡ with_run (with_cell (cells_of a) base None) page 0
cells_of-emptied a b page class number base known agrees within low small begins before now free =
    let size : ℕ = class_size class in
    let place : ℕ = number * (size / 16) in
    let units : number * size ≡ 16 * place = cell-units class number low in
    let some : 16 ≤ size = class_size-least class low in
    let fits : number * size + size ≤ 4096 = cell-fits number (cells_in class) size small (cells_in-fit class) in
    cells_of-changed a b page place base None (set (runs_of a) page 0)
    (runs-changed a b page 0 agrees.same.pages within
    (λ other below apart. ap run_of (agrees.uses other (other-outside page other apart))) (ap run_of now)) (record {
      same = agrees.same;
      within = within;
      low = omega arith;
      here = unused-none b page (16 * place) now;
      others = λ other below apart.
          unused-none b page (16 * other) now
          ∙ sym (ap (λ (u : PageUse). taken_in u (mark_at a page) (16 * other)) before
          ∙ class-none class number (mark_at a page) (16 * other) free (λ e. apart (omega arith)));
      pages = λ other any below apart wide.
          taken_in-outside a b page 1 other (16 * any) known agrees (other-outside page other apart);
    }) (omega arith)

whole-later : (m : Map) (first count page offset : ℕ) →
    ((distance : ℕ) → distance < count → use_at m (first + distance) ≡ use_in_whole count distance) →
    IsInside first count page → (page ≡ first → ⊥) → taken_in (use_at m page) (mark_at m page) offset ≡ None
whole-later m first count page offset uses inside apart =
    let distance : ℕ = page - first in
    let at : page ≡ first + distance = omega (arith, inside.from) in
    later-none m page distance offset (ap (use_at m) at ∙ uses distance (omega (arith, inside.from, inside.to))
    ∙ later-at count distance (λ e. apart (omega arith)))

-- a later page of a cell begins no run
later-run : (count distance : ℕ) → (distance ≡ 0 → ⊥) → run_of (use_in_whole count distance) ≡ 0
later-run count distance apart = ap run_of (later-at count distance apart)

whole-run : (m : Map) (first count page : ℕ) →
    ((distance : ℕ) → distance < count → use_at m (first + distance) ≡ use_in_whole count distance) →
    IsInside first count page → (page ≡ first → ⊥) → run_of (use_at m page) ≡ 0
whole-run m first count page uses inside apart =
    let distance : ℕ = page - first in
    let at : page ≡ first + distance = omega (arith, inside.from) in
    ap (λ (p : ℕ). run_of (use_at m p)) at ∙ ap run_of (uses distance (omega (arith, inside.from, inside.to)))
    ∙ later-run count distance (λ e. apart (omega arith))

-- so many unused pages become those of one cell
pub cells_of-whole : (a b : Map) (first count : ℕ) (mark : Mark) → HasClasses a → AgreesOff a b first count →
    first + count ≤ a.pages → 0 < count → AreUnused a first count →
    ((distance : ℕ) → distance < count → use_at b (first + distance) ≡ use_in_whole count distance) →
    mark_at b first 0 ≡ mark →
    cells_of b ≡ with_run (with_cell (cells_of a) (4096 * first) (taken_as (4096 * count) mark)) first count
cells_of-whole a b first count mark known agrees within some before now marked =
    let first_is : use_at b first ≡ First count = ap (use_at b) (omega arith) ∙ now 0 some in
    cells_of-changed a b first 0 (4096 * first) (taken_as (4096 * count) mark) (set (runs_of a) first count)
    (runs-changed a b first count agrees.same.pages (omega arith)
    (λ other below apart. elim (outside_or_inside first count other) [
      | inl outside ↦ ap run_of (agrees.uses other outside)
      | inr inside ↦ whole-run b first count other now inside apart
          ∙ sym (ap run_of (before other inside.from inside.to))
    ]) (ap run_of first_is)) (record {
      same = agrees.same;
      within = omega arith;
      low = omega arith;
      here =
          ap (λ (u : PageUse). taken_in u (mark_at b first) 0) first_is
          ∙ ap (λ (x : Mark). taken_as (4096 * count) x) marked;
      others = λ other below apart.
          ap (λ (u : PageUse). taken_in u (mark_at b first) (16 * other)) first_is
          ∙ taken_in-first_other count (mark_at b first) (16 * other) (λ e. apart (omega arith))
          ∙ sym (unused-none a first (16 * other) (before first (omega arith) (omega arith)));
      pages = λ other any below apart small. elim (outside_or_inside first count other) [
        | inl outside ↦ taken_in-outside a b first count other (16 * any) known agrees outside
        | inr inside ↦ whole-later b first count other (16 * any) now inside apart
            ∙ sym (unused-none a other (16 * any) (before other inside.from inside.to))
      ];
    }) (omega arith)

-- the pages of one cell are unused from now on
pub cells_of-cleared : (a b : Map) (first count : ℕ) → HasClasses a → AgreesOff a b first count →
    first + count ≤ a.pages → 0 < count →
    ((distance : ℕ) → distance < count → use_at a (first + distance) ≡ use_in_whole count distance) →
    AreUnused b first count → cells_of b ≡ with_run (with_cell (cells_of a) (4096 * first) None) first 0
cells_of-cleared a b first count known agrees within some before now =
    let first_is : use_at a first ≡ First count = ap (use_at a) (omega arith) ∙ before 0 some in
    cells_of-changed a b first 0 (4096 * first) None (set (runs_of a) first 0)
    (runs-changed a b first 0 agrees.same.pages (omega arith)
    (λ other below apart. elim (outside_or_inside first count other) [
      | inl outside ↦ ap run_of (agrees.uses other outside)
      | inr inside ↦ ap run_of (now other inside.from inside.to)
          ∙ sym (whole-run a first count other before inside apart)
    ]) (ap run_of (now first (omega arith) (omega arith)))) (record {
      same = agrees.same;
      within = omega arith;
      low = omega arith;
      here = unused-none b first 0 (now first (omega arith) (omega arith));
      others = λ other below apart.
          unused-none b first (16 * other) (now first (omega arith) (omega arith))
          ∙ sym (ap (λ (u : PageUse). taken_in u (mark_at a first) (16 * other)) first_is
          ∙ taken_in-first_other count (mark_at a first) (16 * other) (λ e. apart (omega arith)));
      pages = λ other any below apart small. elim (outside_or_inside first count other) [
        | inl outside ↦ taken_in-outside a b first count other (16 * any) known agrees outside
        | inr inside ↦ unused-none b other (16 * any) (now other inside.from inside.to)
            ∙ sym (whole-later a first count other (16 * any) before inside apart)
      ];
    }) (omega arith)
