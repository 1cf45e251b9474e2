-- Where the taken cells of a table begin, by the uses of its pages.
use Rattle.std.proofs.Common.{◌≡◌, ℕ, ◌+◌, ◌*◌, ◌/◌, ◌%◌, ◌<◌, ◌≤◌, ◌==◌, ◌&&◌, Bool, true, false, nat_lt, length}
use Rattle.std.proofs.Common.{map, refl, arith, sym, ◌∙◌, ap}
use Rattle.std.specs.Prelude.{if◌then◌else◌, Option, Some, None, slice_get}
use Rattle.std.specs.List.{range_with_len}
use Rattle.std.proofs.lemmas.Bool.{and_parts, and_from, eqb-true, eq-eqb, ltb-true, lt-ltb}
use Rattle.std.proofs.lemmas.List.FromFn.{get_or-map-range_with_len, length-map-range_with_len}
use Rattle.std.proofs.lemmas.Option.{slice_get-get_or, slice_get_within}
use Rattle.mm_cells.specs.declared.page_use.PageUse.{PageUse}
use Rattle.mm_cells.specs.declared.page_use.PageUse.TheVariants.{Unused, Class, First, Later}
use Rattle.mm_cells.specs.declared.marks.Mark.{Mark}
use Rattle.mm_cells.specs.Map.{Map, use_at, mark_at}
use Rattle.mm_cells.specs.Cells.{Taken, Begins}
use Rattle.mm_cells.specs.Kept.{class_size, cells_in, taken_as, taken_in, taken_at, cells_of, KeepsCells, IsWhole}
use Rattle.mm_cells.proofs.Sizes.ClassSizes.{class_size-least, cells_in-fit, cell-units}
use Rattle.mm_cells.proofs.Sizes.Grains.{cell-fits, div-whole, mod-whole, whole-div}
use Rattle.mm_cells.proofs.Sizes.Grains.{page-of_grain, place-of_grain, grain-parts}

-- a taken cell of a page of a class
pub record IsSmallCell (m : Map) (page class number base : ℕ) (cell : Taken) : Type 0 where
  pub page_within : page < m.pages
  pub used : use_at m page ≡ Class class
  pub number_within : number < cells_in class
  pub begins : base ≡ 4096 * page + number * class_size class
  pub taken : taken_as (class_size class) (mark_at m page number) ≡ Some cell

-- a taken cell of whole pages
pub record IsWholeCell (m : Map) (page count base : ℕ) (cell : Taken) : Type 0 where
  pub used : use_at m page ≡ First count
  pub begins : base ≡ 4096 * page
  pub taken : taken_as (4096 * count) (mark_at m page 0) ≡ Some cell

-- the cell is one or the other
pub data IsCellOf (m : Map) (base : ℕ) (cell : Taken) : Type 0 where
  small : (page class number : ℕ) → IsSmallCell m page class number base cell → IsCellOf m base cell
  whole : (page count : ℕ) → IsWholeCell m page count base cell → IsCellOf m base cell

-- what a function gives for the numbers from 0 on, at one of them
pub get-map_range : {X : Type 0} (f : ℕ → X) (n i : ℕ) → i < n → slice_get (map f (range_with_len 0 n)) i ≡ Some (f i)
get-map_range f n i within =
    let long : i < length (map f (range_with_len 0 n)) = omega (arith, length-map-range_with_len f 0 n) in
    slice_get-get_or (map f (range_with_len 0 n)) i (f i) long
    ∙ ap Some (get_or-map-range_with_len f 0 n i i (f i) within (omega arith))

pub map_range-get : {X : Type 0} (f : ℕ → X) (n i : ℕ) (x : X) → slice_get (map f (range_with_len 0 n)) i ≡ Some x →
    (i < n) × (f i ≡ x)
map_range-get f n i x there =
    let within : i < n = omega (
      arith,
      slice_get_within (map f (range_with_len 0 n)) i x there,
      length-map-range_with_len f 0 n,
    ) in
    let given : Some (f i) ≡ Some x = sym (get-map_range f n i within) ∙ there in
    (within, cc)

-- what is only where a test passes
if-some : {A : Type 0} (test : Bool) (x : Option A) (y : A) → (if test then x else None) ≡ Some y →
    (test ≡ true) × (x ≡ Some y)
if-some true x y e = (refl, e)
if-some false x y e = absurd (cc)

if-true : {A : Type 0} (test : Bool) (x : Option A) → test ≡ true → (if test then x else None) ≡ x
if-true test x e = rw e

-- by the use of the page
cell-used : (m : Map) (page offset base : ℕ) (cell : Taken) (page_use : PageUse) → use_at m page ≡ page_use →
    page < m.pages → base ≡ 4096 * page + offset → taken_in page_use (mark_at m page) offset ≡ Some cell →
    IsCellOf m base cell
cell-used m page offset base cell Unused used within begins taken = absurd (cc)
cell-used m page offset base cell (Class class) used within begins taken =
    let size : ℕ = class_size class in
    let parts = if-some (offset % size == 0 && nat_lt (offset / size) (cells_in class))
    (taken_as size (mark_at m page (offset / size))) cell taken in
    let tests = and_parts (offset % size == 0) (nat_lt (offset / size) (cells_in class)) parts.0 in
    small page class (offset / size) (record {
      page_within = within;
      used = used;
      number_within = ltb-true (offset / size) (cells_in class) tests.1;
      begins = omega (arith, whole-div offset size (eqb-true (offset % size) 0 tests.0));
      taken = parts.1;
    })
cell-used m page offset base cell (First count) used within begins taken =
    let parts = if-some (offset == 0) (taken_as (4096 * count) (mark_at m page 0)) cell taken in
    whole page count (record {
      used = used;
      begins = omega (arith, eqb-true offset 0 parts.0);
      taken = parts.1;
    })
cell-used m page offset base cell (Later distance) used within begins taken = absurd (cc)

-- what callers see is a cell of the table
pub Begins-cell : (m : Map) (base : ℕ) (cell : Taken) → Begins (cells_of m) base cell → IsCellOf m base cell
Begins-cell m base cell begins =
    let found = map_range-get (taken_at m) (256 * m.pages) begins.grain (Some cell) begins.is in
    let grain : ℕ = begins.grain in
    cell-used m (grain / 256) (16 * (grain % 256)) base cell (use_at m (grain / 256)) refl
    (omega (arith, found.0)) (omega (arith, begins.aligned, grain-parts grain)) found.1

-- and the other way round
grain-begins : (m : Map) (page place base : ℕ) (cell : Taken) → page < m.pages → place < 256 →
    base ≡ 4096 * page + 16 * place → taken_in (use_at m page) (mark_at m page) (16 * place) ≡ Some cell →
    Begins (cells_of m) base cell
grain-begins m page place base cell within low begins taken =
    let grain : ℕ = 256 * page + place in
    let at : taken_at m grain ≡ Some cell =
    ap (λ (p : ℕ). taken_in (use_at m p) (mark_at m p) (16 * (grain % 256))) (page-of_grain page place low)
    ∙ ap (λ (p : ℕ). taken_in (use_at m page) (mark_at m page) (16 * p)) (place-of_grain page place low) ∙ taken in
    record {
      grain = grain;
      aligned = omega arith;
      is = get-map_range (taken_at m) (256 * m.pages) grain (omega arith) ∙ ap Some at;
    }

-- a cell of a page of a class
pub taken_in-class_here : (class number : ℕ) (f : ℕ → Mark) → class < 19 → number < cells_in class →
    taken_in (Class class) f (number * class_size class) ≡ taken_as (class_size class) (f number)
taken_in-class_here class number f known within =
    let size : ℕ = class_size class in
    let some : 16 ≤ size = class_size-least class known in
    let remainder : number * size % size ≡ 0 = mod-whole number size (omega arith) in
    let quotient : number * size / size ≡ number = div-whole number size (omega arith) in
    if-true (number * size % size == 0 && nat_lt (number * size / size) (cells_in class))
    (taken_as size (f (number * size / size)))
    (and_from (number * size % size == 0) (nat_lt (number * size / size) (cells_in class))
    (eq-eqb (number * size % size) 0 remainder) (lt-ltb (number * size / size) (cells_in class) (omega arith)))
    ∙ ap (λ (n : ℕ). taken_as size (f n)) quotient

small-begins : (m : Map) (page class number base : ℕ) (cell : Taken) → class < 19 →
    IsSmallCell m page class number base cell → Begins (cells_of m) base cell
small-begins m page class number base cell known s =
    let size : ℕ = class_size class in
    let place : ℕ = number * (size / 16) in
    let some : 16 ≤ size = class_size-least class known in
    let whole : number * size ≡ 16 * place = cell-units class number known in
    let fits : number * size + size ≤ 4096 =
    cell-fits number (cells_in class) size s.number_within (cells_in-fit class) in
    grain-begins m page place base cell s.page_within (omega arith) (omega (arith, s.begins))
    (ap (λ (u : PageUse). taken_in u (mark_at m page) (16 * place)) s.used
    ∙ ap (λ (x : ℕ). taken_in (Class class) (mark_at m page) x) (sym whole)
    ∙ taken_in-class_here class number (mark_at m page) known s.number_within ∙ s.taken)

whole-begins : (m : Map) (page count base : ℕ) (cell : Taken) → IsWhole m page count →
    IsWholeCell m page count base cell → Begins (cells_of m) base cell
whole-begins m page count base cell known w =
    grain-begins m page 0 base cell (omega (arith, known.some, known.within)) (omega arith) (omega (arith, w.begins))
    (ap (λ (u : PageUse). taken_in u (mark_at m page) 0) w.used ∙ w.taken)

pub cell-Begins : (m : Map) (base : ℕ) (cell : Taken) → KeepsCells m → IsCellOf m base cell
    → Begins (cells_of m) base cell
cell-Begins m base cell kept (small page class number s) =
    small-begins m page class number base cell (kept.classes page class s.used).0 s
cell-Begins m base cell kept (whole page count w) =
    whole-begins m page count base cell (kept.wholes page count w.used) w
