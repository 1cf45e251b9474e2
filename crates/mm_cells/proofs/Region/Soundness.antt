-- What holds of the cells that a table shows: the grid, the runs, and that they are apart.
use Rattle.std.proofs.Common.{◌≡◌, ◌≢◌, ℕ, ◌+◌, ◌*◌, ◌/◌, ◌%◌, ◌<◌, ◌≤◌, ◌⊎◌, inl, inr, refl, arith, sym, ◌∙◌, ap}
use Rattle.std.proofs.Common.{subst}
use Rattle.std.proofs.lemmas.Bool.{cases_lt, cases_order, and_parts, ltb-true}
use Rattle.std.proofs.lemmas.List.{get_or_past}
use Rattle.std.proofs.lemmas.List.Elements.{Contains-get_or}
use Rattle.std.proofs.lemmas.List.FromFn.{length-map-range_with_len}
use Rattle.std.specs.Prelude.{IsTrue, slice_index}
use Rattle.std.specs.List.{Contains}
use Rattle.mm_model.specs.Places.SizeClass.{class_sizes}
use Rattle.mm_model.specs.Places.Place.{overlaps}
use Rattle.mm_model.specs.Good.{IsCell, IsPages}
use Rattle.mm_cells.specs.declared.page_use.PageUse.{PageUse}
use Rattle.mm_cells.specs.declared.page_use.PageUse.TheVariants.{Unused, Class, First, Later}
use Rattle.mm_cells.specs.Map.{Map, use_at, mark_at}
use Rattle.mm_cells.specs.Cells.{Taken, Begins, IsSoundCells, IsRunOfCells, piece_at}
use Rattle.mm_cells.specs.Kept.{class_size, cells_in, taken_at, run_of, runs_of, cells_of, KeepsCells}
use Rattle.mm_cells.proofs.Sizes.ClassSizes.{class_size-least, cells_in-fit}
use Rattle.mm_cells.proofs.Sizes.Grains.{cell-fits, mod-whole}
use Rattle.mm_cells.proofs.Tables.Changed.{run-at, length-runs}
use Rattle.mm_cells.proofs.Region.Begins.{IsSmallCell, IsWholeCell, IsCellOf, small, whole, Begins-cell}
use Rattle.mm_cells.specs.Marks.{IsFlags}
use Rattle.mm_cells.proofs.Bits.Codes.{IsFlags-cell}
use Rattle.mm_cells.proofs.Region.Indexes.{taken_as-mark}
use Rattle.mm_cells.proofs.Region.Sound.{taken_as-extent, IsSpaced-kept}
use Rattle.mm_cells.proofs.Region.PageCells.{class-IsPageOf, whole-Begins}

-- the 19 sizes
class_size-is : (class : ℕ) → class < 19 → Contains class_sizes (class_size class)
unfolding class_sizes
class_size-is class known = Contains-get_or class_sizes class 0 known

-- what is known of a cell of a page of a class, and of one of whole pages
record IsInClass (m : Map) (base : ℕ) (cell : Taken) (page class number : ℕ) : Type 0 where
  used : use_at m page ≡ Class class
  known : class < 19
  begins : base ≡ 4096 * page + number * class_size class
  extent : cell.extent ≡ class_size class
  fits : number * class_size class + class_size class ≤ 4096
  within : page < m.pages

record IsInPages (m : Map) (base : ℕ) (cell : Taken) (page count : ℕ) : Type 0 where
  used : use_at m page ≡ First count
  begins : base ≡ 4096 * page
  extent : cell.extent ≡ 4096 * count
  some : 0 < count
  within : page + count ≤ m.pages

in_class : (m : Map) (page class number base : ℕ) (cell : Taken) → KeepsCells m →
    IsSmallCell m page class number base cell → IsInClass m base cell page class number
in_class m page class number base cell kept s = record {
  used = s.used;
  known = (kept.classes page class s.used).0;
  begins = s.begins;
  extent = taken_as-extent (class_size class) (mark_at m page number) cell s.taken;
  fits = cell-fits number (cells_in class) (class_size class) s.number_within (cells_in-fit class);
  within = s.page_within;
}

in_pages : (m : Map) (page count base : ℕ) (cell : Taken) → KeepsCells m → IsWholeCell m page count base cell →
    IsInPages m base cell page count
in_pages m page count base cell kept w =
    let known = kept.wholes page count w.used in
    record {
      used = w.used;
      begins = w.begins;
      extent = taken_as-extent (4096 * count) (mark_at m page 0) cell w.taken;
      some = known.some;
      within = known.within;
    }

-- on the grid
class-IsCell : (m : Map) (base : ℕ) (cell : Taken) (page class number : ℕ) → IsInClass m base cell page class number →
    IsCell (piece_at base cell)
class-IsCell m base cell page class number i =
    let least : 16 ≤ class_size class = class_size-least class i.known in
    let offset : base % 4096 ≡ number * class_size class = omega (arith, i.begins, i.fits) in
    record {
      class = subst (Contains class_sizes) (sym i.extent) (class_size-is class i.known);
      grid = ap (λ (x : ℕ). x % cell.extent) offset ∙ ap (λ (x : ℕ). number * class_size class % x) i.extent
          ∙ mod-whole number (class_size class) (omega arith);
      whole = omega (arith, i.fits, i.extent);
    }

pages-IsPages : (m : Map) (base : ℕ) (cell : Taken) (page count : ℕ) → IsInPages m base cell page count →
    IsPages (piece_at base cell)
pages-IsPages m base cell page count i =
    record { page = omega (arith, i.begins); pages = omega (arith, i.extent); some = omega (arith, i.extent, i.some) }

cell-placed : (m : Map) (base : ℕ) (cell : Taken) → KeepsCells m → IsCellOf m base cell →
    IsCell (piece_at base cell) ⊎ IsPages (piece_at base cell)
cell-placed m base cell kept (small page class number s) =
    inl (class-IsCell m base cell page class number (in_class m page class number base cell kept s))
cell-placed m base cell kept (whole page count w) =
    inr (pages-IsPages m base cell page count (in_pages m page count base cell kept w))

-- the bytes of a page that a piece has
shares : (page base : ℕ) (cell : Taken) → IsTrue (overlaps (4096 * page) 4096 (piece_at base cell)) →
    (base < 4096 * page + 4096) × (4096 * page < base + cell.extent)
shares page base cell on = grind (arith, and_parts, ltb-true)

-- two cells that share a page and don't overlap have one size
alike : (m : Map) (base other_base page : ℕ) (cell other : Taken) → KeepsCells m → IsCellOf m base cell →
    IsCellOf m other_base other → (base + cell.extent ≤ other_base) ⊎ (other_base + other.extent ≤ base) →
    base < 4096 * page + 4096 → 4096 * page < base + cell.extent → other_base < 4096 * page + 4096 →
    4096 * page < other_base + other.extent → cell.extent ≡ other.extent
alike m base other_base page cell other kept (small p c n s) (small q d k t) apart a b e f =
    let i = in_class m p c n base cell kept s in
    let j = in_class m q d k other_base other kept t in
    let here : p ≡ page = omega (arith, i.begins, i.fits, i.extent) in
    let there : q ≡ page = omega (arith, j.begins, j.fits, j.extent) in
    let used : use_at m page ≡ Class c = ap (use_at m) (sym here) ∙ i.used in
    let used_too : use_at m page ≡ Class d = ap (use_at m) (sym there) ∙ j.used in
    let same : c ≡ d = cc in
    i.extent ∙ ap class_size same ∙ sym j.extent
alike m base other_base page cell other kept (small p c n s) (whole q count w) apart a b e f =
    let i = in_class m p c n base cell kept s in
    let j = in_pages m q count other_base other kept w in
    let least : 16 ≤ class_size c = class_size-least c i.known in
    absurd (elim apart [
      | inl h ↦ omega (arith, i.begins, i.fits, i.extent, j.begins, j.extent)
      | inr h ↦ omega (arith, i.begins, i.fits, i.extent, j.begins, j.extent)
    ])
alike m base other_base page cell other kept (whole p count w) (small q d k t) apart a b e f =
    let i = in_pages m p count base cell kept w in
    let j = in_class m q d k other_base other kept t in
    let least : 16 ≤ class_size d = class_size-least d j.known in
    absurd (elim apart [
      | inl h ↦ omega (arith, j.begins, j.fits, j.extent, i.begins, i.extent)
      | inr h ↦ omega (arith, j.begins, j.fits, j.extent, i.begins, i.extent)
    ])
alike m base other_base page cell other kept (whole p count w) (whole q n x) apart a b e f =
    let i = in_pages m p count base cell kept w in
    let j = in_pages m q n other_base other kept x in
    absurd (elim apart [
      | inl h ↦ omega (arith, i.begins, i.extent, j.begins, j.extent)
      | inr h ↦ omega (arith, i.begins, i.extent, j.begins, j.extent)
    ])

-- the flags of a cell are read from its mark
cell-flags : (m : Map) (base : ℕ) (cell : Taken) → IsCellOf m base cell → IsFlags cell.flags
cell-flags m base cell (small page class number s) =
    IsFlags-cell m.marks (256 * page + number) cell.colour cell.flags
    (taken_as-mark (class_size class) (mark_at m page number) cell s.taken)
cell-flags m base cell (whole page count w) =
    IsFlags-cell m.marks (256 * page + 0) cell.colour cell.flags
    (taken_as-mark (4096 * count) (mark_at m page 0) cell w.taken)

-- a cell lies in the run that begins at its page
cell-in_run : (m : Map) (base : ℕ) (cell : Taken) → KeepsCells m → IsCellOf m base cell →
    base + cell.extent ≤ 4096 * (base / 4096 + slice_index (runs_of m) (base / 4096))
cell-in_run m base cell kept (small page class number s) =
    let i = in_class m page class number base cell kept s in
    let least : 16 ≤ class_size class = class_size-least class i.known in
    let at : base / 4096 ≡ page = omega (arith, i.begins, i.fits) in
    let run : slice_index (runs_of m) (base / 4096) ≡ 1 =
    ap (slice_index (runs_of m)) at ∙ run-at m page i.within ∙ ap run_of i.used in
    omega (arith, i.begins, i.fits, i.extent)
cell-in_run m base cell kept (whole page count w) =
    let i = in_pages m page count base cell kept w in
    let at : base / 4096 ≡ page = omega (arith, i.begins) in
    let run : slice_index (runs_of m) (base / 4096) ≡ count =
    ap (slice_index (runs_of m)) at ∙ run-at m page (omega (arith, i.some, i.within)) ∙ ap run_of i.used in
    omega (arith, i.begins, i.extent)

-- a cell has bytes
cell-some : (m : Map) (base : ℕ) (cell : Taken) → KeepsCells m → IsCellOf m base cell → 0 < cell.extent
cell-some m base cell kept (small page class number s) =
    let i = in_class m page class number base cell kept s in
    omega (arith, i.extent, class_size-least class i.known)
cell-some m base cell kept (whole page count w) =
    let i = in_pages m page count base cell kept w in
    omega (arith, i.extent, i.some)

-- where a run begins
run-within : (m : Map) (page : ℕ) → 0 < slice_index (runs_of m) page → page < m.pages
run-within m page some = elim (cases_lt page m.pages) [
  | inl h ↦ h
  | inr h ↦ absurd (omega (arith, get_or_past (runs_of m) page 0 (omega (arith, length-runs m))))
]

used-run : (m : Map) (page : ℕ) (page_use : PageUse) → KeepsCells m → page < m.pages → use_at m page ≡ page_use →
    0 < run_of page_use → IsRunOfCells (cells_of m) page
used-run m page Unused kept within used some = absurd (omega arith)
used-run m page (Class class) kept within used some =
    let p = class-IsPageOf m page class kept used in
    let run : slice_index (runs_of m) page ≡ 1 = run-at m page within ∙ ap run_of used in
    let spaced = (IsSpaced-kept m kept).some p.base p.cell p.begins in
    record {
      base = p.base;
      cell = p.cell;
      begins = p.begins;
      inside = p.inside;
      needed = omega (arith, p.inside);
    }
used-run m page (First count) kept within used some =
    let found = whole-Begins m page count kept used in
    let run : slice_index (runs_of m) page ≡ count = run-at m page within ∙ ap run_of used in
    record {
      base = 4096 * page;
      cell = found.0;
      begins = found.1;
      inside = omega arith;
      needed = omega (arith, found.2);
    }
used-run m page (Later distance) kept within used some = absurd (omega arith)

pub IsSoundCells-kept : (m : Map) → KeepsCells m → IsSoundCells (cells_of m)
IsSoundCells-kept m kept =
    let spaced = IsSpaced-kept m kept in
    let disjoint : (base other_base : ℕ) (cell other : Taken) → Begins (cells_of m) base cell →
    Begins (cells_of m) other_base other → base ≢ other_base →
    (base + cell.extent ≤ other_base) ⊎ (other_base + other.extent ≤ base) =
    λ base other_base cell other b o apart. elim (cases_order base other_base) [
      | inl same ↦ absurd (apart same)
      | inr (inl below) ↦ inl (spaced.apart base other_base cell other b o below)
      | inr (inr above) ↦ inr (spaced.apart other_base base other cell o b above)
    ] in
    record {
      two = kept.two;
      most = kept.most;
      size = length-map-range_with_len (taken_at m) 0 (256 * m.pages);
      runs_size = length-runs m;
      inside = λ base cell begins.
          record {
            from = spaced.off_zero base cell begins;
            to = spaced.within base cell begins;
            placed = cell-placed m base cell kept (Begins-cell m base cell begins);
          };
      apart = λ base other_base cell other b o apart.
          record {
            disjoint = disjoint base other_base cell other b o apart;
            alike = λ page on on_too.
                let one = shares page base cell on in
                let two = shares page other_base other on_too in (
                  alike m base other_base page cell other kept (Begins-cell m base cell b)
                      (Begins-cell m other_base other o) (disjoint base other_base cell other b o apart)
                      one.0 one.1 two.0 two.1,
                  refl,
                );
          };
      flags = λ base cell begins. cell-flags m base cell (Begins-cell m base cell begins);
      in_run = λ base cell begins. cell-in_run m base cell kept (Begins-cell m base cell begins);
      has_run = λ base cell begins.
          let of = Begins-cell m base cell begins in
          omega (arith, cell-in_run m base cell kept of, cell-some m base cell kept of);
      runs = λ page some.
          let within = run-within m page some in
          used-run m page (use_at m page) kept within refl (omega (arith, run-at m page within));
    }
