-- The pages of a class as callers see them.
use Rattle.std.proofs.Common.{◌≡◌, ◌≢◌, ℕ, suc, ◌+◌, ◌-◌, ◌*◌, ◌/◌, ◌<◌, ◌≤◌, inl, inr, Bool, true, false, refl, arith}
use Rattle.std.proofs.Common.{sym, ◌∙◌, ap, subst}
use Rattle.std.specs.Prelude.{Some, None, nat_eq}
use Rattle.std.proofs.lemmas.Bool.{cases_lt, cases_order, agree_below_at, eqb-true}
use Rattle.std.proofs.lemmas.Nat.{le-div}
use Rattle.std.proofs.Math.Nat.{mul-le-mul_right, suc-mul}
use Rattle.mm_model.specs.Places.SizeClass.{class_sizes, class_index}
use Rattle.mm_model.specs.Places.Lowest.{IsNowhere, IsLowest}
use Rattle.mm_pages.specs.Pages.{Covers}
use Rattle.mm_cells.specs.declared.page_use.PageUse.{PageUse}
use Rattle.mm_cells.specs.declared.page_use.PageUse.TheVariants.{Unused, Class, First, Later}
use Rattle.mm_cells.specs.declared.marks.Mark.{Mark}
use Rattle.mm_cells.specs.declared.marks.Mark.TheVariants as marks
use Rattle.mm_cells.specs.Marks.{IsLowestFree}
use Rattle.mm_cells.specs.Map.{Map, use_at, mark_at, room_at, NoPageWithRoom, IsLowestRoom}
use Rattle.mm_cells.specs.Cells.{Taken, Begins, IsTaken}
use Rattle.mm_cells.specs.Kept.{class_size, cells_in, taken_as, run_of, runs_of, cells_of, KeepsCells, HasFree}
use Rattle.mm_cells.specs.Placing.{IsPageOf, IsFreeCell}
use Rattle.mm_cells.proofs.Sizes.ClassSizes.{class_size-least, class_size-most, cells_in-fit}
use Rattle.mm_cells.proofs.Sizes.Grains.{cell-fits, div-whole}
use Rattle.mm_cells.proofs.Region.Begins.{IsCellOf, small, whole, Begins-cell, cell-Begins}
use Rattle.mm_cells.proofs.Region.Sound.{taken_as-extent}
use Rattle.mm_cells.proofs.Tables.Changed.{run-at}

-- a mark that isn't free is that of a taken cell
pub taken-mark : (extent : ℕ) (mark : Mark) → mark ≢ marks.Free → (cell : Taken) × (taken_as extent mark ≡ Some cell)
taken-mark extent marks.Free taken = absurd (taken refl)
taken-mark extent (marks.Taken colour flags) taken =
    (record { extent = extent; colour = colour; flags = flags }, refl)

-- no two classes have cells of one size
class_size-index : (class : ℕ) → class < 19 → class_index (class_size class) ≡ class
unfolding class_sizes
class_size-index class within =
    eqb-true (class_index (class_size class)) class
    (agree_below_at (λ n. nat_eq (class_index (class_size n)) n) (λ _. true) 19 class refl within)

pub class_size-apart : (low high : ℕ) → low < 19 → high < 19 → class_size low ≡ class_size high → low ≡ high
class_size-apart low high below above same =
    sym (class_size-index low below) ∙ ap class_index same ∙ class_size-index high above

-- where a cell of a page begins
pub cell-page : (page number class : ℕ) → class < 19 → number < cells_in class →
    (4096 * page + number * class_size class) / 4096 ≡ page
cell-page page number class known within =
    let fits : number * class_size class + class_size class ≤ 4096 =
    cell-fits number (cells_in class) (class_size class) within (cells_in-fit class) in
    let least : 16 ≤ class_size class = class_size-least class known in
    omega arith

-- cells of one page begin at one place only if they have one number
number-same : (low high size : ℕ) → 0 < size → low * size ≡ high * size → low ≡ high
number-same low high size some same =
    sym (div-whole low size some) ∙ ap (λ (x : ℕ). x / size) same ∙ div-whole high size some

-- a mark tells of a taken cell
pub marked-Begins : (m : Map) (page class number : ℕ) → KeepsCells m → use_at m page ≡ Class class →
    number < cells_in class → mark_at m page number ≢ marks.Free →
    (cell : Taken) × (Begins (cells_of m) (4096 * page + number * class_size class) cell)
    × (cell.extent ≡ class_size class)
marked-Begins m page class number kept used within taken =
    let size : ℕ = class_size class in
    let found = taken-mark size (mark_at m page number) taken in
    let base : ℕ = 4096 * page + number * size in
    let page_within : page < m.pages = elim (cases_lt page m.pages) [
      | inl h ↦ h
      | inr h ↦ absurd (let none = kept.inside page h in cc)
    ] in (
      found.0,
      cell-Begins m base found.0 kept (small page class number (record {
        page_within = page_within;
        used = used;
        number_within = within;
        begins = refl;
        taken = found.1;
      })),
      taken_as-extent size (mark_at m page number) found.0 found.1,
    )

-- a page of a class is one of cells of its size
pub class-IsPageOf : (m : Map) (page class : ℕ) → KeepsCells m → use_at m page ≡ Class class →
    IsPageOf (cells_of m) (class_size class) page
class-IsPageOf m page class kept used =
    let known = kept.classes page class used in
    let number : ℕ = known.1.cell in
    let found = marked-Begins m page class number kept used known.1.within known.1.taken in
    record {
      base = 4096 * page + number * class_size class;
      cell = found.0;
      begins = found.1;
      inside = cell-page page number class known.0 known.1.within;
      same = found.2;
      small = omega (arith, class_size-most class known.0);
    }

-- and the other way round
page-class : (m : Map) (page class base : ℕ) (cell : Taken) → KeepsCells m → class < 19 → IsCellOf m base cell →
    base / 4096 ≡ page → cell.extent ≡ class_size class → use_at m page ≡ Class class
page-class m page class base cell kept known (small p c number s) inside same =
    let low : c < 19 = (kept.classes p c s.used).0 in
    let extent : cell.extent ≡ class_size c = taken_as-extent (class_size c) (mark_at m p number) cell s.taken in
    let is : c ≡ class = class_size-apart c class low known (sym extent ∙ same) in
    let at : p ≡ page = sym (cell-page p number c low s.number_within) ∙ ap (λ (b : ℕ). b / 4096) (sym s.begins)
    ∙ inside in
    ap (use_at m) (sym at) ∙ s.used ∙ ap Class is
page-class m page class base cell kept known (whole p count w) inside same =
    let extent : cell.extent ≡ 4096 * count = taken_as-extent (4096 * count) (mark_at m p 0) cell w.taken in
    absurd (omega (arith, class_size-most class known, (kept.wholes p count w.used).some))

pub IsPageOf-class : (m : Map) (page class : ℕ) → KeepsCells m → class < 19 →
    IsPageOf (cells_of m) (class_size class) page → use_at m page ≡ Class class
IsPageOf-class m page class kept known p =
    page-class m page class p.base p.cell kept known (Begins-cell m p.base p.cell p.begins) p.inside p.same

-- the mark of the cell that begins there
free-cell : (m : Map) (page class number base : ℕ) (cell : Taken) → KeepsCells m → use_at m page ≡ Class class →
    number < cells_in class → mark_at m page number ≡ marks.Free → base ≡ 4096 * page + number * class_size class →
    IsCellOf m base cell → ⊥
free-cell m page class number base cell kept used within free at (small p c n s) =
    let known : class < 19 = (kept.classes page class used).0 in
    let low : c < 19 = (kept.classes p c s.used).0 in
    let same_page : p ≡ page = sym (cell-page p n c low s.number_within) ∙ ap (λ (b : ℕ). b / 4096) (sym s.begins ∙ at)
    ∙ cell-page page number class known within in
    let used_there : use_at m p ≡ Class class = ap (use_at m) same_page ∙ used in
    let used_so : use_at m p ≡ Class c = s.used in
    let same_class : c ≡ class = cc in
    let size : class_size c ≡ class_size class = ap class_size same_class in
    let places : n * class_size class ≡ number * class_size class =
    ap (λ (x : ℕ). n * x) (sym size) ∙ omega (arith, s.begins) in
    let same_number : n ≡ number =
    number-same n number (class_size class) (omega (arith, class_size-least class known)) places in
    let mark : mark_at m p n ≡ marks.Free =
    ap (λ (q : ℕ). mark_at m q n) same_page ∙ ap (λ (k : ℕ). mark_at m page k) same_number ∙ free in
    let none : taken_as (class_size c) (mark_at m p n) ≡ None = ap (λ (k : Mark). taken_as (class_size c) k) mark in
    let some : taken_as (class_size c) (mark_at m p n) ≡ Some cell = s.taken in
    cc
free-cell m page class number base cell kept used within free at (whole p count w) =
    let known : class < 19 = (kept.classes page class used).0 in
    let same_page : p ≡ page = omega (arith, w.begins, cell-page page number class known within) in
    let used_there : use_at m p ≡ Class class = ap (use_at m) same_page ∙ used in
    let used_so : use_at m p ≡ First count = w.used in
    cc

-- a cell that fits has a number below that of the cells
number-below : (number size : ℕ) → 0 < size → number * size + size ≤ 4096 → number < 4096 / size
number-below number size some fit =
    let more : suc number * size ≤ 4096 = omega (arith, suc-mul number size) in
    let fits : suc number ≤ 4096 / size = le-div (suc number) 4096 size some more in
    omega arith

pub free-IsFreeCell : (m : Map) (page class number base : ℕ) → KeepsCells m → use_at m page ≡ Class class →
    number < cells_in class → mark_at m page number ≡ marks.Free → base ≡ 4096 * page + number * class_size class →
    IsFreeCell (cells_of m) (class_size class) base
free-IsFreeCell m page class number base kept used within free at = record {
  page = page;
  number = number;
  at = sym at;
  whole = cell-fits number (cells_in class) (class_size class) within (cells_in-fit class);
  of_page = class-IsPageOf m page class kept used;
  free = λ cell begins. free-cell m page class number base cell kept used within free at
      (Begins-cell m base cell begins);
}

-- and the other way round
record IsFreeMark (m : Map) (class page number : ℕ) : Type 0 where
  used : use_at m page ≡ Class class
  page_within : page < m.pages
  within : number < cells_in class
  free : mark_at m page number ≡ marks.Free

IsFreeCell-mark : (m : Map) (class base : ℕ) → KeepsCells m → class < 19 →
    (f : IsFreeCell (cells_of m) (class_size class) base) → IsFreeMark m class f.page f.number
IsFreeCell-mark m class base kept known f =
    let used : use_at m f.page ≡ Class class = IsPageOf-class m f.page class kept known f.of_page in
    let within : f.number < cells_in class =
    number-below f.number (class_size class) (omega (arith, class_size-least class known)) f.whole in
    let page_within : f.page < m.pages = elim (cases_lt f.page m.pages) [
      | inl h ↦ h
      | inr h ↦ absurd (let none = kept.inside f.page h in cc)
    ] in
    let mark : Mark = mark_at m f.page f.number in
    record {
      used = used;
      page_within = page_within;
      within = within;
      free = elim (mark_at m f.page f.number) as (λ (k : Mark). mark_at m f.page f.number ≡ k → k ≡ marks.Free) [
        | marks.Free ↦ λ e. refl
        | marks.Taken colour flags ↦ λ e.
            let found = marked-Begins m f.page class f.number kept used within (λ free. absurd (cc)) in
            absurd (f.free found.0 (subst (λ (b : ℕ). Begins (cells_of m) b found.0) f.at found.1))
      ] refl;
    }

-- a page with a free cell is one that the set of its class has
IsFreeCell-room : (m : Map) (class base : ℕ) → KeepsCells m → class < 19 →
    (f : IsFreeCell (cells_of m) (class_size class) base) → room_at m class f.page ≡ true
IsFreeCell-room m class base kept known f =
    let at = IsFreeCell-mark m class base kept known f in
    (kept.rooms class f.page known at.page_within).1 (
      at.used,
      record { cell = f.number; within = at.within; free = at.free },
    )

pub IsNowhere-none : (m : Map) (class : ℕ) → KeepsCells m → class < 19 → NoPageWithRoom m class →
    IsNowhere (IsFreeCell (cells_of m) (class_size class))
IsNowhere-none m class kept known none base f =
    let no : room_at m class f.page ≡ false = none f.page (IsFreeCell-mark m class base kept known f).page_within in
    let yes : room_at m class f.page ≡ true = IsFreeCell-room m class base kept known f in
    cc

-- where a test is not false it is true
not_false : (test : Bool) → (test ≡ false → ⊥) → test ≡ true
not_false true f = refl
not_false false f = absurd (f refl)

-- the lowest page that has room
pub IsLowestRoom-class : (m : Map) (class page : ℕ) → KeepsCells m → class < 19 → IsLowestRoom m class page →
    (use_at m page ≡ Class class) × HasFree m page class
IsLowestRoom-class m class page kept known lowest =
    (kept.rooms class page known lowest.within).0 (not_false (room_at m class page) lowest.has_room)

pub IsLowest-lowest : (m : Map) (class page number base : ℕ) → KeepsCells m → class < 19 → IsLowestRoom m class page →
    IsLowestFree (mark_at m page) (cells_in class) number → base ≡ 4096 * page + number * class_size class →
    IsLowest (IsFreeCell (cells_of m) (class_size class)) base
IsLowest-lowest m class page number base kept known lowest free at =
    let used : use_at m page ≡ Class class = (IsLowestRoom-class m class page kept known lowest).0 in
    let fit = cell-fits number (cells_in class) (class_size class) free.within (cells_in-fit class) in
    let least : 16 ≤ class_size class = class_size-least class known in
    record {
      is = free-IsFreeCell m page class number base kept used free.within free.free at;
      least = λ other f.
          let mark = IsFreeCell-mark m class other kept known f in
          elim (cases_order f.page page) [
            | inl same ↦ elim (cases_lt f.number number) [
              | inl below ↦ absurd (free.lowest f.number below
                  (ap (λ (p : ℕ). mark_at m p f.number) (sym same) ∙ mark.free))
              | inr above ↦ omega (arith, f.at, mul-le-mul_right (class_size class) above)
            ]
            | inr (inl below) ↦
                let no : room_at m class f.page ≡ false = lowest.lowest f.page below in
                let yes : room_at m class f.page ≡ true = IsFreeCell-room m class other kept known f in
                absurd (cc)
            | inr (inr above) ↦ omega (arith, f.at)
          ];
    }

-- no cell begins in an unused page
unused-cell : (m : Map) (page base : ℕ) (cell : Taken) → KeepsCells m → use_at m page ≡ Unused → base / 4096 ≡ page →
    IsCellOf m base cell → ⊥
unused-cell m page base cell kept unused inside (small p c n s) =
    let low : c < 19 = (kept.classes p c s.used).0 in
    let at : p ≡ page = sym (cell-page p n c low s.number_within) ∙ ap (λ (b : ℕ). b / 4096) (sym s.begins) ∙ inside in
    let none : use_at m p ≡ Unused = ap (use_at m) at ∙ unused in
    let some : use_at m p ≡ Class c = s.used in
    cc
unused-cell m page base cell kept unused inside (whole p count w) =
    let at : p ≡ page = omega (arith, w.begins) in
    let none : use_at m p ≡ Unused = ap (use_at m) at ∙ unused in
    let some : use_at m p ≡ First count = w.used in
    cc

pub unused-none_begins : (m : Map) (page base : ℕ) (cell : Taken) → KeepsCells m → use_at m page ≡ Unused →
    Begins (cells_of m) base cell → base / 4096 ≢ page
unused-none_begins m page base cell kept unused begins inside =
    unused-cell m page base cell kept unused inside (Begins-cell m base cell begins)

-- the taken cell of whole pages
pub whole-Begins : (m : Map) (page count : ℕ) → KeepsCells m → use_at m page ≡ First count →
    (cell : Taken) × (Begins (cells_of m) (4096 * page) cell) × (cell.extent ≡ 4096 * count)
whole-Begins m page count kept used =
    let found = taken-mark (4096 * count) (mark_at m page 0) (kept.wholes page count used).taken in (
      found.0,
      cell-Begins m (4096 * page) found.0 kept
          (whole page count (record { used = used; begins = refl; taken = found.1 })),
      taken_as-extent (4096 * count) (mark_at m page 0) found.0 found.1,
    )

-- a page in which no run of cells lies is unused
vacant-used : (m : Map) (page : ℕ) (page_use : PageUse) → KeepsCells m → page < m.pages →
    (Covers (runs_of m) page → ⊥) → use_at m page ≡ page_use → page_use ≡ Unused
vacant-used m page Unused kept within vacant used = refl
vacant-used m page (Class class) kept within vacant used =
    absurd (vacant (record {
      first = page;
      begins = omega arith;
      reaches = omega (arith, run-at m page within, ap run_of used);
    }))
vacant-used m page (First count) kept within vacant used =
    absurd (vacant (record {
      first = page;
      begins = omega arith;
      reaches = omega (arith, run-at m page within, ap run_of used, (kept.wholes page count used).some);
    }))
vacant-used m page (Later distance) kept within vacant used =
    let later = kept.laters page distance used in
    absurd (vacant (record {
      first = page - distance;
      begins = omega arith;
      reaches = omega (
        arith,
        run-at m (page - distance) (omega arith),
        ap run_of later.first,
        later.behind,
        later.within,
      );
    }))

pub vacant-unused : (m : Map) (page : ℕ) → KeepsCells m → page < m.pages → (Covers (runs_of m) page → ⊥) →
    use_at m page ≡ Unused
vacant-unused m page kept within vacant = vacant-used m page (use_at m page) kept within vacant refl

-- the page in which a taken cell begins
pub data IsPageOfTaken (m : Map) (base : ℕ) : Type 0 where
  of_class : (class : ℕ) → use_at m (base / 4096) ≡ Class class → IsPageOfTaken m base
  of_whole : (count : ℕ) → use_at m (base / 4096) ≡ First count → base ≡ 4096 * (base / 4096) → IsPageOfTaken m base

cell-page_of : (m : Map) (base : ℕ) (cell : Taken) → KeepsCells m → IsCellOf m base cell → IsPageOfTaken m base
cell-page_of m base cell kept (small p c n s) =
    let low : c < 19 = (kept.classes p c s.used).0 in
    let at : base / 4096 ≡ p = ap (λ (b : ℕ). b / 4096) s.begins ∙ cell-page p n c low s.number_within in
    of_class c (ap (use_at m) at ∙ s.used)
cell-page_of m base cell kept (whole p count w) =
    let at : base / 4096 ≡ p = omega (arith, w.begins) in
    of_whole count (ap (use_at m) at ∙ w.used) (omega (arith, w.begins))

pub IsTaken-page : (m : Map) (base : ℕ) → KeepsCells m → IsTaken (cells_of m) base → IsPageOfTaken m base
IsTaken-page m base kept taken = cell-page_of m base taken.0 kept (Begins-cell m base taken.0 taken.1)

-- a cell of a page of a class has the bytes of the class
class-extent : (m : Map) (base class : ℕ) (cell : Taken) → KeepsCells m → use_at m (base / 4096) ≡ Class class →
    IsCellOf m base cell → cell.extent ≡ class_size class
class-extent m base class cell kept used (small p c n s) =
    let low : c < 19 = (kept.classes p c s.used).0 in
    let at : base / 4096 ≡ p = ap (λ (b : ℕ). b / 4096) s.begins ∙ cell-page p n c low s.number_within in
    let used_so : use_at m (base / 4096) ≡ Class c = ap (use_at m) at ∙ s.used in
    let same : c ≡ class = cc in
    taken_as-extent (class_size c) (mark_at m p n) cell s.taken ∙ ap class_size same
class-extent m base class cell kept used (whole p count w) =
    let at : base / 4096 ≡ p = omega (arith, w.begins) in
    let used_so : use_at m (base / 4096) ≡ First count = ap (use_at m) at ∙ w.used in
    absurd (cc)

pub Begins-class_extent : (m : Map) (base class : ℕ) (cell : Taken) → KeepsCells m →
    use_at m (base / 4096) ≡ Class class → Begins (cells_of m) base cell → cell.extent ≡ class_size class
Begins-class_extent m base class cell kept used begins =
    class-extent m base class cell kept used (Begins-cell m base cell begins)

-- and one of whole pages those of its pages
first-extent : (m : Map) (base count : ℕ) (cell : Taken) → KeepsCells m → use_at m (base / 4096) ≡ First count →
    IsCellOf m base cell → cell.extent ≡ 4096 * count
first-extent m base count cell kept used (small p c n s) =
    let low : c < 19 = (kept.classes p c s.used).0 in
    let at : base / 4096 ≡ p = ap (λ (b : ℕ). b / 4096) s.begins ∙ cell-page p n c low s.number_within in
    let used_so : use_at m (base / 4096) ≡ Class c = ap (use_at m) at ∙ s.used in
    absurd (cc)
first-extent m base count cell kept used (whole p n w) =
    let at : base / 4096 ≡ p = omega (arith, w.begins) in
    let used_so : use_at m (base / 4096) ≡ First n = ap (use_at m) at ∙ w.used in
    let same : n ≡ count = cc in
    taken_as-extent (4096 * n) (mark_at m p 0) cell w.taken ∙ ap (λ (k : ℕ). 4096 * k) same

pub Begins-first_extent : (m : Map) (base count : ℕ) (cell : Taken) → KeepsCells m →
    use_at m (base / 4096) ≡ First count → Begins (cells_of m) base cell → cell.extent ≡ 4096 * count
Begins-first_extent m base count cell kept used begins =
    first-extent m base count cell kept used (Begins-cell m base cell begins)
