-- What callers see of a table, and what it keeps, as the mark of a cell changes.
use Rattle.std.proofs.Common.{◌≡◌, ℕ, ◌+◌, ◌-◌, ◌*◌, ◌/◌, ◌<◌, ◌≤◌, inl, inr, List, arith, sym, ◌∙◌, ap, subst}
use Rattle.std.proofs.lemmas.Bool.{cases_eq}
use Rattle.std.specs.Prelude.{take, drop}
use Rattle.mm_sets.specs.Set.{set_size, members}
use Rattle.mm_cells.specs.declared.page_use.PageUse.{PageUse}
use Rattle.mm_cells.specs.declared.page_use.PageUse.TheVariants.{Class, First}
use Rattle.mm_cells.specs.declared.marks.Mark.{Mark}
use Rattle.mm_cells.specs.declared.marks.Mark.TheVariants as marks
use Rattle.mm_cells.specs.Map.{Map, use_at, mark_at, room_at, HasPlainMarks, IsSame, SetsMark}
use Rattle.mm_cells.specs.Cells.{with_cell}
use Rattle.mm_cells.specs.Kept.{class_size, cells_in, taken_as, taken_in, runs_of, cells_of, KeepsCells}
use Rattle.mm_cells.specs.Indexes.{MarksCell, in_class, in_whole}
use Rattle.mm_cells.proofs.Sizes.ClassSizes.{class_size-least, cells_in-fit, cells_in-most, cell-units}
use Rattle.mm_cells.proofs.Sizes.Grains.{cell-fits}
use Rattle.mm_cells.proofs.Region.Begins.{taken_in-class_here}
use Rattle.mm_cells.proofs.Tables.Blocks.{use_at-same}
use Rattle.mm_cells.proofs.Tables.Changed.{ChangesPlace, cells_of-changed, taken_in-alike, taken_in-class_other}
use Rattle.mm_cells.proofs.Tables.Changed.{taken_in-first_other, runs-same}

-- every page of a class has one of the 19
abbrev pub HasClasses : Map → Type 0
HasClasses m = (page class : ℕ) → use_at m page ≡ Class class → class < 19

pub KeepsCells-classes : (m : Map) → KeepsCells m → HasClasses m
KeepsCells-classes m kept page class used = (kept.classes page class used).0

-- the mark of a cell of a class changes
class-changed : (a b : Map) (page number class : ℕ) (mark : Mark) → HasClasses a → SetsMark a b page number mark →
    page < a.pages → class < 19 → use_at a page ≡ Class class → number < cells_in class →
    ChangesPlace a b page (number * (class_size class / 16)) (taken_as (class_size class) mark)
class-changed a b page number class mark known sets within low used small =
    let size : ℕ = class_size class in
    let place : ℕ = number * (size / 16) in
    let units : number * size ≡ 16 * place = cell-units class number low in
    let some : 16 ≤ size = class_size-least class low in
    let fits : number * size + size ≤ 4096 = cell-fits number (cells_in class) size small (cells_in-fit class) in
    let now : use_at b page ≡ Class class = use_at-same a b page sets.uses ∙ used in
    record {
      same = sets.same;
      within = within;
      low = omega arith;
      here =
          ap (λ (u : PageUse). taken_in u (mark_at b page) (16 * place)) now
          ∙ ap (λ (x : ℕ). taken_in (Class class) (mark_at b page) x) (sym units)
          ∙ taken_in-class_here class number (mark_at b page) low small
          ∙ ap (λ (x : Mark). taken_as size x) sets.here;
      others = λ other h d.
          ap (λ (u : PageUse). taken_in u (mark_at b page) (16 * other)) now
          ∙ taken_in-class_other class number (mark_at a page) (mark_at b page) (16 * other) low
          (λ cell h d. sets.other_cells cell h d) (λ e. d (omega arith))
          ∙ ap (λ (u : PageUse). taken_in u (mark_at a page) (16 * other)) (sym used);
      pages = λ other any h d l.
          ap (λ (u : PageUse). taken_in u (mark_at b other) (16 * any)) (use_at-same a b other sets.uses)
          ∙ taken_in-alike (use_at a other) (mark_at a other) (mark_at b other) (16 * any) (known other)
          (λ cell h. sets.other_pages other cell d h);
    }

-- the mark of a cell of whole pages changes
whole-changed : (a b : Map) (page count : ℕ) (mark : Mark) → HasClasses a → SetsMark a b page 0 mark →
    page < a.pages → use_at a page ≡ First count → ChangesPlace a b page 0 (taken_as (4096 * count) mark)
whole-changed a b page count mark known sets within used =
    let now : use_at b page ≡ First count = use_at-same a b page sets.uses ∙ used in
    record {
      same = sets.same;
      within = within;
      low = omega arith;
      here =
          ap (λ (u : PageUse). taken_in u (mark_at b page) 0) now
          ∙ ap (λ (x : Mark). taken_as (4096 * count) x) sets.here;
      others = λ other h d.
          ap (λ (u : PageUse). taken_in u (mark_at b page) (16 * other)) now
          ∙ taken_in-first_other count (mark_at b page) (16 * other) (λ e. d (omega arith))
          ∙ sym (taken_in-first_other count (mark_at a page) (16 * other) (λ e. d (omega arith)))
          ∙ ap (λ (u : PageUse). taken_in u (mark_at a page) (16 * other)) (sym used);
      pages = λ other any h d l.
          ap (λ (u : PageUse). taken_in u (mark_at b other) (16 * any)) (use_at-same a b other sets.uses)
          ∙ taken_in-alike (use_at a other) (mark_at a other) (mark_at b other) (16 * any) (known other)
          (λ cell h. sets.other_pages other cell d h);
    }

pub cells_of-marked : (a b : Map) (page number base extent : ℕ) (mark : Mark) → HasClasses a →
    MarksCell a page number base extent → SetsMark a b page number mark →
    cells_of b ≡ with_cell (cells_of a) base (taken_as extent mark)
cells_of-marked a b page number base extent mark known (in_class class within low used small begins whole) sets =
    cells_of-changed a b page (number * (class_size class / 16)) base (taken_as (class_size class) mark)
    (runs_of a) (runs-same a b sets.same.pages sets.uses)
    (class-changed a b page number class mark known sets within low used small)
    (omega (arith, cell-units class number low))
    ∙ ap (λ (x : ℕ). with_cell (cells_of a) base (taken_as x mark)) (sym whole)
cells_of-marked a b page number base extent mark known (in_whole count within used first begins whole) sets =
    cells_of-changed a b page 0 base (taken_as (4096 * count) mark)
    (runs_of a) (runs-same a b sets.same.pages sets.uses)
    (whole-changed a b page count mark known (subst (λ (n : ℕ). SetsMark a b page n mark) first sets) within used)
    (omega arith)
    ∙ ap (λ (x : ℕ). with_cell (cells_of a) base (taken_as x mark)) (sym whole)

-- the same cells are free, and all else is as it was
pub record IsAlike (a b : Map) : Type 0 where
  pub same : IsSame a b
  pub uses : b.uses ≡ a.uses
  pub rooms : b.rooms ≡ a.rooms
  pub free_now : (page cell : ℕ) → cell < 256 → mark_at a page cell ≡ marks.Free → mark_at b page cell ≡ marks.Free
  pub free_before : (page cell : ℕ) → cell < 256 → mark_at b page cell ≡ marks.Free → mark_at a page cell ≡ marks.Free
  pub plain : (page : ℕ) → HasPlainMarks a page → HasPlainMarks b page

same-room : (a b : Map) → IsAlike a b → (class page : ℕ) → room_at b class page ≡ room_at a class page
same-room a b alike class page =
    ap (λ (rooms : List ℕ). members (take (set_size b.pages) (drop (class * set_size b.pages) rooms)) page) alike.rooms
    ∙ ap (λ (pages : ℕ). members (take (set_size pages) (drop (class * set_size pages) a.rooms)) page) alike.same.pages

pub KeepsCells-alike : (a b : Map) → IsAlike a b → KeepsCells a → KeepsCells b
KeepsCells-alike a b alike kept =
    let uses : (page : ℕ) → use_at b page ≡ use_at a page = λ page. use_at-same a b page alike.uses in
    let pages : b.pages ≡ a.pages = alike.same.pages in
    record {
      two = omega (arith, kept.two);
      most = omega (arith, kept.most);
      off_zero = uses 0 ∙ kept.off_zero;
      inside = λ page h. uses page ∙ kept.inside page (omega arith);
      classes = λ page class used.
          let known = kept.classes page class (sym (uses page) ∙ used) in
          let most : cells_in class ≤ 256 = cells_in-most class known.0 in (
            known.0,
            record {
              cell = known.1.cell;
              within = known.1.within;
              taken = λ free. known.1.taken (alike.free_before page known.1.cell (omega (arith, known.1.within)) free);
            },
          );
      wholes = λ page count used.
          let known = kept.wholes page count (sym (uses page) ∙ used) in
          record {
            some = known.some;
            within = omega (arith, known.within);
            later = λ distance some within. uses (page + distance) ∙ known.later distance some within;
            taken = λ free. known.taken (alike.free_before page 0 (omega arith) free);
          };
      laters = λ page distance used.
          let known = kept.laters page distance (sym (uses page) ∙ used) in
          record {
            some = known.some;
            behind = known.behind;
            count = known.count;
            first = uses (page - distance) ∙ known.first;
            within = known.within;
          };
      plain = λ page class used. alike.plain page (kept.plain page class (sym (uses page) ∙ used));
      rooms = λ class page low within.
          let known = kept.rooms class page low (omega arith) in
          let most : cells_in class ≤ 256 = cells_in-most class low in (
            (λ room.
                let has = known.0 (sym (same-room a b alike class page) ∙ room) in (
                  uses page ∙ has.0,
                  record {
                    cell = has.1.cell;
                    within = has.1.within;
                    free = alike.free_now page has.1.cell (omega (arith, has.1.within)) has.1.free;
                  },
                )),
            (λ has.
                same-room a b alike class page ∙ known.1 (
                  sym (uses page) ∙ has.0,
                  record {
                    cell = has.1.cell;
                    within = has.1.within;
                    free = alike.free_before page has.1.cell (omega (arith, has.1.within)) has.1.free;
                  },
                )),
          );
    }

-- a taken cell stays taken
pub KeepsCells-marked : (a b : Map) (page number : ℕ) (mark : Mark) → KeepsCells a → SetsMark a b page number mark →
    number < 256 → (mark_at a page number ≡ marks.Free → ⊥) → (mark ≡ marks.Free → ⊥) → KeepsCells b
KeepsCells-marked a b page number mark kept sets low before now =
    let same : (p c : ℕ) → c < 256 → (p ≡ page → c ≡ number → ⊥) → mark_at b p c ≡ mark_at a p c =
    λ p c l d. elim (cases_eq p page) [
      | inr apart ↦ sets.other_pages p c apart l
      | inl e ↦ ap (λ (x : ℕ). mark_at b x c) e ∙ sets.other_cells c l (d e) ∙ ap (λ (x : ℕ). mark_at a x c) (sym e)
    ] in
    let taken_now : (p c : ℕ) → mark_at b p c ≡ marks.Free → p ≡ page → c ≡ number → ⊥ =
    λ p c free e d. now (sym sets.here ∙ ap (λ (x : ℕ). mark_at b page x) (sym d)
    ∙ ap (λ (x : ℕ). mark_at b x c) (sym e) ∙ free) in
    let taken_before : (p c : ℕ) → mark_at a p c ≡ marks.Free → p ≡ page → c ≡ number → ⊥ =
    λ p c free e d. before (ap (λ (x : ℕ). mark_at a page x) (sym d) ∙ ap (λ (x : ℕ). mark_at a x c) (sym e) ∙ free) in
    KeepsCells-alike a b (record {
      same = sets.same;
      uses = sets.uses;
      rooms = sets.rooms;
      plain = sets.plain;
      free_now = λ p c l free. same p c l (taken_before p c free) ∙ free;
      free_before = λ p c l free. sym (same p c l (taken_now p c free)) ∙ free;
    }) kept
