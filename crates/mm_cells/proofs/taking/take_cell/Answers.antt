use Rattle.std.proofs.Common.{ℕ, ◌+◌, ◌*◌, ◌/◌, ◌<◌, arith, sym, ◌∙◌, ap, subst}
use Rattle.std.proofs.lemmas.Bool.{true_from_ne_false}
use Rattle.mm_cells.specs.declared.marks.Mark.{Mark}
use Rattle.mm_cells.specs.Marks.{IsLowestFree, NoneFree}
use Rattle.mm_cells.specs.Map.{Map, mark_at, room_at}
use Rattle.mm_cells.specs.Cells.{with_cell}
use Rattle.mm_cells.specs.Kept.{class_size, cells_in, taken_as, cells_of}
use Rattle.mm_cells.proofs.Tables.Blocks.{room_at-same}
use Rattle.mm_cells.proofs.Sizes.ClassSizes.{cells_in-most}
use Rattle.mm_cells.proofs.Tables.Placed.{KeepsCells-cell, cells_of-cell}
use Rattle.mm_cells.proofs.Region.Released.{class-within}
use Rattle.mm_cells.proofs.Region.PageCells.{IsLowestRoom-class, IsLowest-lowest, cell-page}
use Rattle.mm_cells.proofs.taking.take_cell.Goals as goal

pub lowest_free-requires-clause-cells : goal.lowest_free-requires-clause-cells
lowest_free-requires-clause-cells c =
    omega (arith, c.cells_per_page-cells.ensures, cells_in-most c.args.class c.requires.class)

pub lowest_free-requires-clause-passed : goal.lowest_free-requires-clause-passed
lowest_free-requires-clause-passed c = λ cell below. absurd (omega arith)

-- a lower cell was taken, and its mark is what it was
pub note_full-requires-clause-passed : goal.note_full-requires-clause-passed
note_full-requires-clause-passed c = λ cell below free.
    let lowest : IsLowestFree (mark_at c.args.table.now c.args.page) c.cells_per_page-cells.result c.in-Some.cell =
    c.in-Some.ensures in
    let small : cell < 256 =
    omega (arith, lowest.within, c.cells_per_page-cells.ensures, cells_in-most c.args.class c.requires.class) in
    lowest.lowest cell below (sym (c.set_mark.ensures.set.other_cells cell small (omega arith)) ∙ free)

-- the page had room
pub note_full-requires-clause-had : goal.note_full-requires-clause-had
note_full-requires-clause-had c =
    room_at-same c.args.table.now c.set_mark.new.self c.args.class c.args.page c.set_mark.ensures.set.same.pages
    c.set_mark.ensures.set.rooms
    ∙ true_from_ne_false (room_at c.args.table.now c.args.class c.args.page) c.requires.lowest.has_room

pub set_mark-requires-clause-cell : goal.set_mark-requires-clause-cell
set_mark-requires-clause-cell c =
    let free : IsLowestFree (mark_at c.args.table.now c.args.page) c.cells_per_page-cells.result c.in-Some.cell =
    c.in-Some.ensures in
    omega (arith, free.within, c.cells_per_page-cells.ensures, cells_in-most c.args.class c.requires.class)

pub returns-clause-lowest : goal.returns-clause-lowest
returns-clause-lowest c =
    let a : Map = c.args.table.now in
    let free : IsLowestFree (mark_at a c.args.page) (cells_in c.args.class) c.in-Some.cell =
    subst (λ (n : ℕ). IsLowestFree (mark_at a c.args.page) n c.in-Some.cell) c.cells_per_page-cells.ensures
    c.in-Some.ensures in
    IsLowest-lowest a c.args.class c.args.page c.in-Some.cell
    (4096 * c.args.page + c.in-Some.cell * c.extent_of.result) c.requires.kept c.requires.class c.requires.lowest free
    (ap (λ (n : ℕ). 4096 * c.args.page + c.in-Some.cell * n) c.extent_of.ensures.value)

pub returns-clause-taken : goal.returns-clause-taken
returns-clause-taken c =
    let a : Map = c.args.table.now in
    let base : ℕ = 4096 * c.args.page + c.in-Some.cell * c.extent_of.result in
    let free : IsLowestFree (mark_at a c.args.page) (cells_in c.args.class) c.in-Some.cell =
    subst (λ (n : ℕ). IsLowestFree (mark_at a c.args.page) n c.in-Some.cell) c.cells_per_page-cells.ensures
    c.in-Some.ensures in
    let used = IsLowestRoom-class a c.args.class c.args.page c.requires.kept c.requires.class c.requires.lowest in
    cells_of-cell a c.set_mark.new.self c.note_full.new.table c.args.page c.args.class c.in-Some.cell base
    c.new_mark.result c.note_full.ensures.0 c.requires.kept c.requires.class used.0 c.requires.lowest.within
    free.within (ap (λ (n : ℕ). 4096 * c.args.page + c.in-Some.cell * n) c.extent_of.ensures.value)
    c.set_mark.ensures.set c.note_full.ensures.1
    ∙ ap (λ (mark : Mark). with_cell (cells_of a) base (taken_as (class_size c.args.class) mark)) c.new_mark.ensures

pub returns-clause-kept : goal.returns-clause-kept
returns-clause-kept c =
    let a : Map = c.args.table.now in
    let free : IsLowestFree (mark_at a c.args.page) (cells_in c.args.class) c.in-Some.cell =
    subst (λ (n : ℕ). IsLowestFree (mark_at a c.args.page) n c.in-Some.cell) c.cells_per_page-cells.ensures
    c.in-Some.ensures in
    let used = IsLowestRoom-class a c.args.class c.args.page c.requires.kept c.requires.class c.requires.lowest in
    let place = class-within a c.args.page c.args.class c.requires.kept used.0 in
    KeepsCells-cell a c.set_mark.new.self c.note_full.new.table c.args.page c.args.class c.in-Some.cell
    c.new_mark.result c.note_full.ensures.0 c.requires.kept c.requires.class used.0 place.1 place.0
    c.set_mark.ensures.set
    (record {
      cell = c.in-Some.cell;
      within = free.within;
      taken = λ is. absurd (let e = sym c.new_mark.ensures ∙ sym c.set_mark.ensures.set.here ∙ is in cc);
    }) c.note_full.ensures.1 c.note_full.ensures.2

pub returns-clause-here : goal.returns-clause-here
returns-clause-here c =
    let free : IsLowestFree (mark_at c.args.table.now c.args.page) (cells_in c.args.class) c.in-Some.cell =
    subst (λ (n : ℕ). IsLowestFree (mark_at c.args.table.now c.args.page) n c.in-Some.cell)
    c.cells_per_page-cells.ensures c.in-Some.ensures in
    ap (λ (n : ℕ). (4096 * c.args.page + c.in-Some.cell * n) / 4096) c.extent_of.ensures.value
    ∙ cell-page c.args.page c.in-Some.cell c.args.class c.requires.class free.within

pub returns-clause-used : goal.returns-clause-used
returns-clause-used c =
    (IsLowestRoom-class c.args.table.now c.args.class c.args.page c.requires.kept c.requires.class c.requires.lowest).0

-- the page has a free cell
pub unreachable-requires : goal.unreachable-requires
unreachable-requires c =
    let found = IsLowestRoom-class c.args.table.now c.args.class c.args.page c.requires.kept c.requires.class
    c.requires.lowest in
    let none : NoneFree (mark_at c.args.table.now c.args.page) c.cells_per_page-cells.result = c.in-None.ensures in
    none found.1.cell (omega (arith, found.1.within, c.cells_per_page-cells.ensures)) found.1.free
