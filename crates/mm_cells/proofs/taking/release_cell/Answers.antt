use Rattle.std.proofs.Common.{ℕ, ◌+◌, ◌*◌, ◌/◌, true, arith, ◌∙◌, subst}
use Rattle.mm_cells.specs.declared.marks.Mark.TheVariants as marks
use Rattle.mm_cells.specs.Map.{Map, SetsMark}
use Rattle.mm_cells.specs.Kept.{class_size, HasTaken}
use Rattle.mm_cells.proofs.Sizes.ClassSizes.{cells_in-most}
use Rattle.mm_cells.proofs.Tables.Blocks.{use_at-same, room_at-same}
use Rattle.mm_cells.proofs.Tables.Placed.{cells_of-cell}
use Rattle.mm_cells.proofs.Region.Released.{IsNumberOf, IsTaken-number, class-within, KeepsCells-stays, KeepsCells-goes}
use Rattle.mm_cells.proofs.Region.Released.{cells_of-goes, use_at-goes}
use Rattle.mm_cells.proofs.Region.PageCells.{class-IsPageOf, unused-none_begins}
use Rattle.mm_cells.proofs.taking.release_cell.Goals as goal

pub number_at-requires-clause-class : goal.number_at-requires-clause-class
number_at-requires-clause-class c = (c.requires.kept.classes c.args.page c.args.class c.requires.used).0

pub cells_per_page-requires : goal.cells_per_page-requires
cells_per_page-requires c = (c.requires.kept.classes c.args.page c.args.class c.requires.used).0

pub note_room-requires-clause-class : goal.note_room-requires-clause-class
note_room-requires-clause-class c = (c.requires.kept.classes c.args.page c.args.class c.requires.used).0

pub set_room-requires-clause-class : goal.set_room-requires-clause-class
set_room-requires-clause-class c = (c.requires.kept.classes c.args.page c.args.class c.requires.used).0

pub has_taken-requires-clause-class : goal.has_taken-requires-clause-class
has_taken-requires-clause-class c = (c.requires.kept.classes c.args.page c.args.class c.requires.used).0

pub free_cell-beside-requires-clause-cell : goal.free_cell-beside-requires-clause-cell
free_cell-beside-requires-clause-cell c =
    let number : IsNumberOf c.args.class c.args.offset (c.args.offset / class_size c.args.class) =
    IsTaken-number c.args.table.now c.args.page c.args.class c.args.offset c.requires.kept c.requires.used
    c.requires.inside c.requires.taken in
    omega (arith, number.within, c.number_at.ensures, c.cells_per_page.ensures)

pub free_cell-beside-requires-clause-cells : goal.free_cell-beside-requires-clause-cells
free_cell-beside-requires-clause-cells c =
    let known = (c.requires.kept.classes c.args.page c.args.class c.requires.used).0 in
    omega (arith, c.cells_per_page.ensures, cells_in-most c.args.class known)

-- a free cell beside it was room
pub note_room-requires-clause-known : goal.note_room-requires-clause-known
note_room-requires-clause-known c = λ known.
    let a : Map = c.args.table.now in
    let has = c.free_cell-beside.ensures.had_free.0 known in
    let class = (c.requires.kept.classes c.args.page c.args.class c.requires.used).0 in
    let place = class-within a c.args.page c.args.class c.requires.kept c.requires.used in
    room_at-same a c.free_cell-beside.new.self c.args.class c.args.page c.free_cell-beside.ensures.free.same.pages
    c.free_cell-beside.ensures.free.rooms
    ∙ (c.requires.kept.rooms c.args.class c.args.page class place.1).1 (
      c.requires.used,
      record { cell = has.0; within = omega (arith, has.2, c.cells_per_page.ensures); free = has.3 },
    )

pub returns-then-has_taken-clause-stays : goal.returns-then-has_taken-clause-stays
returns-then-has_taken-clause-stays c = λ stays.
    let a : Map = c.args.table.now in
    let b : Map = c.free_cell-beside.new.self in
    let known = (c.requires.kept.classes c.args.page c.args.class c.requires.used).0 in
    let number : IsNumberOf c.args.class c.args.offset (c.args.offset / class_size c.args.class) =
    IsTaken-number a c.args.page c.args.class c.args.offset c.requires.kept c.requires.used
    c.requires.inside c.requires.taken in
    let place = class-within a c.args.page c.args.class c.requires.kept c.requires.used in
    let marked : SetsMark a b c.args.page (c.args.offset / class_size c.args.class) marks.Free =
    subst (λ (n : ℕ). SetsMark a b c.args.page n marks.Free) c.number_at.ensures
    c.free_cell-beside.ensures.free in
    cells_of-cell a b c.note_room.new.table c.args.page c.args.class (c.args.offset / class_size c.args.class)
    (4096 * c.args.page + c.args.offset) marks.Free true c.requires.kept known c.requires.used place.1 number.within
    (omega (arith, number.at)) marked c.note_room.ensures

pub returns-then-has_taken-clause-kept : goal.returns-then-has_taken-clause-kept
returns-then-has_taken-clause-kept c =
    let a : Map = c.args.table.now in
    let b : Map = c.free_cell-beside.new.self in
    let number : IsNumberOf c.args.class c.args.offset (c.args.offset / class_size c.args.class) =
    IsTaken-number a c.args.page c.args.class c.args.offset c.requires.kept c.requires.used
    c.requires.inside c.requires.taken in
    let marked : SetsMark a b c.args.page (c.args.offset / class_size c.args.class) marks.Free =
    subst (λ (n : ℕ). SetsMark a b c.args.page n marks.Free) c.number_at.ensures
    c.free_cell-beside.ensures.free in
    KeepsCells-stays a b c.note_room.new.table c.args.page c.args.class (c.args.offset / class_size c.args.class)
    c.requires.kept c.requires.used number.within marked (c.has_taken.ensures.0 c.if-has_taken.true)
    c.note_room.ensures

pub returns-then-has_taken-clause-another : goal.returns-then-has_taken-clause-another
returns-then-has_taken-clause-another c = λ stays.
    let p = class-IsPageOf c.note_room.new.table c.args.page c.args.class (returns-then-has_taken-clause-kept c)
    (use_at-same c.free_cell-beside.new.self c.note_room.new.table c.args.page c.note_room.ensures.uses
    ∙ use_at-same c.args.table.now c.free_cell-beside.new.self c.args.page c.free_cell-beside.ensures.free.uses
    ∙ c.requires.used) in
    (p.base, p.cell, p.begins, p.inside)

pub returns-else-has_taken-clause-goes : goal.returns-else-has_taken-clause-goes
returns-else-has_taken-clause-goes c = λ goes.
    let a : Map = c.args.table.now in
    let b : Map = c.free_cell-beside.new.self in
    let number : IsNumberOf c.args.class c.args.offset (c.args.offset / class_size c.args.class) =
    IsTaken-number a c.args.page c.args.class c.args.offset c.requires.kept c.requires.used
    c.requires.inside c.requires.taken in
    let marked : SetsMark a b c.args.page (c.args.offset / class_size c.args.class) marks.Free =
    subst (λ (n : ℕ). SetsMark a b c.args.page n marks.Free) c.number_at.ensures
    c.free_cell-beside.ensures.free in
    let none : HasTaken b c.args.page c.args.class → ⊥ =
    λ has. let taken = c.has_taken.ensures.1 has in cc in
    cells_of-goes a b c.set_use.new.self c.set_room.new.self c.args.page c.args.class
    (c.args.offset / class_size c.args.class) (4096 * c.args.page + c.args.offset) c.requires.kept c.requires.used
    number.within (omega (arith, number.at)) marked none c.set_use.ensures c.set_room.ensures

pub returns-else-has_taken-clause-kept : goal.returns-else-has_taken-clause-kept
returns-else-has_taken-clause-kept c =
    KeepsCells-goes c.args.table.now c.free_cell-beside.new.self c.set_use.new.self c.set_room.new.self c.args.page
    c.args.class c.number_at.result c.requires.kept c.requires.used c.free_cell-beside.ensures.free
    c.set_use.ensures c.set_room.ensures

pub returns-else-has_taken-clause-none : goal.returns-else-has_taken-clause-none
returns-else-has_taken-clause-none c = λ goes base cell begins.
    unused-none_begins c.set_room.new.self c.args.page base cell (returns-else-has_taken-clause-kept c)
    (use_at-goes c.free_cell-beside.new.self c.set_use.new.self c.set_room.new.self c.args.page c.args.class
    c.set_use.ensures c.set_room.ensures) begins
