use Rattle.std.proofs.Common.{◌*◌, sym, ◌∙◌, ap}
use Rattle.mm_cells.specs.declared.marks.Mark.{Mark}
use Rattle.mm_cells.specs.Map.{Map}
use Rattle.mm_cells.specs.Cells.{with_cell, with_run}
use Rattle.mm_cells.specs.Kept.{class_size, taken_as, cells_of}
use Rattle.mm_cells.proofs.Tables.Placed.{FillsPage, FillsPage-steps, KeepsCells-fresh, cells_of-fresh_page}
use Rattle.mm_cells.proofs.taking.take_fresh_page.Goals as goal

pub returns-clause-taken : goal.returns-clause-taken
returns-clause-taken c =
    let a : Map = c.args.table.now in
    let fills : FillsPage a c.set_room.new.self c.args.page c.args.class c.new_mark.result =
    FillsPage-steps a c.free_page.new.self c.set_use.new.self c.set_mark.new.self c.set_room.new.self c.args.page
    c.args.class c.new_mark.result c.requires.within c.free_page.ensures c.set_use.ensures c.set_mark.ensures.set
    c.set_room.ensures in
    cells_of-fresh_page a c.set_room.new.self c.args.page c.args.class c.new_mark.result c.requires.kept
    c.requires.class c.requires.within c.requires.unused fills
    ∙ ap (λ (mark : Mark). with_run
    (with_cell (cells_of a) (4096 * c.args.page) (taken_as (class_size c.args.class) mark))
    c.args.page 1)
    c.new_mark.ensures

pub returns-clause-kept : goal.returns-clause-kept
returns-clause-kept c =
    let a : Map = c.args.table.now in
    KeepsCells-fresh a c.set_room.new.self c.args.page c.args.class c.new_mark.result c.requires.kept c.requires.class
    c.requires.off_zero c.requires.within c.requires.unused
    (λ free. absurd (let e = sym c.new_mark.ensures ∙ free in cc))
    (FillsPage-steps a c.free_page.new.self c.set_use.new.self c.set_mark.new.self c.set_room.new.self c.args.page
    c.args.class c.new_mark.result c.requires.within c.free_page.ensures c.set_use.ensures c.set_mark.ensures.set
    c.set_room.ensures)
