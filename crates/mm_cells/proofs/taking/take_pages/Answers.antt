use Rattle.std.proofs.Common.{◌*◌, sym, ◌∙◌, ap}
use Rattle.mm_cells.specs.declared.marks.Mark.{Mark}
use Rattle.mm_cells.specs.Map.{Map}
use Rattle.mm_cells.specs.Cells.{with_cell, with_run}
use Rattle.mm_cells.specs.Kept.{taken_as, cells_of}
use Rattle.mm_cells.proofs.Tables.Placed.{KeepsCells-pages, cells_of-pages}
use Rattle.mm_cells.proofs.taking.take_pages.Goals as goal

pub returns-clause-taken : goal.returns-clause-taken
returns-clause-taken c =
    let a : Map = c.args.table.now in
    cells_of-pages a c.set_whole.new.self c.set_mark.new.self c.args.first c.args.count c.new_mark.result
    c.requires.kept c.requires.some c.requires.within c.requires.unused c.set_whole.ensures c.set_mark.ensures.set
    ∙ ap (λ (mark : Mark). with_run (with_cell (cells_of a) (4096 * c.args.first) (taken_as (4096 * c.args.count) mark))
    c.args.first c.args.count)
    c.new_mark.ensures

pub returns-clause-kept : goal.returns-clause-kept
returns-clause-kept c =
    KeepsCells-pages c.args.table.now c.set_whole.new.self c.set_mark.new.self c.args.first c.args.count
    c.new_mark.result c.requires.kept c.requires.some c.requires.off_zero c.requires.within c.requires.unused
    (λ free. absurd (let e = sym c.new_mark.ensures ∙ free in cc)) c.set_whole.ensures c.set_mark.ensures.set
