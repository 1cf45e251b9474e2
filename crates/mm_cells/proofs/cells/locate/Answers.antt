use Rattle.std.proofs.Common.{◌-◌, ◌/◌, ◌%◌, ◌*◌, arith, sym}
use Rattle.mm_cells.specs.Kept.{class_size}
use Rattle.mm_cells.proofs.Region.Covering.{none-past, none-unused, none-free, class-has, whole-has, IsLocated-same}
use Rattle.mm_cells.proofs.Region.Covering.{MatchOption-map}
use Rattle.mm_cells.proofs.cells.locate.Goals as goal

pub returns-then-pages-page : goal.returns-then-pages-page
returns-then-pages-page c = λ base cell covers.
    none-past c.args.table.now c.args.word base cell c.requires (omega arith) covers

pub small_cell-requires-clause-class : goal.small_cell-requires-clause-class
small_cell-requires-clause-class c =
    (c.requires.classes (c.args.word / 4096) c.in-Class.class (sym c.in-Class.ensures)).0

pub overflow_sub-page : goal.overflow_sub-page
overflow_sub-page c =
    (c.requires.laters (c.args.word / 4096) c.in-Later.distance (sym c.in-Later.ensures)).behind

pub cell_from-requires-clause-first : goal.cell_from-requires-clause-first
cell_from-requires-clause-first c =
    let later = c.requires.laters (c.args.word / 4096) c.in-Later.distance (sym c.in-Later.ensures) in
    let whole = c.requires.wholes (c.args.word / 4096 - c.in-Later.distance) later.count later.first in
    (later.count, later.first, omega (arith, whole.within, c.requires.most))

pub returns-in-Unused : goal.returns-in-Unused
returns-in-Unused c = λ base cell covers.
    none-unused c.args.table.now c.args.word base cell c.requires (sym c.in-Unused.ensures) covers

pub whole_cell-requires-clause-taken : goal.whole_cell-requires-clause-taken
whole_cell-requires-clause-taken c =
    (c.requires.wholes (c.args.word / 4096) c.in-First.count (sym c.in-First.ensures)).taken

pub cell_from-requires-clause-taken : goal.cell_from-requires-clause-taken
cell_from-requires-clause-taken c =
    let later = c.requires.laters (c.args.word / 4096) c.in-Later.distance (sym c.in-Later.ensures) in
    (c.requires.wholes (c.args.word / 4096 - c.in-Later.distance) later.count later.first).taken

pub returns-in-Class : goal.returns-in-Class
returns-in-Class c = MatchOption-map c.small_cell.result _ _ _ _
    (λ free base cell covers.
    none-free c.args.table.now c.args.word c.in-Class.class base cell c.requires (sym c.in-Class.ensures) free covers)
    (λ found known. (
      IsLocated-same c.args.table.now c.args.word (c.args.word / 4096) found.index.page
          (c.args.word % 4096 / class_size c.in-Class.class) found.index.number found.cell.base
          (class_size c.in-Class.class) found.cell.extent known.2 known.3 known.1
          (class-has c.args.table.now c.args.word c.in-Class.class found.cell.base c.requires (omega arith)
          (sym c.in-Class.ensures) known.0),
      known.4,
    ))
    c.small_cell.ensures

pub returns-in-First : goal.returns-in-First
returns-in-First c =
    let whole = c.requires.wholes (c.args.word / 4096) c.in-First.count (sym c.in-First.ensures) in (
      IsLocated-same c.args.table.now c.args.word (c.args.word / 4096) c.whole_cell.result.index.page 0
          c.whole_cell.result.index.number c.whole_cell.result.cell.base (4096 * c.in-First.count)
          c.whole_cell.result.cell.extent c.whole_cell.ensures.index.0 c.whole_cell.ensures.index.1
          c.whole_cell.ensures.extent
          (whole-has c.args.table.now c.args.word (c.args.word / 4096) c.in-First.count c.whole_cell.result.cell.base
          c.requires (sym c.in-First.ensures) c.whole_cell.ensures.base (omega arith) (omega (arith, whole.some))),
      c.whole_cell.ensures.told,
    )

pub returns-in-Later : goal.returns-in-Later
returns-in-Later c =
    let later = c.requires.laters (c.args.word / 4096) c.in-Later.distance (sym c.in-Later.ensures) in (
      IsLocated-same c.args.table.now c.args.word (c.args.word / 4096 - c.in-Later.distance)
          c.cell_from.result.index.page 0 c.cell_from.result.index.number c.cell_from.result.cell.base
          (4096 * later.count) c.cell_from.result.cell.extent c.cell_from.ensures.index.0 c.cell_from.ensures.index.1
          (c.cell_from.ensures.extent later.count later.first)
          (whole-has c.args.table.now c.args.word (c.args.word / 4096 - c.in-Later.distance) later.count
          c.cell_from.result.cell.base c.requires later.first c.cell_from.ensures.base (omega arith)
          (omega (arith, later.behind, later.within))),
      c.cell_from.ensures.told,
    )
