use Rattle.mm_cells.specs.Map.{Map}
use Rattle.std.proofs.Common.{ℕ, arith}
use Rattle.mm_cells.proofs.Region.Released.{first-within, whole-clears, KeepsCells-cleared, cells_of-cleared_pages}
use Rattle.mm_cells.proofs.Region.Released.{AreUnused-cleared}
use Rattle.mm_cells.proofs.Region.PageCells.{unused-none_begins}
use Rattle.mm_cells.proofs.taking.release_pages.Goals as goal

pub clear_whole-requires : goal.clear_whole-requires
clear_whole-requires c =
    (first-within c.args.table.now c.args.first c.requires.used.0 c.requires.kept c.requires.used.1).1

pub returns-clause-gone : goal.returns-clause-gone
returns-clause-gone c =
    let a : Map = c.args.table.now in
    let b : Map = c.clear_whole.new.self in
    let count : ℕ = c.requires.used.0 in
    cells_of-cleared_pages a b c.args.first count c.requires.kept c.requires.used.1
    (whole-clears a b c.args.first count c.requires.kept c.requires.used.1 c.clear_whole.ensures)

pub returns-clause-kept : goal.returns-clause-kept
returns-clause-kept c =
    let a : Map = c.args.table.now in
    let b : Map = c.clear_whole.new.self in
    let count : ℕ = c.requires.used.0 in
    KeepsCells-cleared a b c.args.first count c.requires.kept c.requires.used.1
    (whole-clears a b c.args.first count c.requires.kept c.requires.used.1 c.clear_whole.ensures)

pub returns-clause-goes : goal.returns-clause-goes
returns-clause-goes c = λ base cell begins.
    let a : Map = c.args.table.now in
    let b : Map = c.clear_whole.new.self in
    let count : ℕ = c.requires.used.0 in
    let cleared = whole-clears a b c.args.first count c.requires.kept c.requires.used.1 c.clear_whole.ensures in
    let some = (c.requires.kept.wholes c.args.first count c.requires.used.1).some in
    unused-none_begins b c.args.first base cell (returns-clause-kept c)
    (AreUnused-cleared a b c.args.first count cleared c.args.first (omega arith) (omega arith)) begins
