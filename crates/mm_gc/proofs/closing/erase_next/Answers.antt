use Rattle.std.proofs.Common.{subst}
use Rattle.mm_cells.specs.Cells.{Cells, NoneTakenFrom}
use Rattle.mm_gc.proofs.Frees.Emptied.{none-below, next-object, passed, parked-still}
use Rattle.mm_gc.proofs.closing.erase_next.Goals as goal

pub returns-in-None-clause-passed : goal.returns-in-None-clause-passed
returns-in-None-clause-passed g c =
    none-below c.args.heap.now c.args.from c.requires.passed
    (subst (λ (v : Cells). NoneTakenFrom v c.args.from) c.cells.ensures.cells c.in-None.ensures.base)

pub erase-requires-clause-object : goal.erase-requires-clause-object
erase-requires-clause-object g c =
    let found = next-object c.args.heap.now c.cells.result.now c.args.from c.in-Some.base c.cells.ensures.cells
    c.in-Some.ensures.base in
    (found.object, found.begins)

pub returns-clause-passed : goal.returns-clause-passed
returns-clause-passed g c =
    let found = next-object c.args.heap.now c.cells.result.now c.args.from c.in-Some.base c.cells.ensures.cells
    c.in-Some.ensures.base in
    passed c.args.heap.now c.erase.new.self c.args.from c.in-Some.base found c.cells.ensures.sound c.requires.passed
    c.erase.ensures.erased

pub returns-clause-parked : goal.returns-clause-parked
returns-clause-parked g c = λ others.
    let found = next-object c.args.heap.now c.cells.result.now c.args.from c.in-Some.base c.cells.ensures.cells
    c.in-Some.ensures.base in
    parked-still c.args.heap.now c.erase.new.self c.args.from c.in-Some.base found c.cells.ensures.sound
    c.args.pages.now c.erase.new.pages others c.erase.ensures.others c.erase.ensures.all_parked c.erase.ensures.fits
