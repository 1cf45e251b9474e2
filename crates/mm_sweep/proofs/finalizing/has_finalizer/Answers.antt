use Rattle.std.proofs.Common.{◌∙◌}
use Rattle.mm_object.specs.Heap.{cell_of}
use Rattle.mm_sweep.proofs.Finals.{cell-object, flag-told}
use Rattle.mm_sweep.proofs.finalizing.has_finalizer.Goals as goal

pub flags-requires : goal.flags-requires
flags-requires g c =
    let o = c.requires.object in
    (cell_of o.0, cell-object c.args.heap.now c.args.cells.now c.args.base o.0 c.requires.cells o.1)

pub returns-clause-flag : goal.returns-clause-flag
returns-clause-flag g c =
    λ object begins.
    c.contains.ensures tt
    ∙ flag-told c.flags.result object.finalize object.has_weak
    (c.flags.ensures.flags (cell_of object)
    (cell-object c.args.heap.now c.args.cells.now c.args.base object c.requires.cells begins))
