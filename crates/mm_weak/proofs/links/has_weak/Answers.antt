use Rattle.std.proofs.Common.{◌∙◌}
use Rattle.mm_weak.proofs.Flags.{flags-object, taken-object, contains-told}
use Rattle.mm_weak.proofs.links.has_weak.Goals as goal

pub flags-requires : goal.flags-requires
flags-requires g c =
    taken-object c.args.heap.now c.cells.result.now c.args.base c.requires.0 c.cells.ensures.cells c.requires.1

pub returns-clause-flag : goal.returns-clause-flag
returns-clause-flag g c =
    λ object begins.
    c.contains.ensures tt
    ∙ contains-told c.flags.result object.finalize object.has_weak
    (flags-object c.args.heap.now c.cells.result.now c.args.base object c.flags.result c.cells.ensures.cells begins
    c.flags.ensures.flags)
