-- There is a class for each cell.
use Rattle.std.proofs.Common.{◌<◌, length, sym, subst}
use Rattle.mm_model.specs.Places.SizeClass.{class_sizes}
use Rattle.mm_model.proofs.Places.SizeClasses.{class_index-below}
use Rattle.mm_audit.proofs.size.size_of.Goals as goal

pub returns-then-bytes-le-LARGEST_CELL-clause-known : goal.returns-then-bytes-le-LARGEST_CELL-clause-known
returns-then-bytes-le-LARGEST_CELL-clause-known c =
    subst (λ class. class < length class_sizes) (sym c.class_for.ensures)
    (class_index-below c.args.bytes c.if-bytes-le-LARGEST_CELL.true)
