-- The table is looked into at the number of units that the bytes take.
use Rattle.std.proofs.Common.{◌≡◌, ◌≤◌, true, ap, sym, subst, arith}
use Rattle.std.proofs.lemmas.Bool.Decides.{nat_tests}
use Rattle.std.specs.Prelude.{nat_le}
use Rattle.mm_model.specs.declared.object.Size.{Size}
use Rattle.mm_model.specs.declared.object.Size.TheVariants.{Small}
use Rattle.mm_model.specs.Places.SizeClass.{extent_of_size}
use Rattle.mm_model.proofs.Places.Choosing.{extent_of-enough}
use Rattle.mm_cells.proofs.Sizes.Classes.{class_by_units, class_by_units-lt}
use Rattle.mm_cells.proofs.class.class_of.Goals as goal

pub returns-then-bytes-le-LARGEST_CELL-clause-value :
    goal.returns-then-bytes-le-LARGEST_CELL-clause-value
returns-then-bytes-le-LARGEST_CELL-clause-value c =
    let small : nat_le c.args.bytes 2048 ≡ true = grind (arith, nat_tests) in
    rw small (ap Small (class_by_units c.args.bytes c.div_ceil.result (omega arith) (omega arith) (omega arith)))

pub returns-then-bytes-le-LARGEST_CELL-clause-size :
    goal.returns-then-bytes-le-LARGEST_CELL-clause-size
returns-then-bytes-le-LARGEST_CELL-clause-size c = class_by_units-lt c.div_ceil.result (omega arith)

pub returns-then-bytes-le-LARGEST_CELL-clause-enough :
    goal.returns-then-bytes-le-LARGEST_CELL-clause-enough
returns-then-bytes-le-LARGEST_CELL-clause-enough c =
    subst (λ (size : Size). c.args.bytes ≤ extent_of_size size)
    (sym (returns-then-bytes-le-LARGEST_CELL-clause-value c)) (extent_of-enough c.args.bytes)
