-- There are 38 rows.
use Rattle.std.proofs.Common.{◌+◌, ◌*◌, ◌^◌, ◌<◌, ◌≤◌, length, subst, arith}
use Rattle.mm_audit.specs.Places.{PlaceMarks}
use Rattle.mm_audit.proofs.LowestPlaces.{classes, row-inside, row-within, row-small}
use Rattle.mm_audit.proofs.places.Places.row.Goals as goal

pub overflow_mul-result : goal.overflow_mul-result
overflow_mul-result c = omega (arith, c.requires.class, classes)

pub overflow_mul-result-in-Object : goal.overflow_mul-result-in-Object
overflow_mul-result-in-Object c =
    let most = c.self.invariant.most in
    omega (arith, row-inside c.self.inside.pages (2 * c.args.class) (omega (arith, c.requires.class, classes)))

pub overflow_mul-result-in-Area : goal.overflow_mul-result-in-Area
overflow_mul-result-in-Area c = omega (arith, c.requires.class, classes)

pub overflow_add-result : goal.overflow_add-result
overflow_add-result c = omega (arith, c.requires.class, classes)

pub overflow_mul-result-in-Area-2 : goal.overflow_mul-result-in-Area-2
overflow_mul-result-in-Area-2 c =
    let most = c.self.invariant.most in
    omega (
      arith,
      row-inside c.self.inside.pages (2 * c.args.class + 1)
          (omega (arith, c.requires.class, classes)),
    )

pub returns-in-Object-clause-inside : goal.returns-in-Object-clause-inside
returns-in-Object-clause-inside c =
    subst (λ (v : PlaceMarks). c.self.inside.pages * (2 * c.args.class) + v.pages ≤ length v.roomy) c.self.view_is
    (row-within _ c.self.inside.occupied c.self.invariant (2 * c.args.class) (omega (arith, c.requires.class, classes)))

pub returns-in-Object-clause-small : goal.returns-in-Object-clause-small
returns-in-Object-clause-small c =
    subst (λ (v : PlaceMarks). c.self.inside.pages * (2 * c.args.class) + v.pages < 2 ^ 32) c.self.view_is
    (row-small _ c.self.inside.occupied c.self.invariant (2 * c.args.class) (omega (arith, c.requires.class, classes)))

pub returns-in-Area-clause-inside : goal.returns-in-Area-clause-inside
returns-in-Area-clause-inside c =
    subst (λ (v : PlaceMarks). c.self.inside.pages * (2 * c.args.class + 1) + v.pages ≤ length v.roomy) c.self.view_is
    (row-within _ c.self.inside.occupied c.self.invariant (2 * c.args.class + 1)
    (omega (arith, c.requires.class, classes)))

pub returns-in-Area-clause-small : goal.returns-in-Area-clause-small
returns-in-Area-clause-small c =
    subst (λ (v : PlaceMarks). c.self.inside.pages * (2 * c.args.class + 1) + v.pages < 2 ^ 32) c.self.view_is
    (row-small _ c.self.inside.occupied c.self.invariant (2 * c.args.class + 1)
    (omega (arith, c.requires.class, classes)))
