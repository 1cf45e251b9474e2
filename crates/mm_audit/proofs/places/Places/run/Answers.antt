-- Nothing lies in so many pages exactly where a run of vacant ones begins.
use Rattle.std.proofs.Common.{arith}
use Rattle.mm_audit.proofs.LowestPlaces.{run-place, no-run-place}
use Rattle.mm_audit.proofs.places.Places.run.Goals as goal

pub overflow_mul-result : goal.overflow_mul-result
overflow_mul-result c = let small = c.in-Some.ensures.small in omega arith

pub returns-in-None : goal.returns-in-None
returns-in-None c pieces family tell =
    no-run-place c.args.self.now pieces tell c.args.limit c.args.count c.requires.limit c.requires.some
    c.in-None.ensures.run

pub returns-in-Some : goal.returns-in-Some
returns-in-Some c pieces family tell =
    run-place c.args.self.now pieces tell c.args.limit c.args.count c.requires.limit c.requires.some c.in-Some.page
    c.in-Some.ensures.run
