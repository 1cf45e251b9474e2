-- There are 19 classes.
use Rattle.std.proofs.Common.{arith}
use Rattle.mm_audit.proofs.LowestPlaces.{classes}
use Rattle.mm_audit.proofs.tests.the_first_place_is_at_page_1.Goals as goal

pub place-requires-clause-size : goal.place-requires-clause-size
place-requires-clause-size c = omega (arith, classes)

pub place-requires-4-clause-size : goal.place-requires-4-clause-size
place-requires-4-clause-size c = omega (arith, classes)
