-- The lemmas say it.
use Rattle.mm_model.proofs.Places.Choosing.{extent_of-enough}
use Rattle.mm_model.proofs.Places.LeastClass.{class-least, pages-least}
use Rattle.mm_laws.proofs.places.extents_are_least.Goals as goal

pub returns : goal.returns
returns c = record { enough = extent_of-enough; cell = class-least; pages = pages-least }
