-- The lemmas say it.
use Rattle.mm_model.proofs.Places.Choosing.{pages_go_lowest, cells_go_lowest}
use Rattle.mm_laws.proofs.places.place_is_lowest.Goals as goal

pub returns : goal.returns
returns c = record { pages = pages_go_lowest; cell = cells_go_lowest }
