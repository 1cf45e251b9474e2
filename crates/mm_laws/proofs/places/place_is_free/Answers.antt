-- The lemma says it.
use Rattle.mm_model.proofs.Places.Choosing.{place_fits}
use Rattle.mm_laws.proofs.places.place_is_free.Goals as goal

pub returns : goal.returns
returns c = place_fits
