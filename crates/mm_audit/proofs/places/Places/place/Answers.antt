-- A size is a class or some pages.
use Rattle.std.proofs.Common.{sym, ap, ◌∙◌}
use Rattle.mm_model.specs.Places.Place.{place_among}
use Rattle.mm_audit.specs.Places.{family_of}
use Rattle.mm_audit.proofs.places.Places.place.Goals as goal

pub returns-in-Pages : goal.returns-in-Pages
returns-in-Pages c pieces tell =
    c.run.ensures pieces (family_of c.args.owner) tell
    ∙ ap (place_among pieces c.args.limit (family_of c.args.owner)) (sym c.in-Pages.is)
