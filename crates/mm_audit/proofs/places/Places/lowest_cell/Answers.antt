-- The next free cell that is marked is the lowest one of the page.
use Rattle.std.proofs.Common.{◌*◌, subst}
use Rattle.std.specs.Prelude.{slice_index}
use Rattle.mm_model.specs.Places.SizeClass.{class_sizes}
use Rattle.mm_audit.specs.Bits.{NoneFrom, IsNext}
use Rattle.mm_audit.specs.Places.{PlaceMarks}
use Rattle.mm_audit.proofs.LowestPlaces.{class_known, next-cell, no-cell}
use Rattle.mm_audit.proofs.places.Places.lowest_cell.Goals as goal

pub returns-in-None : goal.returns-in-None
returns-in-None c pieces family class tell below has =
    no-cell c.args.self.now pieces tell family (slice_index class_sizes class) c.args.page (class_known class below) has
    (subst (λ (v : PlaceMarks). NoneFrom v.free (256 * c.args.page)) c.self.view_is c.in-None.ensures)

pub returns-in-Some : goal.returns-in-Some
returns-in-Some c pieces family class tell below has =
    next-cell c.args.self.now pieces tell family (slice_index class_sizes class) c.args.page (class_known class below)
    has c.in-Some.grain
    (subst (λ (v : PlaceMarks). IsNext v.free (256 * c.args.page) c.in-Some.grain) c.self.view_is c.in-Some.ensures)
