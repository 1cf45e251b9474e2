-- The size is that of so many bytes.
use Rattle.std.proofs.Common.{sym, ◌∙◌, subst}
use Rattle.mm_model.specs.declared.object.Size.{Size}
use Rattle.mm_cells.specs.Placing.{IsPlaceFor, found_in}
use Rattle.mm_cells.proofs.cells.Cells.place.Goals as goal

pub returns-in-Small-clause-place : goal.returns-in-Small-clause-place
returns-in-Small-clause-place g c =
    subst (λ (size : Size). IsPlaceFor c.args.self.now c.args.pages.now size (found_in c.place_small.result))
    (sym c.in-Small.is ∙ c.class_of.ensures.value) c.place_small.ensures.place
