use Rattle.std.proofs.Common.{Bool, sym, subst}
use Rattle.std.specs.Prelude.{MatchBool}
use Rattle.mm_model.specs.declared.object.Colour.TheVariants.{Gray}
use Rattle.mm_mark.specs.Colours.{HasColour, IsNoneGrayAt}
use Rattle.mm_mark.proofs.Reading.{gray-told}
use Rattle.mm_mark.proofs.colours.is_gray_at.Goals as goal

pub returns-in-Some-clause-gray : goal.returns-in-Some-clause-gray
returns-in-Some-clause-gray g c =
    subst (λ (b : Bool). MatchBool b (HasColour c.args.heap.now c.args.base Gray)
    (IsNoneGrayAt c.args.heap.now c.args.base))
    (sym c.is_gray.ensures)
    (gray-told c.args.heap.now c.args.base c.in-Some.colour c.in-Some.ensures.colour)

pub returns-in-None-clause-gray : goal.returns-in-None-clause-gray
returns-in-None-clause-gray g c = λ object begins gray. c.in-None.ensures.colour object begins
