use Rattle.std.proofs.Common.{◌≡◌, ◌/◌, Some, None, sym, ◌∙◌, subst}
use Rattle.std.specs.Prelude.{IfSome, slice_get}
use Rattle.mm_model.specs.Views.ByBase.{Begins, with_entry}
use Rattle.mm_model.specs.Places.Place.{Objects}
use Rattle.mm_object.specs.Object.{StoredObjects, newly_stored}
use Rattle.mm_gc.proofs.region.Region.create.Goals as goal

pub returns-clause-place : goal.returns-clause-place
returns-clause-place g c = c.place_object-made.ensures.place ∙ c.open.ensures.place Objects

pub returns-clause-created : goal.returns-clause-created
returns-clause-created g c =
    let made = c.place_object-made.result in
    let object = newly_stored c.args.shape c.args.colour in
    subst (λ (after : StoredObjects). IfSome made
    (λ base. after ≡ with_entry base (Some object) c.args.self.now.heap.objects)) (sym c.settle.ensures.inside.objects)
    (subst (λ (before : StoredObjects). IfSome made
    (λ base. c.place_object-made.new.self.heap.objects ≡ with_entry base (Some object) before))
    c.open.ensures.inside.objects c.place_object-made.ensures.created)

pub returns-clause-begins : goal.returns-clause-begins
returns-clause-begins g c =
    subst (λ (after : StoredObjects). IfSome c.place_object-made.result
    (λ base. Begins after base (newly_stored c.args.shape c.args.colour))) (sym c.settle.ensures.inside.objects)
    c.place_object-made.ensures.begins

pub returns-clause-was_none : goal.returns-clause-was_none
returns-clause-was_none g c =
    subst (λ (before : StoredObjects). IfSome c.place_object-made.result
    (λ base. slice_get before (base / 16) ≡ Some None)) c.open.ensures.inside.objects
    c.place_object-made.ensures.was_none

pub returns-clause-unchanged : goal.returns-clause-unchanged
returns-clause-unchanged g c = λ none.
    c.settle.ensures.inside.objects ∙ c.place_object-made.ensures.unchanged none ∙ c.open.ensures.inside.objects
