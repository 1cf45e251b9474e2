use Rattle.std.proofs.Common.{◌≡◌, ◌/◌, Some, None, sym, ◌∙◌, subst}
use Rattle.std.specs.Prelude.{IfSome, slice_get}
use Rattle.mm_model.specs.Views.ByBase.{Begins, with_entry}
use Rattle.mm_model.specs.Places.Place.{Objects}
use Rattle.mm_object.specs.Object.{StoredObject, StoredObjects}
use Rattle.mm_weak.specs.Links.{with_weak, newly_weak}
use Rattle.mm_gc.proofs.Regions.SameObjects.{linked-same}
use Rattle.mm_gc.proofs.region.Region.create_weak.Goals as goal

pub returns-clause-place : goal.returns-clause-place
returns-clause-place g c = c.place_weak-made.ensures.place ∙ c.open.ensures.place Objects

pub place_weak-made-requires-clause-linked : goal.place_weak-made-requires-clause-linked
place_weak-made-requires-clause-linked g c =
    linked-same c.args.self.now.heap c.open.new.self.heap c.open.ensures.inside.objects c.requires.linked

pub returns-clause-made : goal.returns-clause-made
returns-clause-made g c =
    let target = c.args.target in
    let colour = c.args.colour in
    subst (λ (after : StoredObjects). IfSome c.place_weak-made.result
    (λ w. (object : StoredObject) → Begins c.args.self.now.heap.objects target object
    → after ≡ with_entry target (Some (with_weak w object))
    (with_entry w (Some (newly_weak target colour)) c.args.self.now.heap.objects)))
    (sym c.settle.ensures.inside.objects)
    (subst (λ (before : StoredObjects). IfSome c.place_weak-made.result
    (λ w. (object : StoredObject) → Begins before target object
    → c.place_weak-made.new.self.heap.objects ≡ with_entry target (Some (with_weak w object))
    (with_entry w (Some (newly_weak target colour)) before)))
    c.open.ensures.inside.objects c.place_weak-made.ensures.made)

pub returns-clause-was_none : goal.returns-clause-was_none
returns-clause-was_none g c =
    subst (λ (before : StoredObjects). IfSome c.place_weak-made.result
    (λ w. slice_get before (w / 16) ≡ Some None)) c.open.ensures.inside.objects c.place_weak-made.ensures.was_none

pub returns-clause-unchanged : goal.returns-clause-unchanged
returns-clause-unchanged g c = λ none.
    c.settle.ensures.inside.objects ∙ c.place_weak-made.ensures.unchanged none ∙ c.open.ensures.inside.objects

pub returns-clause-linked : goal.returns-clause-linked
returns-clause-linked g c =
    linked-same c.place_weak-made.new.self.heap c.settle.new.self.heap c.settle.ensures.inside.objects
    c.place_weak-made.ensures.linked
