use Rattle.std.proofs.Common.{◌≡◌, List, sym, ◌∙◌, subst}
use Rattle.std.specs.Prelude.{IfSome}
use Rattle.mm_model.specs.Places.Place.{Areas}
use Rattle.mm_model.specs.Views.View.{View, AreaView}
use Rattle.mm_model.specs.Views.ViewEffect.{new_area_view, view_area_inserted, view_free_number}
use Rattle.mm_gc.specs.Gc.{areas_in}
use Rattle.mm_gc.proofs.region.Region.create_area.Goals as goal

pub returns-clause-place : goal.returns-clause-place
returns-clause-place g c = c.place_area-made.ensures.place ∙ c.open.ensures.place Areas

pub returns-clause-made : goal.returns-clause-made
returns-clause-made g c =
    let wanted = c.args.wanted in
    subst (λ (after : List AreaView). IfSome c.place_area-made.result (λ area. after ≡ view_area_inserted
    (new_area_view area.number area.base wanted.scanned wanted.counted wanted.cells) (areas_in c.args.self.now)))
    (sym c.settle.ensures.inside.areas)
    (subst (λ (before : List AreaView). IfSome c.place_area-made.result
    (λ area. areas_in c.place_area-made.new.self ≡ view_area_inserted
    (new_area_view area.number area.base wanted.scanned wanted.counted wanted.cells) before))
    c.open.ensures.inside.areas c.place_area-made.ensures.made)

pub returns-clause-number : goal.returns-clause-number
returns-clause-number g c =
    subst (λ (before : List AreaView). IfSome c.place_area-made.result
    (λ area. (view : View) → view.areas ≡ before → area.number ≡ view_free_number view))
    c.open.ensures.inside.areas c.place_area-made.ensures.number

pub returns-clause-unchanged : goal.returns-clause-unchanged
returns-clause-unchanged g c = λ none.
    c.settle.ensures.inside.areas ∙ c.place_area-made.ensures.unchanged none ∙ c.open.ensures.inside.areas
