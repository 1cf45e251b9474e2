-- What is read of one object.
use Rattle.std.proofs.Common.{◌≡◌, ℕ, ap, ◌∙◌}
use Rattle.std.specs.Prelude.{MatchBool}
use Rattle.mm_model.specs.declared.object.Colour.{Colour}
use Rattle.mm_model.specs.declared.object.Colour.TheVariants.{White, Gray, Black}
use Rattle.mm_model.specs.Sets.Marking.{is_gray}
use Rattle.mm_model.specs.Views.ByBase.{Begins}
use Rattle.mm_model.specs.Views.ObjectView.{ObjectView}
use Rattle.mm_object.specs.Object.{views_of}
use Rattle.mm_object.specs.Heap.{Heap}
use Rattle.mm_mark.specs.Colours.{HasColour, IsNoneGrayAt}
use Rattle.mm_mark.proofs.Told.{one_colour, viewed-stored}

pub white_not_gray : ◌≡◌ {A = Colour} White Gray → ⊥
white_not_gray e = cc

pub black_not_gray : ◌≡◌ {A = Colour} Black Gray → ⊥
black_not_gray e = cc

pub black_not_white : ◌≡◌ {A = Colour} Black White → ⊥
black_not_white e = cc

-- whether the colour there is gray
pub gray-told : (h : Heap) (base : ℕ) (colour : Colour) → HasColour h base colour
    → MatchBool (is_gray colour) (HasColour h base Gray) (IsNoneGrayAt h base)
gray-told h base White has = λ object begins gray. white_not_gray (one_colour h base White object has begins ∙ gray)
gray-told h base Gray has = has
gray-told h base Black has = λ object begins gray. black_not_gray (one_colour h base Black object has begins ∙ gray)

-- a colour that is seen there is stored there
pub seen-coloured : (h : Heap) (base : ℕ) (object : ObjectView) → Begins (views_of h.objects) base object
    → HasColour h base object.colour
seen-coloured h base object begins =
    let stored = viewed-stored h.objects base object begins in
    record { object = stored.object; begins = stored.begins; is = ap (λ (v : ObjectView). v.colour) stored.is }
