-- Lists of objects that become white.
use Rattle.std.proofs.Common.{◌≡◌, ℕ, Bool, true, false, List, Some, None, refl, sym, ap, ◌∙◌}
use Rattle.std.specs.Prelude.{if◌then◌else◌}
use Rattle.std.specs.Option.{option_and_then}
use Rattle.mm_model.specs.declared.object.Colour.TheVariants.{White}
use Rattle.mm_model.specs.Views.ByBase.{changed}
use Rattle.mm_model.specs.Views.ObjectView.{ObjectView, ObjectsByBase}
use Rattle.mm_model.specs.Views.ViewEffect.{with_colour}
use Rattle.mm_model.specs.Views.ViewPhase.{unless_listed, view_after_release}
use Rattle.mm_model.specs.Phase.{lists}
use Rattle.mm_model.proofs.View.ByBase.ChangedEntries.{changed-changed, one_after, changed-alike}

-- to make all white before or after some are freed comes to one
pub released-whitened : (bases : List ℕ) (objects : ObjectsByBase)
    → changed (view_after_release bases) (changed (with_colour White) objects)
    ≡ changed (with_colour White) (changed (view_after_release bases) objects)
released-whitened bases objects =
    changed-changed (view_after_release bases) (with_colour White) objects
    ∙ changed-alike (one_after (view_after_release bases) (with_colour White))
    (one_after (with_colour White) (view_after_release bases)) objects
    (λ base o _. each base o (lists bases base) refl)
    ∙ sym (changed-changed (with_colour White) (view_after_release bases) objects)
  where
    each : (base : ℕ) (o : ObjectView) (b : Bool) → lists bases base ≡ b
        → option_and_then (view_after_release bases base) (with_colour White base o)
        ≡ option_and_then (with_colour White base) (view_after_release bases base o)
    each base o true e =
        ap (λ b. if b then None else Some (record o { colour = White; partner = unless_listed bases o.partner })) e
        ∙ sym (ap (λ b. option_and_then (with_colour White base)
        (if b then None else Some (record o { partner = unless_listed bases o.partner }))) e)
    each base o false e =
        ap (λ b. if b then None else Some (record o { colour = White; partner = unless_listed bases o.partner })) e
        ∙ sym (ap (λ b. option_and_then (with_colour White base)
        (if b then None else Some (record o { partner = unless_listed bases o.partner }))) e)
