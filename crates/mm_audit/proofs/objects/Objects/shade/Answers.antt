-- The object in which the word falls is found, if there is one, and no other is.
use Rattle.std.proofs.Common.{◌≡◌, false, ⊎_elim, sym, ap, ◌∙◌}
use Rattle.mm_model.specs.declared.object.Colour.TheVariants.{Gray, Black}
use Rattle.mm_model.specs.Sets.Marking.{is_white}
use Rattle.mm_audit.specs.declared.header.Header.{Header}
use Rattle.mm_audit.proofs.Shades.{unresolved-grayed, coloured-grayed, white-grayed}
use Rattle.mm_audit.proofs.Resolving.{told-found}
use Rattle.mm_audit.proofs.objects.Objects.shade.Goals as goal

pub returns-in_default-clause-shaded : goal.returns-in_default-clause-shaded
returns-in_default-clause-shaded c =
    sym (unresolved-grayed c.args.self.now c.args.word c.in_default.ensures.found c.in_default.ensures.alone)

pub colour-requires : goal.colour-requires
colour-requires c =
    let told = told-found c.args.self.now c.args.word c.in-Some.found c.in-Some.ensures.found in
    record { object = record { object = told.object; begins = told.begins } }

pub returns-in-White-clause-shaded : goal.returns-in-White-clause-shaded
returns-in-White-clause-shaded c =
    let told = told-found c.args.self.now c.args.word c.in-Some.found c.in-Some.ensures.found in
    c.colour.ensures.coloured told.object told.begins
    ∙ sym
    (white-grayed c.args.self.now c.args.word c.in-Some.found told c.in-Some.ensures.alone
    (ap is_white (ap (λ (h : Header). h.colour) told.header_is ∙ c.in-White.is)))

pub returns-in-Gray-clause-shaded : goal.returns-in-Gray-clause-shaded
returns-in-Gray-clause-shaded c =
    let told = told-found c.args.self.now c.args.word c.in-Some.found c.in-Some.ensures.found in
    let colour = c.in-Some.found.header.colour in
    let same = ap (λ (h : Header). is_white h.colour) told.header_is in
    let other : is_white colour ≡ false =
    ⊎_elim (λ (e : colour ≡ Gray). ap is_white e) (λ (e : colour ≡ Black). ap is_white e) c.in-Gray.is in
    sym
    (coloured-grayed c.args.self.now c.args.word c.in-Some.found told c.in-Some.ensures.alone (same ∙ other))
