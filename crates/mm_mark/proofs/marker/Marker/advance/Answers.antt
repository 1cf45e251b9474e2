use Rattle.std.proofs.Common.{◌≡◌, Some, None, ap, sym, subst, ◌∙◌, refl}
use Rattle.mm_model.specs.declared.object.Colour.TheVariants.{Black}
use Rattle.mm_model.specs.Views.ObjectView.{ObjectsByBase}
use Rattle.mm_object.specs.Object.{view_of_stored, views_of}
use Rattle.std.specs.Prelude.{IfSome, Option}
use Rattle.mm_model.specs.Views.View.{PartlyScannedView}
use Rattle.mm_object.specs.Heap.{Heap}
use Rattle.mm_mark.specs.Marker.{Marker, AreKnown, marker_of, view_of_partly}
use Rattle.mm_mark.specs.Colours.{IsSameButColours}
use Rattle.mm_mark.specs.Parts.{IsEnded}
use Rattle.mm_mark.proofs.Told.{stored-viewed}
use Rattle.mm_mark.proofs.Advancing.{recoloured-seen, recoloured-rest, known-blackened, known-partly}
use Rattle.mm_mark.proofs.Tidied.{ended-few}
use Rattle.mm_mark.proofs.marker.Marker.advance.Goals as goal

pub returns-then-to-count-clause-ended : goal.returns-then-to-count-clause-ended
returns-then-to-count-clause-ended g c =
    let object = c.requires.object.0 in
    let begins = c.requires.object.1 in
    IsEnded.Is_black (view_of_stored object) (stored-viewed c.args.heap.now.objects c.args.to.base object begins)
    c.if-to-count.true
    (ap (λ (h : Heap). views_of h.objects) (c.set_colour.ensures.colour object begins)
    ∙ recoloured-seen c.args.heap.now c.args.to.base object Black begins) refl

pub returns-then-to-count-clause-rest : goal.returns-then-to-count-clause-rest
returns-then-to-count-clause-rest g c =
    let object = c.requires.object.0 in
    let begins = c.requires.object.1 in
    subst (λ (h : Heap). IsSameButColours c.args.heap.now h) (sym (c.set_colour.ensures.colour object begins))
    (recoloured-rest c.args.heap.now c.args.to.base object Black begins)

pub returns-then-to-count-clause-known : goal.returns-then-to-count-clause-known
returns-then-to-count-clause-known g c =
    let object = c.requires.object.0 in
    let begins = c.requires.object.1 in
    let own : IfSome c.args.self.now.partly (λ p. p.base ≡ c.args.to.base) =
    subst (λ (o : Option PartlyScannedView). IfSome o (λ p. p.base ≡ c.args.to.base)) (sym c.requires.own.is) refl in
    let now : Marker = marker_of c.self.inside.queue c.self.inside.left_out c.self.inside.running None in
    subst (λ (os : ObjectsByBase). AreKnown now os)
    (sym (ap (λ (h : Heap). views_of h.objects) (c.set_colour.ensures.colour object begins)
    ∙ recoloured-seen c.args.heap.now c.args.to.base object Black begins))
    (known-blackened c.args.self.now now (views_of c.args.heap.now.objects) c.args.to.base (view_of_stored object)
    (stored-viewed c.args.heap.now.objects c.args.to.base object begins)
    (ap (λ (m : Marker). m.queue) c.self.view_is) (ap (λ (m : Marker). m.left_out) c.self.view_is) own
    c.requires.known)

pub returns-else-to-count-clause-known : goal.returns-else-to-count-clause-known
returns-else-to-count-clause-known g c =
    let own : IfSome c.args.self.now.partly (λ p. p.base ≡ c.args.to.base) =
    subst (λ (o : Option PartlyScannedView). IfSome o (λ p. p.base ≡ c.args.to.base)) (sym c.requires.own.is) refl in
    let now : Marker = marker_of c.self.inside.queue c.self.inside.left_out c.self.inside.running (Some c.args.to) in
    known-partly c.args.self.now now (views_of c.args.heap.now.objects) (view_of_partly c.args.to)
    (ap (λ (m : Marker). m.queue) c.self.view_is) (ap (λ (m : Marker). m.left_out) c.self.view_is) refl own
    c.requires.known

pub returns-then-to-count-clause-few : goal.returns-then-to-count-clause-few
returns-then-to-count-clause-few g c =
    let object = c.requires.object.0 in
    let begins = c.requires.object.1 in
    let now : Marker = marker_of c.self.inside.queue c.self.inside.left_out c.self.inside.running None in
    ended-few c.args.self.now now (views_of c.args.heap.now.objects) (views_of c.set_colour.new.self.objects)
    c.args.to.base
    c.requires.own.done c.args.to.slots_done c.args.count c.requires.own.is
    (ap (λ (m : Marker). record m { partly = None }) c.self.view_is)
    (IsEnded.Is_black (view_of_stored object) (stored-viewed c.args.heap.now.objects c.args.to.base object begins)
    c.if-to-count.true
    (ap (λ (h : Heap). views_of h.objects) (c.set_colour.ensures.colour object begins)
    ∙ recoloured-seen c.args.heap.now c.args.to.base object Black begins) refl)

pub returns-else-to-count-clause-few : goal.returns-else-to-count-clause-few
returns-else-to-count-clause-few g c =
    let now : Marker = marker_of c.self.inside.queue c.self.inside.left_out c.self.inside.running (Some c.args.to) in
    ended-few c.args.self.now now (views_of c.args.heap.now.objects) (views_of c.args.heap.now.objects) c.args.to.base
    c.requires.own.done c.args.to.slots_done c.args.count c.requires.own.is
    (ap (λ (m : Marker). record m { partly = Some (view_of_partly c.args.to) }) c.self.view_is)
    (IsEnded.Is_under_scan c.if-to-count.false refl refl)
