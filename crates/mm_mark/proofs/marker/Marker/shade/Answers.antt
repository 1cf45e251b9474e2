use Rattle.std.proofs.Common.{[], ◌∷◌, sym, subst}
use Rattle.mm_object.specs.Object.{views_of}
use Rattle.mm_object.specs.Heap.{Heap}
use Rattle.mm_mark.specs.Marker.{AreKnown}
use Rattle.mm_mark.specs.Colours.{IsGrayed}
use Rattle.mm_mark.proofs.Shaded.{none-grayed, shaded-grayed, shaded-known}
use Rattle.mm_mark.specs.Stale.{HasFewStale}
use Rattle.mm_mark.specs.Marker.{marking}
use Rattle.mm_mark.proofs.Tidied.{shaded-few}
use Rattle.mm_mark.proofs.marker.Marker.shade.Goals as goal

pub returns-in-Some-clause-grayed : goal.returns-in-Some-clause-grayed
returns-in-Some-clause-grayed g c =
    shaded-grayed c.args.heap.now c.shade.new.self c.args.word c.in-Some.base c.in-Some.ensures.shaded
    c.shade.ensures.sound

pub returns-in-Some-clause-known : goal.returns-in-Some-clause-known
returns-in-Some-clause-known g c =
    shaded-known c.args.heap.now c.shade.new.self c.args.word c.in-Some.base c.in-Some.ensures.shaded
    c.args.self.now c.note.new.self c.note.ensures c.requires

pub returns-in_default-clause-grayed : goal.returns-in_default-clause-grayed
returns-in_default-clause-grayed g c =
    subst (λ (h : Heap). IsGrayed c.args.heap.now h (c.args.word ∷ [])) (sym c.in_default.ensures.shaded.1)
    (none-grayed c.args.heap.now c.args.word c.in_default.ensures.shaded.0)

pub returns-in_default-clause-known : goal.returns-in_default-clause-known
returns-in_default-clause-known g c =
    subst (λ (h : Heap). AreKnown c.args.self.now (views_of h.objects)) (sym c.in_default.ensures.shaded.1) c.requires

pub returns-in-Some-clause-few : goal.returns-in-Some-clause-few
returns-in-Some-clause-few g c =
    shaded-few c.args.heap.now c.shade.new.self c.args.word c.in-Some.base c.in-Some.ensures.shaded
    c.shade.ensures.sound
    c.args.self.now c.note.new.self c.note.ensures

pub returns-in_default-clause-few : goal.returns-in_default-clause-few
returns-in_default-clause-few g c = λ stale h.
    subst (λ (heap : Heap). HasFewStale (marking c.args.self.now heap) stale) (sym c.in_default.ensures.shaded.1) h
