use Rattle.std.proofs.Common.{arith, refl, ap, subst, ◌∙◌}
use Rattle.std.specs.Option.{option_map}
use Rattle.mm_model.specs.declared.object.Colour.{Colour}
use Rattle.mm_object.specs.Object.{views_of}
use Rattle.mm_mark.specs.Marker.{marking, view_of_partly}
use Rattle.mm_mark.specs.Stale.{HasFewStale, stale_of}
use Rattle.mm_mark.specs.Colours.{HasColour}
use Rattle.mm_mark.proofs.Reading.{seen-coloured}
use Rattle.mm_mark.proofs.Advancing.{advanced-under}
use Rattle.mm_mark.proofs.marker.Marker.scan_next.Goals as goal

pub scan_from-requires-clause-gray : goal.scan_from-requires-clause-gray
scan_from-requires-clause-gray g c =
    let chosen = c.in-Some.ensures.next in
    subst (λ (colour : Colour). HasColour c.args.heap.now c.in-Some.next.base colour) chosen.gray
    (seen-coloured c.args.heap.now c.in-Some.next.base chosen.object chosen.begins)

pub returns-in-Some-clause-part : goal.returns-in-Some-clause-part
returns-in-Some-clause-part g c =
    let chosen = c.in-Some.ensures.next in
    record {
      from = view_of_partly c.in-Some.next;
      base = c.scan_from.ensures.base;
      chosen = chosen;
      slots = c.scan_from.ensures.slots chosen.object chosen.begins;
      advanced = c.scan_from.ensures.advanced chosen.object chosen.begins;
    }

pub returns-in-Some-clause-keeps : goal.returns-in-Some-clause-keeps
returns-in-Some-clause-keeps g c =
    let chosen = c.in-Some.ensures.next in
    record {
      known = c.scan_from.ensures.known;
      partly =
          advanced-under (views_of c.args.heap.now.objects) (view_of_partly c.in-Some.next) chosen.object
          (marking c.scan_from.new.self c.scan_from.new.heap) chosen.begins chosen.gray chosen.fits
          (c.scan_from.ensures.advanced chosen.object chosen.begins);
    }

pub returns-in-None-clause-part : goal.returns-in-None-clause-part
returns-in-None-clause-part g c =
    (c.in-None.ensures.next, refl, c.choose.ensures.partly ∙ ap (option_map view_of_partly) c.in-None.is)

pub returns-in-Some-clause-tidy : goal.returns-in-Some-clause-tidy
returns-in-Some-clause-tidy g c = λ tidy.
    let mid = marking c.choose.new.self c.args.heap.now in
    let chosen : HasFewStale mid (stale_of mid) = record { tidy = c.choose.ensures.tidy tidy; few = omega arith } in
    (c.scan_from.ensures.few (stale_of mid) chosen).tidy

pub returns-in-Some-clause-paid : goal.returns-in-Some-clause-paid
returns-in-Some-clause-paid g c = λ tidy.
    let mid = marking c.choose.new.self c.args.heap.now in
    let chosen : HasFewStale mid (stale_of mid) = record { tidy = c.choose.ensures.tidy tidy; few = omega arith } in
    let few = (c.scan_from.ensures.few (stale_of mid) chosen).few in
    let paid = c.choose.ensures.paid tidy in
    omega (arith, few, paid, c.scan_from.ensures.cost)

pub returns-in-Some-clause-cost : goal.returns-in-Some-clause-cost
returns-in-Some-clause-cost g c =
    record {
      chosen = c.choose.new.self;
      choice = c.choose.new.steps;
      choosing = c.choose.ensures.cost;
      cost = c.scan_from.ensures.cost;
    }

pub returns-in-None-clause-cost : goal.returns-in-None-clause-cost
returns-in-None-clause-cost g c =
    record {
      chosen = c.choose.new.self;
      choice = c.choose.new.steps;
      choosing = c.choose.ensures.cost;
      cost = omega arith;
    }
