use Rattle.std.proofs.Common.{◌<◌, Bool, length, sym, ap, subst, ◌∙◌, arith}
use Rattle.std.specs.Prelude.{MatchBool}
use Rattle.std.proofs.lemmas.List.{length-drop}
use Rattle.mm_model.specs.declared.object.Colour.TheVariants.{Gray}
use Rattle.mm_object.specs.Object.{view_of_stored, views_of}
use Rattle.mm_mark.specs.Marker.{Marker, IsSameButQueue, marking}
use Rattle.mm_mark.specs.Colours.{HasColour, IsNoneGrayAt}
use Rattle.mm_mark.specs.Stale.{IsTidy}
use Rattle.mm_mark.proofs.Told.{stored-viewed}
use Rattle.mm_mark.proofs.Reading.{seen-coloured}
use Rattle.mm_mark.proofs.Tidy.{dropped-tidy, dropped-stale, taken-tidy, taken-stale}
use Rattle.mm_mark.proofs.Grayed.{queue-then}
use Rattle.mm_mark.proofs.Chosen.{entry-taken, entry-dropped}
use Rattle.mm_mark.proofs.marker.Marker.next_queued.Goals as goal

pub returns-then-is_gray_at-clause-base : goal.returns-then-is_gray_at-clause-base
returns-then-is_gray_at-clause-base g c =
    let seen = ap (λ (m : Marker). length m.queue) c.self.view_is in
    let some : 0 < length c.entries.self.queue = omega (arith, c.depth.ensures.value, c.entries-test.true) in
    entry-taken c.entries.self c.take-base.new.self c.take-base.result some c.take-base.ensures.entry
    c.take-base.ensures.rest c.args.heap.now
    (subst (λ (b : Bool). MatchBool b (HasColour c.args.heap.now c.take-base.result Gray)
    (IsNoneGrayAt c.args.heap.now c.take-base.result))
    c.if-is_gray_at.true c.is_gray_at.ensures.gray)
    c.entries.invariant.known

pub entries-preserved : goal.entries-preserved
entries-preserved g c =
    let seen = ap (λ (m : Marker). length m.queue) c.self.view_is in
    let some : 0 < length c.entries.self.queue = omega (arith, c.depth.ensures.value, c.entries-test.true) in
    let step : IsSameButQueue c.entries.self c.take-base.new.self =
    c.take-base.ensures.rest
    ∙ sym (ap (λ (m : Marker). record c.entries.self { queue = m.queue; left_out = m.left_out })
    c.take-base.ensures.rest) in
    let shorter = ap (λ (m : Marker). length m.queue) c.take-base.ensures.rest ∙ length-drop 1 c.entries.self.queue in
    let none = ap (λ (m : Marker). m.partly) c.entries.invariant.cycle ∙ c.requires.none in
    let dark : IsNoneGrayAt c.args.heap.now c.take-base.result =
    subst (λ (b : Bool). MatchBool b (HasColour c.args.heap.now c.take-base.result Gray)
    (IsNoneGrayAt c.args.heap.now c.take-base.result))
    c.if-is_gray_at.false c.is_gray_at.ensures.gray in
    let one_less = λ (tidy : IsTidy (marking c.args.self.now c.args.heap.now)).
    dropped-stale c.entries.self c.take-base.new.self (views_of c.args.heap.now.objects) c.take-base.result none some
    c.take-base.ensures.entry c.take-base.ensures.rest (c.entries.invariant.tidy tidy)
    (λ object begins gray.
    let has = seen-coloured c.args.heap.now c.take-base.result object begins in dark has.object has.begins
    (has.is ∙ gray)) in
    record {
      cycle = queue-then c.args.self.now c.entries.self c.take-base.new.self c.entries.invariant.cycle step;
      tidy = λ tidy.
          dropped-tidy c.entries.self c.take-base.new.self (views_of c.args.heap.now.objects) c.take-base.result none
          some
          c.take-base.ensures.entry c.take-base.ensures.rest (c.entries.invariant.tidy tidy);
      paid = λ tidy.
          let paid = c.entries.invariant.paid tidy in
          let less = one_less tidy in
          omega (arith, paid, less, c.take-base.ensures.cost, c.is_gray_at.ensures.cost);
      fewer = λ tidy.
          let fewer = c.entries.invariant.fewer tidy in
          let less = one_less tidy in
          omega (arith, fewer, less);
      known =
          entry-dropped c.entries.self c.take-base.new.self c.take-base.result some c.take-base.ensures.entry
          c.take-base.ensures.rest c.args.heap.now
          dark
          c.entries.invariant.known;
      left = ap (λ (m : Marker). m.left_out) c.take-base.ensures.rest ∙ c.entries.invariant.left;
      cost =
          omega (arith, some, shorter, c.entries.invariant.cost, c.take-base.ensures.cost, c.is_gray_at.ensures.cost);
    }

pub returns-then-is_gray_at-clause-left : goal.returns-then-is_gray_at-clause-left
returns-then-is_gray_at-clause-left g c =
    ap (λ (m : Marker). m.left_out) c.take-base.ensures.rest ∙ c.entries.invariant.left

pub returns-then-is_gray_at-clause-cost : goal.returns-then-is_gray_at-clause-cost
returns-then-is_gray_at-clause-cost g c =
    let seen = ap (λ (m : Marker). length m.queue) c.self.view_is in
    let some : 0 < length c.entries.self.queue = omega (arith, c.depth.ensures.value, c.entries-test.true) in
    let shorter = ap (λ (m : Marker). length m.queue) c.take-base.ensures.rest ∙ length-drop 1 c.entries.self.queue in
    omega (arith, some, shorter, c.entries.invariant.cost, c.take-base.ensures.cost, c.is_gray_at.ensures.cost)

pub returns-then-is_gray_at-clause-tidy : goal.returns-then-is_gray_at-clause-tidy
returns-then-is_gray_at-clause-tidy g c = λ tidy.
    let seen = ap (λ (m : Marker). length m.queue) c.self.view_is in
    let some : 0 < length c.entries.self.queue = omega (arith, c.depth.ensures.value, c.entries-test.true) in
    let none = ap (λ (m : Marker). m.partly) c.entries.invariant.cycle ∙ c.requires.none in
    taken-tidy c.entries.self c.take-base.new.self (views_of c.args.heap.now.objects) c.take-base.result none some
    c.take-base.ensures.entry c.take-base.ensures.rest (c.entries.invariant.tidy tidy) 0

pub returns-then-is_gray_at-clause-paid : goal.returns-then-is_gray_at-clause-paid
returns-then-is_gray_at-clause-paid g c = λ tidy.
    let seen = ap (λ (m : Marker). length m.queue) c.self.view_is in
    let some : 0 < length c.entries.self.queue = omega (arith, c.depth.ensures.value, c.entries-test.true) in
    let none = ap (λ (m : Marker). m.partly) c.entries.invariant.cycle ∙ c.requires.none in
    let gray : HasColour c.args.heap.now c.take-base.result Gray =
    subst (λ (b : Bool). MatchBool b (HasColour c.args.heap.now c.take-base.result Gray)
    (IsNoneGrayAt c.args.heap.now c.take-base.result))
    c.if-is_gray_at.true c.is_gray_at.ensures.gray in
    let same = taken-stale c.entries.self c.take-base.new.self (views_of c.args.heap.now.objects) c.take-base.result
    none some
    c.take-base.ensures.entry c.take-base.ensures.rest (c.entries.invariant.tidy tidy) (view_of_stored gray.object)
    (stored-viewed c.args.heap.now.objects c.take-base.result gray.object gray.begins) gray.is in
    let paid = c.entries.invariant.paid tidy in
    omega (arith, paid, same, c.take-base.ensures.cost, c.is_gray_at.ensures.cost)

pub returns-clause-tidy : goal.returns-clause-tidy
returns-clause-tidy g c = λ tidy. c.entries.invariant.tidy tidy

pub returns-clause-paid : goal.returns-clause-paid
returns-clause-paid g c = λ tidy. let paid = c.entries.invariant.paid tidy in omega (arith, paid)
