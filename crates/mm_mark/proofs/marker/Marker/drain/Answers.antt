use Rattle.std.proofs.Common.{◌≡◌, ◌+◌, ◌*◌, refl, sym, ap, subst, ◌∙◌, arith}
use Rattle.mm_object.specs.Object.{views_of}
use Rattle.mm_object.specs.Heap.{Heap}
use Rattle.mm_mark.specs.Marker.{marking}
use Rattle.mm_mark.specs.Parts.{NoneIsGray}
use Rattle.mm_mark.specs.Stale.{stale_of, slots_of}
use Rattle.mm_mark.specs.Draining.{IsDrained, unscanned}
use Rattle.mm_mark.proofs.Drained.{draining-begins, draining-goes_on, draining-ends}
use Rattle.mm_mark.proofs.Potential.{scanned-less, less-left, some-scanned, none-scanned, none-slots, part-paid}
use Rattle.mm_mark.proofs.Potential.{cycle-then}
use Rattle.mm_mark.proofs.Tidied.{none-under}
use Rattle.mm_mark.proofs.marker.Marker.drain.Goals as goal

pub parts-init : goal.parts-init
parts-init g c = record {
  draining = draining-begins (marking c.args.self.now c.args.heap.now) c.requires.done;
  keeps = c.requires.keeps;
  rest = refl;
  tidy = λ tidy. tidy;
  paid = λ tidy. omega arith;
  sound = λ sound. sound;
  cycle = refl;
}

pub parts-smaller : goal.parts-smaller
parts-smaller g c =
    let now = marking c.parts.self c.parts.heap in
    let next = marking c.scan_next.new.self c.scan_next.new.heap in
    let part = some-scanned _ now next c.scan_next.result (sym c.is_some.ensures ∙ c.parts-test.true)
    c.scan_next.ensures.part in
    less-left now next part.0.slots (scanned-less now next part.0 part.1)

pub parts-preserved : goal.parts-preserved
parts-preserved g c =
    let now = marking c.parts.self c.parts.heap in
    let next = marking c.scan_next.new.self c.scan_next.new.heap in
    let part = some-scanned _ now next c.scan_next.result (sym c.is_some.ensures ∙ c.parts-test.true)
    c.scan_next.ensures.part in
    record {
      draining =
          draining-goes_on (views_of c.args.heap.now.objects) now next part.0 part.1 c.parts.invariant.draining;
      keeps = c.scan_next.ensures.keeps;
      rest = c.scan_next.ensures.rest ∙ c.parts.invariant.rest;
      tidy = λ tidy. c.scan_next.ensures.tidy (c.parts.invariant.tidy tidy);
      paid = λ tidy.
          let so_far = c.parts.invariant.paid tidy in
          let paid = c.scan_next.ensures.paid (c.parts.invariant.tidy tidy) in
          let slots : slots_of c.scan_next.result ≡ part.0.slots = ap slots_of part.2 in
          part-paid now next part.0.slots
          (c.args.steps.now + 8 * stale_of (marking c.args.self.now c.args.heap.now)
          + 16 * unscanned (views_of c.args.heap.now.objects))
          c.parts.steps c.scan_next.new.steps (stale_of now) (stale_of next) (scanned-less now next part.0 part.1)
          so_far (omega (arith, paid, slots));
      sound = λ sound. c.scan_next.ensures.sound (c.parts.invariant.sound sound);
      cycle =
          cycle-then c.args.self.now c.parts.self c.scan_next.new.self c.parts.invariant.cycle
          c.scan_next.ensures.cycle;
    }

pub returns-clause-drained : goal.returns-clause-drained
returns-clause-drained g c =
    let now = marking c.parts.self c.parts.heap in
    let next = marking c.scan_next.new.self c.scan_next.new.heap in
    let left = none-scanned _ now next c.scan_next.result (sym c.is_some.ensures ∙ c.parts-test.false)
    c.scan_next.ensures.part in
    subst (λ (h : Heap). IsDrained (views_of c.args.heap.now.objects) (views_of h.objects)) (sym left.1)
    (draining-ends (views_of c.args.heap.now.objects) now c.parts.invariant.draining left.0)

pub returns-clause-none : goal.returns-clause-none
returns-clause-none g c =
    let now = marking c.parts.self c.parts.heap in
    let next = marking c.scan_next.new.self c.scan_next.new.heap in
    let left = none-scanned _ now next c.scan_next.result (sym c.is_some.ensures ∙ c.parts-test.false)
    c.scan_next.ensures.part in
    subst (λ (h : Heap). NoneIsGray (views_of h.objects)) (sym left.1) left.0

pub returns-clause-sound : goal.returns-clause-sound
returns-clause-sound g c = λ sound. c.scan_next.ensures.sound (c.parts.invariant.sound sound)

pub returns-clause-rest : goal.returns-clause-rest
returns-clause-rest g c = c.scan_next.ensures.rest ∙ c.parts.invariant.rest

pub returns-clause-cost : goal.returns-clause-cost
returns-clause-cost g c = λ stale h.
    let now = marking c.parts.self c.parts.heap in
    let next = marking c.scan_next.new.self c.scan_next.new.heap in
    let end = sym c.is_some.ensures ∙ c.parts-test.false in
    let left = none-scanned _ now next c.scan_next.result end c.scan_next.ensures.part in
    let so_far = c.parts.invariant.paid h.tidy in
    let paid = c.scan_next.ensures.paid (c.parts.invariant.tidy h.tidy) in
    let slots = none-slots c.scan_next.result end in
    let none = none-under (views_of c.parts.heap.objects) c.parts.self.partly c.parts.invariant.keeps.partly left.0 in
    let same = ap (λ (h : Heap). unscanned (views_of h.objects)) left.1 in
    let few = h.few in
    omega (arith, so_far, paid, slots, none, same, few)
