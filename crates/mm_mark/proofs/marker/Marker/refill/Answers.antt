use Rattle.std.proofs.Common.{◌+◌, ◌-◌, ◌*◌, ◌/◌, ◌≤◌, ◌<◌, ℕ, None, length, refl, sym, ap, subst, ◌∙◌, arith}
use Rattle.mm_object.specs.Object.{views_of}
use Rattle.mm_mark.specs.Marker.{Marker}
use Rattle.mm_mark.specs.Parts.{AreOthersKnown}
use Rattle.mm_mark.specs.Refill.{IsPut, IsStopped}
use Rattle.mm_mark.proofs.Grayed.{queue-then}
use Rattle.mm_mark.proofs.Refilled.{walk-begins, walk-queues, walk-stops, walk-ends}
use Rattle.mm_mark.proofs.marker.Marker.refill.Goals as goal

next_cost : (start before after first k from base : ℕ) → before + first / 4096 ≤ start + 2 * k + from / 4096
    → after ≤ before + 1 + (base / 4096 + 1 - from / 4096) → from ≤ base
    → after + first / 4096 ≤ start + 2 * (k + 1) + (base + 1) / 4096
next_cost start before after first k from base was now reached = omega arith

stop_cost : (start before after first k from base pages : ℕ) → before + first / 4096 ≤ start + 2 * k + from / 4096
    → after ≤ before + 1 + (base / 4096 + 1 - from / 4096) → from ≤ base → base < 4096 * pages → first < from
    → after ≤ start + 2 * (1 + k) + (pages - first / 4096)
stop_cost start before after first k from base pages was now reached to begun = omega arith

end_cost : (start before after first k from pages : ℕ) → before + first / 4096 ≤ start + 2 * k + from / 4096
    → after ≤ before + 1 + (pages - from / 4096) → from ≤ 4096 * pages → first < from
    → after ≤ start + 2 * (1 + k) + (pages - first / 4096)
end_cost start before after first k from pages was now to begun = omega arith

pub loop-base-init : goal.loop-base-init
loop-base-init g c =
    record {
      others = walk-begins c.args.heap.now c.args.self.now c.args.first c.requires.before;
      cycle = refl;
      begun = omega arith;
      from = λ inside. omega arith;
      cost = omega arith;
    }

pub returns-then-not-put-clause-taken : goal.returns-then-not-put-clause-taken
returns-then-not-put-clause-taken g c =
    let stopped : IsStopped c.loop-base.self c.put.new.self c.in-Some.base = c.if-not-put.ensures in
    record {
      gray = c.requires.gray;
      others =
          subst (λ (m : Marker). AreOthersKnown m (views_of c.args.heap.now.objects) c.args.first) (sym stopped.1)
          (walk-stops c.args.heap.now c.loop-base.self c.args.first c.loop-base.from c.loop-base.invariant.others
          c.in-Some.base c.in-Some.ensures.base);
    }

pub loop-base-preserved : goal.loop-base-preserved
loop-base-preserved g c =
    let next = c.in-Some.ensures.base in
    let inv = c.loop-base.invariant in
    let put : IsPut c.loop-base.self c.put.new.self c.in-Some.base = c.if-not-put.ensures in
    let sound = c.next_of.ensures.sound in
    let inside = sound.inside c.in-Some.base next.object next.begins in
    let room = sound.room c.in-Some.base next.object next.begins in
    let size = sound.size in
    let high = inside.to in
    let to : c.in-Some.base < 4096 * c.args.heap.now.pages = omega arith in
    let longer = ap (λ (m : Marker). length m.queue) put in
    let begun = inv.begun in
    let reached = next.reached in
    let paid =
    next_cost c.args.steps.now c.loop-base.steps c.next_of.new.steps c.args.first (length c.loop-base.self.queue)
    c.loop-base.from c.in-Some.base inv.cost c.in-Some.ensures.cost reached in
    record {
      others =
          walk-queues c.args.heap.now c.loop-base.self c.args.first c.loop-base.from inv.others c.put.new.self
          c.in-Some.base next put;
      cycle =
          queue-then c.args.self.now c.loop-base.self c.put.new.self inv.cycle
          (put ∙ sym (ap (λ (m : Marker). record c.loop-base.self { queue = m.queue; left_out = m.left_out }) put));
      begun = omega arith;
      from = λ within. omega arith;
      cost = omega (arith, paid, longer);
    }

pub returns-then-not-put-clause-cost : goal.returns-then-not-put-clause-cost
returns-then-not-put-clause-cost g c =
    let next = c.in-Some.ensures.base in
    let inv = c.loop-base.invariant in
    let stopped : IsStopped c.loop-base.self c.put.new.self c.in-Some.base = c.if-not-put.ensures in
    let sound = c.next_of.ensures.sound in
    let inside = sound.inside c.in-Some.base next.object next.begins in
    let room = sound.room c.in-Some.base next.object next.begins in
    let size = sound.size in
    let high = inside.to in
    let to : c.in-Some.base < 4096 * c.args.heap.now.pages = omega arith in
    subst (λ (m : Marker). c.next_of.new.steps
    ≤ c.args.steps.now + 2 * (1 + length m.queue) + (c.args.heap.now.pages - c.args.first / 4096)) (sym stopped.1)
    (stop_cost c.args.steps.now c.loop-base.steps c.next_of.new.steps c.args.first (length c.loop-base.self.queue)
    c.loop-base.from c.in-Some.base c.args.heap.now.pages inv.cost c.in-Some.ensures.cost next.reached to
    inv.begun)

pub returns-clause-taken : goal.returns-clause-taken
returns-clause-taken g c =
    record {
      gray = c.requires.gray;
      others =
          subst (λ (m : Marker). AreOthersKnown (record m { left_out = None }) (views_of c.args.heap.now.objects)
          c.args.first)
          (sym c.self.view_is)
          (walk-ends c.args.heap.now c.loop-base.self c.args.first c.loop-base.from c.loop-base.invariant.others
          c.in_default.ensures.base);
    }

pub returns-clause-cost : goal.returns-clause-cost
returns-clause-cost g c =
    let inv = c.loop-base.invariant in
    let gray = c.requires.gray in
    let sound = c.next_of.ensures.sound in
    let inside = sound.inside c.args.first gray.object gray.begins in
    let room = sound.room c.args.first gray.object gray.begins in
    let size = sound.size in
    let high = inside.to in
    let to : c.args.first < 4096 * c.args.heap.now.pages = omega arith in
    let same = ap (λ (m : Marker). length m.queue) c.self.view_is in
    let paid =
    end_cost c.args.steps.now c.loop-base.steps c.next_of.new.steps c.args.first (length c.loop-base.self.queue)
    c.loop-base.from c.args.heap.now.pages inv.cost c.in_default.ensures.cost (inv.from to) inv.begun in
    omega (arith, paid, same)
