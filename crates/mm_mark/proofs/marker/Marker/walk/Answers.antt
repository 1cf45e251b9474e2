use Rattle.std.proofs.Common.{◌+◌, ◌*◌, ◌-◌, ◌/◌, ◌<◌, ◌≤◌, ℕ, length, arith}
use Rattle.mm_mark.proofs.Refilled.{walked-none, walked-first}
use Rattle.mm_mark.proofs.marker.Marker.walk.Goals as goal

walk_cost : (before found after next base entries pages : ℕ) → found ≤ before + 1 + (base / 4096 + 1 - next / 4096)
    → after ≤ found + 2 * (1 + entries) + (pages - base / 4096) → next ≤ base → base < 4096 * pages
    → after ≤ before + 2 * (2 + entries) + (pages - next / 4096)
walk_cost before found after next base entries pages first rest from to = omega arith

pub refill-requires-clause-before : goal.refill-requires-clause-before
refill-requires-clause-before g c =
    walked-first c.args.heap.now c.args.self.now c.args.next c.requires.empty c.requires.none c.requires.left
    c.requires.known c.in-Some.base c.in-Some.ensures.base

pub returns-in-Some-clause-walked : goal.returns-in-Some-clause-walked
returns-in-Some-clause-walked g c =
    let next = c.in-Some.ensures.base in
    let sound = c.next_of.ensures.sound in
    let inside = sound.inside c.in-Some.base next.object next.begins in
    let room = sound.room c.in-Some.base next.object next.begins in
    let size = sound.size in
    let high = inside.to in
    let to : c.in-Some.base < 4096 * c.args.heap.now.pages = omega arith in
    record {
      next = c.args.next;
      left = c.requires.left;
      refilled = c.refill.ensures.refilled;
      cost =
          walk_cost c.args.steps.now c.next_of.new.steps c.refill.new.steps c.args.next c.in-Some.base
          (length c.refill.new.self.queue) c.args.heap.now.pages c.in-Some.ensures.cost c.refill.ensures.cost
          next.reached to;
    }

pub returns-in-None-clause-base : goal.returns-in-None-clause-base
returns-in-None-clause-base g c =
    walked-none c.args.heap.now c.args.self.now c.args.next c.requires.empty c.requires.none c.requires.left
    c.requires.known c.in-None.ensures.base
