use Rattle.std.proofs.Common.{ℕ, ◌+◌, List, take, sym, ap, ◌∙◌, subst, arith}
use Rattle.std.proofs.lemmas.List.{take-take}
use Rattle.mm_model.specs.Views.ObjectView.{ObjectsByBase}
use Rattle.mm_model.specs.Views.GoodView.{HoldTight}
use Rattle.mm_object.specs.Object.{views_of}
use Rattle.mm_reap.specs.Slots.{counted_slots_at}
use Rattle.mm_reap.specs.Found.{AreReapable}
use Rattle.mm_count.proofs.Tables.{same-table}
use Rattle.mm_reap.proofs.Recounted.{counted-to, recounted-both, recounted-by}
use Rattle.mm_reap.proofs.Dropping.{front-found, front-out, front-more, dropped-pinned, dropped-found, dropped-reapable}
use Rattle.mm_reap.proofs.Slots.{slots-at, length-words}
use Rattle.mm_reap.proofs.following.follow.Goals as goal

pub lower_slots-requires-clause-object : goal.lower_slots-requires-clause-object
lower_slots-requires-clause-object g c =
    let base = c.get-base.result in
    let k = c.requires.reaped.found.counted base (front-found c.args.dead.now.words c.args.i c.args.k base
    c.requires.next c.requires.within c.get-base.ensures) in
    (k.object, k.begins)

pub lower_slots-requires-clause-counted : goal.lower_slots-requires-clause-counted
lower_slots-requires-clause-counted g c =
    let base = c.get-base.result in
    record {
      dropped = take c.args.i c.args.dead.now.words;
      outside = c.requires.some.outside;
      apart = c.requires.some.are.counts;
      out = front-out c.args.dead.now.words c.args.i c.args.k base c.requires.next c.requires.within
          c.get-base.ensures c.requires.reaped.found.once;
    }

pub follow_slots-requires-clause-counted : goal.follow_slots-requires-clause-counted
follow_slots-requires-clause-counted g c =
    let base = c.get-base.result in
    let k = c.requires.reaped.found.counted base (front-found c.args.dead.now.words c.args.i c.args.k base
    c.requires.next c.requires.within c.get-base.ensures) in
    counted-to c.args.heap.now.objects c.lower_slots.new.heap.objects c.lower_slots.ensures.objects base k

pub follow_slots-requires-clause-tight : goal.follow_slots-requires-clause-tight
follow_slots-requires-clause-tight g c = subst HoldTight (sym c.lower_slots.ensures.views) c.requires.tight

pub follow_slots-requires-clause-pinned : goal.follow_slots-requires-clause-pinned
follow_slots-requires-clause-pinned g c =
    let base = c.get-base.result in
    let k = c.requires.reaped.found.counted base (front-found c.args.dead.now.words c.args.i c.args.k base
    c.requires.next c.requires.within c.get-base.ensures) in
    dropped-pinned c.args.heap.now c.lower_slots.new.heap base k
    (recounted-by c.lower_slots.ensures.views c.lower_slots.ensures.objects c.lower_slots.ensures.rest)
    c.lower_slots.ensures.pins (c.lower_slots.ensures.listed k.object k.begins) c.requires.pinned

pub follow_slots-requires-clause-reaped : goal.follow_slots-requires-clause-reaped
follow_slots-requires-clause-reaped g c =
    let base = c.get-base.result in
    let words = c.args.dead.now.words in
    let some = c.requires.some in
    let k = c.requires.reaped.found.counted base (front-found words c.args.i c.args.k base
    c.requires.next c.requires.within c.get-base.ensures) in
    let out = front-out words c.args.i c.args.k base c.requires.next c.requires.within c.get-base.ensures
    c.requires.reaped.found.once in
    record {
      right = c.lower_slots.ensures.right;
      sound = c.lower_slots.ensures.sound;
      found = dropped-found c.args.heap.now c.lower_slots.new.heap base k
          (recounted-by c.lower_slots.ensures.views c.lower_slots.ensures.objects c.lower_slots.ensures.rest)
          c.lower_slots.ensures.pins (c.lower_slots.ensures.listed k.object k.begins) some.stack
          (take c.args.i words) (take c.args.k words) some.outside c.requires.reaped.found some.are
          (c.lower_slots.ensures.counts (take c.args.i words) some.outside out some.are.counts) out;
    }

pub returns-clause-few : goal.returns-clause-few
returns-clause-few g c =
    let few = c.follow_slots.ensures.few in
    let slots = ap (λ (vs : ObjectsByBase). counted_slots_at vs c.get-base.result) c.lower_slots.ensures.views in
    let same = ap (counted_slots_at (views_of c.args.heap.now.objects)) c.get-base.ensures in
    omega arith

pub returns-clause-reapable : goal.returns-clause-reapable
returns-clause-reapable g c = λ stack outside are.
    let base = c.get-base.result in
    let words = c.args.dead.now.words in
    let inside = front-found words c.args.i c.args.k base c.requires.next c.requires.within c.get-base.ensures in
    let k = c.requires.reaped.found.counted base inside in
    let out = front-out words c.args.i c.args.k base c.requires.next c.requires.within c.get-base.ensures
    c.requires.reaped.found.once in
    let below = c.requires.next in
    let front = sym (take-take (c.args.i + 1) c.args.k c.follow_slots.new.dead.words (omega arith))
    ∙ ap (take (c.args.i + 1)) c.follow_slots.ensures.filled.front
    ∙ take-take (c.args.i + 1) c.args.k words (omega arith) in
    subst (λ (ws : List ℕ). AreReapable c.follow_slots.new.heap.objects stack ws
    (take c.follow_slots.result c.follow_slots.new.dead.words) outside) (sym front)
    (c.follow_slots.ensures.reapable stack (take (c.args.i + 1) words) outside
    (dropped-reapable c.args.heap.now c.lower_slots.new.heap base k
    (recounted-by c.lower_slots.ensures.views c.lower_slots.ensures.objects c.lower_slots.ensures.rest)
    c.lower_slots.ensures.pins (c.lower_slots.ensures.listed k.object k.begins) stack
    (take c.args.i words) (take c.args.k words) outside c.requires.reaped.found are
    (c.lower_slots.ensures.counts (take c.args.i words) outside out are.counts)
    (take (c.args.i + 1) words)
    (front-more words c.args.i c.args.k base c.requires.next c.requires.within c.get-base.ensures) inside))

pub returns-clause-heap : goal.returns-clause-heap
returns-clause-heap g c =
    recounted-both c.args.heap.now c.lower_slots.new.heap c.follow_slots.new.heap
    (recounted-by c.lower_slots.ensures.views c.lower_slots.ensures.objects c.lower_slots.ensures.rest)
    c.follow_slots.ensures.heap

pub returns-clause-cost : goal.returns-clause-cost
returns-clause-cost g c =
    let base = c.get-base.result in
    let k = c.requires.reaped.found.counted base (front-found c.args.dead.now.words c.args.i c.args.k base
    c.requires.next c.requires.within c.get-base.ensures) in
    let own = slots-at c.args.heap.now c.requires.reaped.sound base k in
    let size = length-words c.args.heap.now c.requires.reaped.sound base k in
    let first = c.lower_slots.ensures.cost k.object k.begins in
    let rest = c.follow_slots.ensures.cost in
    let slots = ap (λ (vs : ObjectsByBase). counted_slots_at vs base) c.lower_slots.ensures.views in
    let same = ap (counted_slots_at (views_of c.args.heap.now.objects)) c.get-base.ensures in
    omega arith

pub returns-clause-table : goal.returns-clause-table
returns-clause-table g c =
    same-table c.args.count.now c.lower_slots.new.self c.follow_slots.new.count c.lower_slots.ensures.table
    c.follow_slots.ensures.table
