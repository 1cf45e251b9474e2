use Rattle.std.proofs.Common.{refl, ◌≡◌, ℕ, ◌+◌, ◌*◌, ◌≤◌, take, sym, ap, subst, arith}
use Rattle.std.specs.Prelude.{slice_index}
use Rattle.mm_model.specs.Views.ObjectView.{ObjectsByBase}
use Rattle.mm_model.specs.Views.GoodView.{HoldTight}
use Rattle.mm_object.specs.Object.{views_of}
use Rattle.mm_reap.specs.Slots.{counted_slots_at, counted_slots_of}
use Rattle.mm_reap.specs.Found.{AreReapable}
use Rattle.mm_count.proofs.Tables.{same-table}
use Rattle.mm_reap.proofs.Recounted.{recounted-same, recounted-both, pages-same}
use Rattle.mm_reap.proofs.Filled.{filled-none, filled-both, size-same, sum-front}
use Rattle.mm_reap.proofs.following.follow_all.Goals as goal

pub loop-i-init : goal.loop-i-init
loop-i-init g c = record {
  order = omega arith;
  few = omega arith;
  pinned = c.requires.pinned;
  filled = filled-none c.args.dead.now c.args.k c.requires.within;
  reaped = c.requires.reaped;
  reapable = λ stack outside are. are;
  table = refl;
  heap = recounted-same c.args.heap.now;
  cost = omega arith;
}

pub follow-found-requires : goal.follow-found-requires
follow-found-requires g c = record {
  next = c.loop-i-test.true;
  some = let some = c.requires.some in
      record {
        stack = some.stack;
        outside = some.outside;
        are = c.loop-i.invariant.reapable some.stack some.outside some.are;
      };
  tight = subst HoldTight (sym c.loop-i.invariant.heap.views) c.requires.tight;
  pinned = c.loop-i.invariant.pinned;
  reaped = c.loop-i.invariant.reaped;
  room = let pages = pages-same c.args.heap.now c.loop-i.heap c.loop-i.invariant.heap in
      let size = size-same c.args.dead.now c.loop-i.dead c.args.k c.loop-i.found c.loop-i.invariant.filled in
      let room = c.requires.room in
      omega arith;
  within = c.loop-i.invariant.filled.within;
}

pub loop-i-preserved : goal.loop-i-preserved
loop-i-preserved g c =
    let views = c.loop-i.invariant.heap.views in
    let old = views_of c.args.heap.now.objects in
    let word = slice_index c.loop-i.dead.words c.loop-i.i in
    let own : counted_slots_at (views_of c.loop-i.heap.objects) word ≡ counted_slots_at old word =
    ap (λ (vs : ObjectsByBase). counted_slots_at vs word) views in
    let sum = sum-front old c.loop-i.dead c.follow-found.new.dead c.loop-i.found c.follow-found.result c.loop-i.i
    c.follow-found.ensures.filled c.loop-i-test.true c.loop-i.invariant.filled.within in
    let few = c.loop-i.invariant.few in
    let more = c.follow-found.ensures.few in
    let order = c.follow-found.ensures.filled.order in
    let cost = c.loop-i.invariant.cost in
    let paid = c.follow-found.ensures.cost in
    let next = c.loop-i-test.true in
    record {
      order = omega arith;
      few = omega arith;
      pinned = c.follow-found.ensures.pinned;
      filled = filled-both c.args.dead.now c.loop-i.dead c.follow-found.new.dead c.args.k c.loop-i.found
          c.follow-found.result c.loop-i.invariant.filled c.follow-found.ensures.filled;
      reaped = c.follow-found.ensures.reaped;
      reapable = λ stack outside are.
          c.follow-found.ensures.reapable stack outside (c.loop-i.invariant.reapable stack outside are);
      table = same-table c.args.count.now c.loop-i.count c.follow-found.new.count c.loop-i.invariant.table
          c.follow-found.ensures.table;
      heap = recounted-both c.args.heap.now c.loop-i.heap c.follow-found.new.heap c.loop-i.invariant.heap
          c.follow-found.ensures.heap;
      cost = omega arith;
    }

pub loop-i-smaller : goal.loop-i-smaller
loop-i-smaller g c =
    let size = size-same c.args.dead.now c.loop-i.dead c.args.k c.loop-i.found c.loop-i.invariant.filled in
    let within = c.loop-i.invariant.filled.within in
    let next = c.loop-i-test.true in
    omega arith

pub returns-clause-few : goal.returns-clause-few
returns-clause-few g c =
    let same : c.loop-i.i ≡ c.loop-i.found = omega (arith, c.loop-i.invariant.order, c.loop-i-test.false) in
    subst (λ (n : ℕ). c.loop-i.found ≤ c.args.k + counted_slots_of (views_of c.args.heap.now.objects)
    (take n c.loop-i.dead.words)) same c.loop-i.invariant.few

pub returns-clause-reapable : goal.returns-clause-reapable
returns-clause-reapable g c = λ stack outside are.
    let same : c.loop-i.i ≡ c.loop-i.found = omega (arith, c.loop-i.invariant.order, c.loop-i-test.false) in
    subst (λ (n : ℕ). AreReapable c.loop-i.heap.objects stack (take n c.loop-i.dead.words)
    (take c.loop-i.found c.loop-i.dead.words) outside) same (c.loop-i.invariant.reapable stack outside are)

pub returns-clause-cost : goal.returns-clause-cost
returns-clause-cost g c =
    let same : c.loop-i.i ≡ c.loop-i.found = omega (arith, c.loop-i.invariant.order, c.loop-i-test.false) in
    subst (λ (n : ℕ). c.loop-i.steps ≤ c.args.steps.now + 3 * n
    + 21 * counted_slots_of (views_of c.args.heap.now.objects) (take n c.loop-i.dead.words)) same
    c.loop-i.invariant.cost
