use Rattle.std.proofs.Common.{refl, arith}
use Rattle.mm_count.proofs.Tables.{same-table}
use Rattle.mm_reap.proofs.Entries.{lists-pinned, pinned-past}
use Rattle.mm_reap.proofs.Filled.{filled-none, filled-both, size-same}
use Rattle.mm_reap.proofs.Recounted.{recounted-same, recounted-both, pages-same}
use Rattle.mm_reap.proofs.dead.take_entries.Goals as goal

pub loop-i-init : goal.loop-i-init
loop-i-init g c = record {
  few = omega arith;
  entries = omega arith;
  pinned = pinned-past c.args.count.now.entries c.args.heap.now.objects c.len-i.result (omega arith);
  filled = filled-none c.args.dead.now 0 (omega arith);
  reaped = c.requires.reaped;
  reapable = λ stack dropped outside are. are;
  table = refl;
  heap = recounted-same c.args.heap.now;
  cost = omega arith;
}

pub take_entry-k-requires : goal.take_entry-k-requires
take_entry-k-requires g c = record {
  entry = omega (arith, c.loop-i.invariant.entries, c.loop-i-test.true);
  pinned = λ place base at from. c.loop-i.invariant.pinned place base at (omega arith);
  reaped = c.loop-i.invariant.reaped;
  room = let pages = pages-same c.args.heap.now c.loop-i.heap c.loop-i.invariant.heap in
      let size = size-same c.args.dead.now c.loop-i.dead 0 c.loop-i.k c.loop-i.invariant.filled in
      let room = c.requires.room in
      omega arith;
  within = c.loop-i.invariant.filled.within;
}

pub loop-i-preserved : goal.loop-i-preserved
loop-i-preserved g c = record {
  few = omega (arith, c.loop-i.invariant.few, c.take_entry-k.ensures.few, c.loop-i-test.true);
  entries = c.take_entry-k.ensures.entries;
  pinned = c.take_entry-k.ensures.pinned;
  filled = filled-both c.args.dead.now c.loop-i.dead c.take_entry-k.new.dead 0 c.loop-i.k c.take_entry-k.result
      c.loop-i.invariant.filled c.take_entry-k.ensures.filled;
  reaped = c.take_entry-k.ensures.reaped;
  reapable = λ stack dropped outside are.
      c.take_entry-k.ensures.reapable stack dropped outside (c.loop-i.invariant.reapable stack dropped outside are);
  table = same-table c.args.count.now c.loop-i.count c.take_entry-k.new.count c.loop-i.invariant.table
      c.take_entry-k.ensures.table;
  heap = recounted-both c.args.heap.now c.loop-i.heap c.take_entry-k.new.heap c.loop-i.invariant.heap
      c.take_entry-k.ensures.heap;
  cost = omega (arith, c.loop-i.invariant.cost, c.take_entry-k.ensures.cost, c.loop-i-test.true);
}

pub returns-clause-pinned : goal.returns-clause-pinned
returns-clause-pinned g c =
    lists-pinned c.loop-i.count c.loop-i.heap c.loop-i.invariant.reaped.right
    (λ place base at from. c.loop-i.invariant.pinned place base at (omega arith))
