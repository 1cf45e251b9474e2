use Rattle.std.proofs.Common.{ℕ, ◌<◌, List, [], ◌∷◌, ◌++◌, length, take, refl, sym, subst, arith}
use Rattle.std.specs.Prelude.{slice_index}
use Rattle.mm_object.specs.Heap.{IsObject}
use Rattle.mm_count.specs.DeadApart.{AreDeadApart}
use Rattle.mm_count.proofs.Tables.{same-table}
use Rattle.mm_sweep.proofs.Bases.{each_at, take-next}
use Rattle.mm_sweep.proofs.Leaving.{recounted-same, recounted-then}
use Rattle.mm_sweep.proofs.Dropping.{kept-object}
use Rattle.mm_sweep.proofs.sweeping.leave_all.Goals as goal

pub loop-i-init : goal.loop-i-init
loop-i-init g c =
    record {
      left = λ dead. dead;
      counts = λ dropped outside apart. apart;
      heap = recounted-same c.args.heap.now;
      unpinned = λ none. none;
      table = refl;
      right = c.requires.right;
      sound = c.requires.sound;
      cost = omega arith;
    }

pub leave_table-requires-clause-object : goal.leave_table-requires-clause-object
leave_table-requires-clause-object g c =
    let words = c.args.dead.now.words in
    let i = c.loop-i.i in
    let within : i < length words = omega (arith, c.requires.within) in
    subst (IsObject c.loop-i.heap) (sym c.get.ensures)
    (kept-object c.args.heap.now c.loop-i.heap (slice_index words i) c.loop-i.invariant.heap.objects
    (each_at (IsObject c.args.heap.now) words c.args.k i c.requires.objects (omega arith) within))

pub loop-i-preserved : goal.loop-i-preserved
loop-i-preserved g c =
    let words = c.args.dead.now.words in
    let i = c.loop-i.i in
    let within : i < length words = omega (arith, c.requires.within) in
    record {
      left = λ dead.
          subst (λ (bases : List ℕ). AreDeadApart bases c.leave_table.new.heap.objects) (sym (take-next words i within))
          (subst (λ (base : ℕ). AreDeadApart (take i words ++ base ∷ []) c.leave_table.new.heap.objects) c.get.ensures
          (c.leave_table.ensures.left (take i words) (c.loop-i.invariant.left dead)));
      counts = λ dropped outside apart.
          c.leave_table.ensures.counts dropped outside (c.loop-i.invariant.counts dropped outside apart);
      heap =
          recounted-then c.args.heap.now c.loop-i.heap c.leave_table.new.heap c.loop-i.invariant.heap
          c.leave_table.ensures.heap;
      unpinned = λ none. c.leave_table.ensures.unpinned (c.loop-i.invariant.unpinned none);
      table =
          same-table c.args.count.now c.loop-i.count c.leave_table.new.count c.loop-i.invariant.table
          c.leave_table.ensures.table;
      right = c.leave_table.ensures.right;
      sound = c.leave_table.ensures.sound;
      cost = omega (arith, c.loop-i.invariant.cost, c.leave_table.ensures.cost);
    }
