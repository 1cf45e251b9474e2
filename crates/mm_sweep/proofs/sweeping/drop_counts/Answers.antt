use Rattle.std.proofs.Common.{◌≡◌, ℕ, ◌<◌, List, [], ◌∷◌, ◌++◌, length, take, false, refl, sym, ap, subst, arith}
use Rattle.std.specs.Prelude.{slice_index}
use Rattle.mm_model.specs.Phase.{lists}
use Rattle.mm_model.specs.Views.ObjectView.{ObjectsByBase, counted_words_of}
use Rattle.mm_model.specs.Views.ViewWords.{object_at}
use Rattle.mm_model.specs.Views.GoodView.{HoldTight}
use Rattle.mm_object.specs.Object.{view_of_stored, views_of}
use Rattle.mm_object.specs.Heap.{IsObject}
use Rattle.mm_count.specs.Apart.{AreCountsApart}
use Rattle.mm_count.proofs.Apart.{apart-none}
use Rattle.mm_sweep.specs.Sweep.{counted_slots}
use Rattle.mm_count.proofs.Tables.{same-table}
use Rattle.mm_sweep.proofs.Bases.{each_at, take-next, lists-before}
use Rattle.mm_sweep.proofs.Leaving.{recounted-same, recounted-then}
use Rattle.mm_sweep.proofs.Dropping.{apart-last, kept-object, all_listed-named, unpinned-kept, counted_slots-next}
use Rattle.mm_sweep.proofs.Dropping.{counted_slots-object}
use Rattle.mm_sweep.proofs.sweeping.drop_counts.Goals as goal

pub loop-i-init : goal.loop-i-init
loop-i-init g c =
    record {
      counts = λ outside right. apart-none c.args.heap.now.objects outside right;
      heap = recounted-same c.args.heap.now;
      listed = λ all. all;
      unpinned = λ none. none;
      table = refl;
      right = c.requires.right;
      sound = c.requires.sound;
      cost = omega arith;
    }

pub lower_slots-requires-clause-object : goal.lower_slots-requires-clause-object
lower_slots-requires-clause-object g c =
    let words = c.args.dead.now.words in
    let i = c.loop-i.i in
    let within : i < length words = omega (arith, c.requires.within) in
    subst (IsObject c.loop-i.heap) (sym c.get-base.ensures)
    (kept-object c.args.heap.now c.loop-i.heap (slice_index words i) c.loop-i.invariant.heap.objects
    (each_at (IsObject c.args.heap.now) words c.args.k i c.requires.objects (omega arith) within))

pub lower_slots-requires-clause-tight : goal.lower_slots-requires-clause-tight
lower_slots-requires-clause-tight g c =
    subst (λ (vs : ObjectsByBase). HoldTight vs) (sym c.loop-i.invariant.heap.views) c.requires.tight

pub lower_slots-requires-clause-counted : goal.lower_slots-requires-clause-counted
lower_slots-requires-clause-counted g c =
    let words = c.args.dead.now.words in
    let i = c.loop-i.i in
    let within : i < length words = omega (arith, c.requires.within) in
    record {
      dropped = take i words;
      outside = c.requires.counted.0;
      apart = c.loop-i.invariant.counts c.requires.counted.0 c.requires.counted.1;
      out =
          subst (λ (base : ℕ). lists (take i words) base ≡ false) (sym c.get-base.ensures)
          (lists-before words c.args.k i c.requires.ascending (omega arith) within);
    }

pub loop-i-preserved : goal.loop-i-preserved
loop-i-preserved g c =
    let words = c.args.dead.now.words in
    let i = c.loop-i.i in
    let inv = c.loop-i.invariant in
    let within : i < length words = omega (arith, c.requires.within) in
    let out : lists (take i words) c.get-base.result ≡ false =
    subst (λ (base : ℕ). lists (take i words) base ≡ false) (sym c.get-base.ensures)
    (lists-before words c.args.k i c.requires.ascending (omega arith) within) in
    let object = subst (IsObject c.loop-i.heap) (sym c.get-base.ensures)
    (kept-object c.args.heap.now c.loop-i.heap (slice_index words i) inv.heap.objects
    (each_at (IsObject c.args.heap.now) words c.args.k i c.requires.objects (omega arith) within)) in
    let low = c.lower_slots.ensures in
    let cost = low.cost object.0 object.1 in
    let before = inv.cost in
    let slots = counted_slots-next (views_of c.args.heap.now.objects) words i within in
    let own = counted_slots-object (views_of c.args.heap.now.objects) c.loop-i.heap.objects c.get-base.result object.0
    inv.heap.views object.1 in
    let at = ap (λ (base : ℕ). counted_slots (object_at (views_of c.args.heap.now.objects) base)) c.get-base.ensures in
    record {
      counts = λ outside right.
          subst (λ (bases : List ℕ). AreCountsApart bases c.lower_slots.new.heap.objects outside)
          (sym (take-next words i within))
          (subst (λ (base : ℕ). AreCountsApart (take i words ++ base ∷ []) c.lower_slots.new.heap.objects outside)
          c.get-base.ensures
          (apart-last (take i words) c.get-base.result c.lower_slots.new.heap.objects outside
          (low.counts (take i words) outside out (inv.counts outside right))));
      heap =
          recounted-then c.args.heap.now c.loop-i.heap c.lower_slots.new.heap inv.heap
          (record { views = low.views; objects = low.objects; rest = low.rest });
      listed = λ all.
          all_listed-named c.loop-i.heap.objects c.lower_slots.new.heap.objects
          (counted_words_of (view_of_stored object.0)) low.views low.objects (low.listed object.0 object.1)
          (inv.listed all);
      unpinned = λ none.
          unpinned-kept c.loop-i.heap.objects c.lower_slots.new.heap.objects low.objects low.pins (inv.unpinned none);
      table = same-table c.args.count.now c.loop-i.count c.lower_slots.new.self inv.table low.table;
      right = low.right;
      sound = low.sound;
      cost = omega arith;
    }
