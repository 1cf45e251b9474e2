use Rattle.std.proofs.Common.{◌≡◌, [], take, sym, ap, ◌∙◌, subst, arith}
use Rattle.std.proofs.lemmas.List.Sorted.{sum_by-IsPermutation}
use Rattle.mm_model.specs.Views.ObjectView.{ObjectsByBase}
use Rattle.mm_model.specs.Views.GoodView.{HoldTight}
use Rattle.mm_object.specs.Object.{views_of}
use Rattle.mm_reap.specs.Slots.{counted_slots_at, counted_slots_of}
use Rattle.mm_count.proofs.Tables.{same-table}
use Rattle.mm_reap.proofs.Filled.{filled-both, filled-again}
use Rattle.mm_reap.proofs.Pinned.{none-pinned}
use Rattle.mm_reap.proofs.Recounted.{recounted-both}
use Rattle.mm_reap.proofs.Whole.{start-reapable, start-found, end-counts, end-apart, end-bases}
use Rattle.mm_reap.proofs.reaping.reap.Goals as goal

pub take_entries-entries-requires-clause-reaped : goal.take_entries-entries-requires-clause-reaped
take_entries-entries-requires-clause-reaped g c =
    record {
      right = c.set_pins.ensures.right;
      sound = c.set_pins.ensures.sound;
      found = start-found c.args.heap.now c.set_pins.new.heap c.args.stack.now.words c.set_pins.ensures.heap
          c.set_pins.ensures.pins c.requires.listed;
    }

pub follow_all-found-requires-clause-some : goal.follow_all-found-requires-clause-some
follow_all-found-requires-clause-some g c =
    let stack = c.args.stack.now.words in
    let outside = c.requires.counted in
    record {
      stack = stack;
      outside = outside.0;
      are = c.take_entries-entries.ensures.reapable stack [] outside.0
          (start-reapable c.args.heap.now c.set_pins.new.heap stack c.set_pins.ensures.heap c.set_pins.ensures.pins
          c.requires.unpinned outside.0 outside.1);
    }

pub follow_all-found-requires-clause-tight : goal.follow_all-found-requires-clause-tight
follow_all-found-requires-clause-tight g c =
    subst HoldTight (sym (c.take_entries-entries.ensures.heap.views ∙ c.set_pins.ensures.heap.views)) c.requires.tight

pub returns-clause-bases : goal.returns-clause-bases
returns-clause-bases g c = λ outside right.
    let stack = c.args.stack.now.words in
    end-bases c.follow_all-found.new.heap c.set_pins-2.new.heap stack
    (take c.follow_all-found.result c.follow_all-found.new.dead.words)
    (take c.follow_all-found.result c.sort_front.new.words.words) c.set_pins-2.ensures.heap c.set_pins-2.ensures.pins
    c.follow_all-found.ensures.reaped.found c.sort_front.ensures.same (views_of c.args.heap.now.objects)
    (c.follow_all-found.ensures.heap.views ∙ c.take_entries-entries.ensures.heap.views ∙ c.set_pins.ensures.heap.views)
    c.follow_all-found.ensures.pinned c.sort_front.ensures.sorted outside
    (c.follow_all-found.ensures.reapable stack outside
    (c.take_entries-entries.ensures.reapable stack [] outside
    (start-reapable c.args.heap.now c.set_pins.new.heap stack c.set_pins.ensures.heap c.set_pins.ensures.pins
    c.requires.unpinned outside right)))

pub returns-clause-counts : goal.returns-clause-counts
returns-clause-counts g c = λ outside right.
    let stack = c.args.stack.now.words in
    end-counts c.follow_all-found.new.heap c.set_pins-2.new.heap stack
    (take c.follow_all-found.result c.follow_all-found.new.dead.words)
    (take c.follow_all-found.result c.sort_front.new.words.words) c.set_pins-2.ensures.heap c.set_pins-2.ensures.pins
    c.follow_all-found.ensures.reaped.found c.sort_front.ensures.same outside
    (c.follow_all-found.ensures.reapable stack outside
    (c.take_entries-entries.ensures.reapable stack [] outside
    (start-reapable c.args.heap.now c.set_pins.new.heap stack c.set_pins.ensures.heap c.set_pins.ensures.pins
    c.requires.unpinned outside right)))

pub returns-clause-apart : goal.returns-clause-apart
returns-clause-apart g c =
    end-apart c.follow_all-found.new.heap c.set_pins-2.new.heap c.args.stack.now.words
    (take c.follow_all-found.result c.follow_all-found.new.dead.words)
    (take c.follow_all-found.result c.sort_front.new.words.words) c.set_pins-2.ensures.heap c.set_pins-2.ensures.pins
    c.follow_all-found.ensures.reaped.found c.sort_front.ensures.same

pub returns-clause-dead : goal.returns-clause-dead
returns-clause-dead g c =
    filled-again c.args.dead.now c.follow_all-found.new.dead c.sort_front.new.words c.follow_all-found.result
    (filled-both c.args.dead.now c.take_entries-entries.new.dead c.follow_all-found.new.dead 0
    c.take_entries-entries.result c.follow_all-found.result c.take_entries-entries.ensures.filled
    c.follow_all-found.ensures.filled)
    c.sort_front.ensures.filled

pub returns-clause-heap : goal.returns-clause-heap
returns-clause-heap g c =
    recounted-both c.args.heap.now c.set_pins.new.heap c.set_pins-2.new.heap c.set_pins.ensures.heap
    (recounted-both c.set_pins.new.heap c.take_entries-entries.new.heap c.set_pins-2.new.heap
    c.take_entries-entries.ensures.heap
    (recounted-both c.take_entries-entries.new.heap c.follow_all-found.new.heap c.set_pins-2.new.heap
    c.follow_all-found.ensures.heap c.set_pins-2.ensures.heap))

pub returns-clause-unpinned : goal.returns-clause-unpinned
returns-clause-unpinned g c =
    let stack = c.args.stack.now.words in
    let outside = c.requires.counted in
    let are = c.follow_all-found.ensures.reapable stack outside.0
    (c.take_entries-entries.ensures.reapable stack [] outside.0
    (start-reapable c.args.heap.now c.set_pins.new.heap stack c.set_pins.ensures.heap c.set_pins.ensures.pins
    c.requires.unpinned outside.0 outside.1)) in
    none-pinned c.follow_all-found.new.count c.set_pins-2.new.heap c.follow_all-found.new.heap.objects stack
    c.set_pins-2.ensures.heap.objects c.set_pins-2.ensures.right are.pins c.set_pins-2.ensures.pins

pub returns-clause-cost : goal.returns-clause-cost
returns-clause-cost g c =
    let old = views_of c.args.heap.now.objects in
    let n = c.follow_all-found.result in
    let before = take n c.follow_all-found.new.dead.words in
    let views = c.take_entries-entries.ensures.heap.views ∙ c.set_pins.ensures.heap.views in
    let own = ap (λ (vs : ObjectsByBase). counted_slots_of vs before) views in
    let same : counted_slots_of old (take n c.sort_front.new.words.words) ≡ counted_slots_of old before =
    sum_by-IsPermutation (counted_slots_at old) before (take n c.sort_front.new.words.words)
    c.sort_front.ensures.same in
    let pins = c.set_pins.ensures.cost in
    let entries = c.take_entries-entries.ensures.cost in
    let found = c.follow_all-found.ensures.cost in
    let unpins = c.set_pins-2.ensures.cost in
    let some = c.take_entries-entries.ensures.few in
    let few = c.follow_all-found.ensures.few in
    omega arith

pub returns-clause-table : goal.returns-clause-table
returns-clause-table g c =
    same-table c.args.count.now c.take_entries-entries.new.count c.follow_all-found.new.count
    c.take_entries-entries.ensures.table c.follow_all-found.ensures.table
