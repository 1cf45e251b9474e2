use Rattle.std.proofs.Common.{◌<◌, [], ◌∷◌, take, refl, sym, ap, ◌∙◌, subst, arith}
use Rattle.std.proofs.lemmas.List.{take_all}
use Rattle.mm_model.specs.Views.ObjectView.{counted_words_of}
use Rattle.mm_object.specs.Object.{view_of_stored}
use Rattle.mm_model.specs.declared.object.Shape.{Shape}
use Rattle.mm_count.specs.Counts.{NamesCounted, HasReference}
use Rattle.mm_count.specs.Kept.{AreLowered}
use Rattle.mm_count.proofs.Stores.Lowering.{lowered-none, lowered-then, length-words, words-more, word, slot-now}
use Rattle.mm_count.proofs.Stores.Lowering.{word-now}
use Rattle.mm_count.proofs.Stores.Lowering.{named-now, reference-now, apart-lowered}
use Rattle.mm_count.proofs.Tables.{same-table, front-same, front-then}
use Rattle.mm_count.proofs.table.ZeroTable.lower_slots.Goals as goal

pub loop-s-init : goal.loop-s-init
loop-s-init g c = record {
  lowered = λ object begins. lowered-none c.args.heap.now;
  table = refl;
  front = front-same c.args.self.now.entries;
  right = c.requires.right;
  sound = c.shape-shape.ensures.sound;
  ticked = omega arith;
}

pub lower_slot-requires-clause-slot : goal.lower_slot-requires-clause-slot
lower_slot-requires-clause-slot g c =
    let o = c.requires.object in
    let counted = ap (λ (shape : Shape). shape.counted) (c.shape-shape.ensures.shape o.0 o.1) in
    slot-now c.args.heap.now c.loop-s.heap c.args.base o.0 o.1 c.shape-shape.ensures.sound c.loop-s.s (omega arith)
    (c.loop-s.invariant.lowered o.0 o.1)

pub lower_slot-requires-clause-named : goal.lower_slot-requires-clause-named
lower_slot-requires-clause-named g c = λ object begins.
    let o = c.requires.object in
    let counted = ap (λ (shape : Shape). shape.counted) (c.shape-shape.ensures.shape o.0 o.1) in
    let below : c.loop-s.s < o.0.counted = omega arith in
    let lowers = c.loop-s.invariant.lowered o.0 o.1 in
    let sound = c.shape-shape.ensures.sound in
    subst (NamesCounted c.loop-s.heap.objects)
    (sym (word-now c.args.heap.now c.loop-s.heap c.args.base o.0 o.1 sound c.loop-s.s below lowers object begins))
    (named-now c.args.heap.now c.loop-s.heap c.args.base o.0 o.1 sound c.loop-s.s below lowers c.requires.tight)

pub lower_slot-requires-clause-some : goal.lower_slot-requires-clause-some
lower_slot-requires-clause-some g c = λ object begins some.
    let o = c.requires.object in
    let counted = ap (λ (shape : Shape). shape.counted) (c.shape-shape.ensures.shape o.0 o.1) in
    let below : c.loop-s.s < o.0.counted = omega arith in
    let lowers = c.loop-s.invariant.lowered o.0 o.1 in
    let sound = c.shape-shape.ensures.sound in
    let same = word-now c.args.heap.now c.loop-s.heap c.args.base o.0 o.1 sound c.loop-s.s below lowers object begins in
    let can = c.requires.counted in
    subst (HasReference c.loop-s.heap.objects) (sym same)
    (reference-now c.args.heap.now c.loop-s.heap c.args.base o.0 o.1 sound c.loop-s.s below lowers can.dropped
    can.outside can.out can.apart c.requires.tight (λ e. some (same ∙ e)))

pub loop-s-preserved : goal.loop-s-preserved
loop-s-preserved g c = record {
  lowered = λ object begins.
      let counted = ap (λ (shape : Shape). shape.counted) (c.shape-shape.ensures.shape object begins) in
      let below : c.loop-s.s < object.counted = omega arith in
      let lowers = c.loop-s.invariant.lowered object begins in
      let sound = c.shape-shape.ensures.sound in
      let k = lowers.objects.to c.args.base object begins in
      let now = record object { composite = k.0 } in
      let w = word c.args.heap.now c.loop-s.heap c.args.base object begins sound c.loop-s.s below in
      subst (AreLowered c.args.heap.now c.lower_slot.new.heap)
      (sym (words-more c.args.heap.now c.loop-s.heap c.args.base object begins sound c.loop-s.s below))
      (lowered-then c.args.heap.now c.loop-s.heap c.lower_slot.new.heap
      (take c.loop-s.s (counted_words_of (view_of_stored object))) (w ∷ []) lowers
      (c.lower_slot.ensures.lowered now k.1));
  table = same-table c.args.self.now c.loop-s.self c.lower_slot.new.self c.loop-s.invariant.table
      c.lower_slot.ensures.table;
  front = front-then c.args.self.now.entries c.loop-s.self.entries c.lower_slot.new.self.entries
      c.loop-s.invariant.front c.lower_slot.ensures.front;
  right = c.lower_slot.ensures.right;
  sound = c.lower_slot.ensures.sound;
  ticked = omega arith;
}

pub returns-clause-counts : goal.returns-clause-counts
returns-clause-counts g c = λ dropped outside out apart.
    let o = c.requires.object in
    let counted = ap (λ (shape : Shape). shape.counted) (c.shape-shape.ensures.shape o.0 o.1) in
    let size = length-words c.args.heap.now c.loop-s.heap c.args.base o.0 o.1 c.shape-shape.ensures.sound in
    let lowers = subst (AreLowered c.args.heap.now c.loop-s.heap)
    (take_all c.loop-s.s (counted_words_of (view_of_stored o.0)) (omega arith)) (c.loop-s.invariant.lowered o.0 o.1) in
    apart-lowered c.args.heap.now c.loop-s.heap c.args.base o.0 o.1 lowers dropped outside out apart

pub returns-clause-objects : goal.returns-clause-objects
returns-clause-objects g c = (c.loop-s.invariant.lowered c.requires.object.0 c.requires.object.1).objects

pub returns-clause-rest : goal.returns-clause-rest
returns-clause-rest g c = (c.loop-s.invariant.lowered c.requires.object.0 c.requires.object.1).rest

pub returns-clause-views : goal.returns-clause-views
returns-clause-views g c = (c.loop-s.invariant.lowered c.requires.object.0 c.requires.object.1).views

pub returns-clause-pins : goal.returns-clause-pins
returns-clause-pins g c = (c.loop-s.invariant.lowered c.requires.object.0 c.requires.object.1).pins

pub returns-clause-listed : goal.returns-clause-listed
returns-clause-listed g c = λ object begins.
    let counted = ap (λ (shape : Shape). shape.counted) (c.shape-shape.ensures.shape object begins) in
    let size = length-words c.args.heap.now c.loop-s.heap c.args.base object begins c.shape-shape.ensures.sound in
    (subst (AreLowered c.args.heap.now c.loop-s.heap)
    (take_all c.loop-s.s (counted_words_of (view_of_stored object)) (omega arith))
    (c.loop-s.invariant.lowered object begins)).entered

pub returns-clause-cost : goal.returns-clause-cost
returns-clause-cost g c = λ object begins.
    let counted = ap (λ (shape : Shape). shape.counted) (c.shape-shape.ensures.shape object begins) in
    let size = length-words c.args.heap.now c.loop-s.heap c.args.base object begins c.shape-shape.ensures.sound in
    let ticked = c.loop-s.invariant.ticked in
    omega arith
