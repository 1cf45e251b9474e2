use Rattle.std.proofs.Common.{◌≡◌, ℕ, ◌+◌, List, take, subst, ◌∙◌, arith}
use Rattle.std.specs.Prelude.{slice_index_or}
use Rattle.std.proofs.lemmas.List.{take_all}
use Rattle.mm_reap.specs.Pins.{ArePinned}
use Rattle.mm_reap.proofs.Pinned.{pinned-start, pinned-more, pinned-reverse, names-more}
use Rattle.mm_reap.proofs.Recounted.{recounted-same, recounted-both}
use Rattle.mm_reap.proofs.pins.set_pins.Goals as goal

pub loop-word-init : goal.loop-word-init
loop-word-init g c = record {
  pins = pinned-start c.args.heap.now.objects c.args.pinned;
  heap = recounted-same c.args.heap.now;
  right = c.requires.right;
  sound = c.requires.sound;
  cost = omega arith;
}

pub loop-word-preserved : goal.loop-word-preserved
loop-word-preserved g c = record {
  pins = pinned-more c.args.heap.now.objects c.loop-word.heap.objects c.set_pin_in.new.heap.objects
      c.loop-word.invariant.heap.objects (take c.loop-word.word-index c.words-word-items.result.now)
      (take (c.loop-word.word-index + 1) c.words-word-items.result.now)
      (slice_index_or c.words-word-items.result.now c.loop-word.word-index 0) c.args.pinned
      (names-more c.words-word-items.result.now c.loop-word.word-index c.loop-word-test.true)
      c.loop-word.invariant.pins c.set_pin_in.ensures.pins;
  heap = recounted-both c.args.heap.now c.loop-word.heap c.set_pin_in.new.heap
      c.loop-word.invariant.heap c.set_pin_in.ensures.heap;
  right = c.set_pin_in.ensures.right;
  sound = c.set_pin_in.ensures.sound;
  cost = omega (arith, c.set_pin_in.ensures.cost, c.loop-word.invariant.cost);
}

pub returns-clause-pins : goal.returns-clause-pins
returns-clause-pins g c =
    let words = c.words-word-items.result.now in
    let objects = c.loop-word.heap.objects in
    let all : take c.loop-word.word-index words ≡ words =
    take_all c.loop-word.word-index words c.loop-word-test.false in
    pinned-reverse c.args.heap.now.objects objects c.args.stack.now.words c.args.pinned
    (subst (λ (ws : List ℕ). ArePinned c.args.heap.now.objects objects ws c.args.pinned)
    (all ∙ c.words-word-items.ensures.words) c.loop-word.invariant.pins)
