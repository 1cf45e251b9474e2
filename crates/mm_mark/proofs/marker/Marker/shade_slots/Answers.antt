use Rattle.std.proofs.Common.{◌≡◌, ℕ, ◌+◌, ◌-◌, ◌<◌, ◌≤◌, List, take, drop, length, refl, sym, ap, subst, ◌∙◌, arith}
use Rattle.std.specs.Prelude.{◌++◌, [], ◌∷◌}
use Rattle.mm_model.specs.Views.ObjectView.{scanned_words_of}
use Rattle.mm_object.specs.Object.{view_of_stored}
use Rattle.mm_mark.specs.Colours.{IsGrayed}
use Rattle.mm_mark.proofs.Told.{stored-viewed}
use Rattle.mm_mark.proofs.Grayed.{nothing-grayed, grayed-then, queue-then}
use Rattle.mm_mark.proofs.Advancing.{slot-there, slot-read, take-next-slot, colour-seen}
use Rattle.mm_mark.proofs.marker.Marker.shade_slots.Goals as goal

pub loop-s-init : goal.loop-s-init
loop-s-init g c =
    let none : c.args.from.slots_done - c.args.from.slots_done ≡ 0 = omega arith in
    record {
      grayed = λ object begins.
          subst (λ (n : ℕ). IsGrayed c.args.heap.now c.args.heap.now
          (take n (drop c.args.from.slots_done (scanned_words_of object))))
          (sym none) (nothing-grayed c.args.heap.now);
      cycle = refl;
      known = c.requires.known;
      sound = λ sound. sound;
      few = λ stale h. h;
      ticked = omega arith;
    }

pub slot_word-word-requires : goal.slot_word-word-requires
slot_word-word-requires g c =
    let object = view_of_stored c.requires.gray.object in
    let begins = stored-viewed c.args.heap.now.objects c.args.from.base c.requires.gray.object c.requires.gray.begins in
    let within = c.requires.within object begins in
    slot-there c.args.heap.now c.loop-s.heap _ c.args.from.base c.loop-s.s object begins c.requires.gray.is
    (c.loop-s.invariant.grayed object begins) (omega arith)

pub loop-s-preserved : goal.loop-s-preserved
loop-s-preserved g c = record {
  grayed = λ object begins.
      let within = c.requires.within object begins in
      let begun : c.args.from.slots_done ≤ c.loop-s.s = omega arith in
      let below : c.loop-s.s < length (scanned_words_of object) = omega arith in
      let gray = colour-seen c.args.heap.now c.args.from.base _ c.requires.gray object begins in
      let read = slot-read c.args.heap.now c.loop-s.heap _ c.args.from.base c.loop-s.s c.slot_word-word.result object
      begins gray
      (c.loop-s.invariant.grayed object begins) below c.slot_word-word.ensures.word in
      let words : take (c.loop-s.s - c.args.from.slots_done) (drop c.args.from.slots_done (scanned_words_of object))
      ++ (c.slot_word-word.result ∷ [])
      ≡ take (c.loop-s.s + 1 - c.args.from.slots_done) (drop c.args.from.slots_done (scanned_words_of object)) =
      ap (λ (w : ℕ). take (c.loop-s.s - c.args.from.slots_done)
      (drop c.args.from.slots_done (scanned_words_of object)) ++ (w ∷ [])) read
      ∙ sym (take-next-slot (scanned_words_of object) c.args.from.slots_done c.loop-s.s begun below) in
      subst (λ (ws : List ℕ). IsGrayed c.args.heap.now c.shade.new.heap ws) words
      (grayed-then c.args.heap.now c.loop-s.heap c.shade.new.heap _ _ (c.loop-s.invariant.grayed object begins)
      c.shade.ensures.grayed);
  cycle = queue-then c.args.self.now c.loop-s.self c.shade.new.self c.loop-s.invariant.cycle c.shade.ensures.cycle;
  known = c.shade.ensures.known;
  sound = λ sound. c.shade.ensures.sound;
  few = λ stale h. c.shade.ensures.few stale (c.loop-s.invariant.few stale h);
  ticked = omega (arith, c.shade.ensures.cost, c.slot_word-word.ensures.cost, c.loop-s.invariant.ticked);
}

pub returns-clause-grayed : goal.returns-clause-grayed
returns-clause-grayed g c = λ object begins.
    let whole : c.loop-s.s - c.args.from.slots_done ≡ c.args.end - c.args.from.slots_done = omega arith in
    subst (λ (n : ℕ). IsGrayed c.args.heap.now c.loop-s.heap (take n
    (drop c.args.from.slots_done (scanned_words_of object))))
    whole (c.loop-s.invariant.grayed object begins)
