use Rattle.std.proofs.Common.{◌≡◌, ℕ, ◌+◌, ◌-◌, min, List, take, drop, length, sym, ap, subst, ◌∙◌, arith}
use Rattle.mm_model.specs.Views.ByBase.{Begins}
use Rattle.mm_model.specs.Views.ObjectView.{ObjectsByBase, scanned_words_of}
use Rattle.mm_object.specs.Object.{view_of_stored, views_of}
use Rattle.mm_mark.specs.Marker.{Marker, marking, view_of_partly}
use Rattle.mm_mark.specs.Colours.{IsGrayed}
use Rattle.mm_mark.specs.Parts.{part_words}
use Rattle.mm_mark.proofs.Told.{stored-viewed, viewed-stored}
use Rattle.mm_mark.proofs.Advancing.{gray-stays, count-seen, colour-seen, part-words, length-part_words, ended-advanced}
use Rattle.mm_mark.proofs.marker.Marker.scan_from.Goals as goal

pub overflow_sub-count : goal.overflow_sub-count
overflow_sub-count g c =
    let object = view_of_stored c.requires.gray.object in
    let begins = stored-viewed c.args.heap.now.objects c.args.from.base c.requires.gray.object c.requires.gray.begins in
    let fits = c.requires.fits object begins in
    let count = c.scanned_count-count.ensures.count c.requires.gray.object c.requires.gray.begins in
    omega arith

pub shade_slots-requires-clause-within : goal.shade_slots-requires-clause-within
shade_slots-requires-clause-within g c = λ object begins.
    let fits = c.requires.fits object begins in
    let count = count-seen c.args.heap.now c.args.from.base c.scanned_count-count.result
    c.scanned_count-count.ensures.count object begins in
    let slots = c.part_slots-slots.ensures in
    omega arith

pub advance-requires-clause-object : goal.advance-requires-clause-object
advance-requires-clause-object g c =
    let object = view_of_stored c.requires.gray.object in
    let begins = stored-viewed c.args.heap.now.objects c.args.from.base c.requires.gray.object c.requires.gray.begins in
    let now : Begins (views_of c.shade_slots.new.heap.objects) c.args.from.base object =
    subst (λ (os : ObjectsByBase). Begins os c.args.from.base object)
    (sym (c.shade_slots.ensures.grayed object begins).grayed)
    (gray-stays _ (views_of c.args.heap.now.objects) c.args.from.base object begins c.requires.gray.is) in
    let stored = viewed-stored c.shade_slots.new.heap.objects c.args.from.base object now in
    (stored.object, stored.begins)

pub returns-clause-slots : goal.returns-clause-slots
returns-clause-slots g c = λ object begins.
    let count = count-seen c.args.heap.now c.args.from.base c.scanned_count-count.result
    c.scanned_count-count.ensures.count object begins in
    c.part_slots-slots.ensures ∙ ap (λ (n : ℕ). min 64 (n - c.args.from.slots_done)) count
    ∙ sym (length-part_words (view_of_partly c.args.from) object)

pub returns-clause-advanced : goal.returns-clause-advanced
returns-clause-advanced g c = λ object begins.
    let from = view_of_partly c.args.from in
    let fits = c.requires.fits object begins in
    let count = count-seen c.args.heap.now c.args.from.base c.scanned_count-count.result
    c.scanned_count-count.ensures.count object begins in
    let slots = c.part_slots-slots.ensures ∙ ap (λ (n : ℕ). min 64 (n - c.args.from.slots_done)) count in
    let size : c.part_slots-slots.result ≡ length (part_words from object) = slots
    ∙ sym (length-part_words from object) in
    let ends : c.args.from.slots_done + c.part_slots-slots.result -
    c.args.from.slots_done ≡ c.part_slots-slots.result = omega arith in
    let words = ap (λ (n : ℕ). take n (drop c.args.from.slots_done (scanned_words_of object))) ends
    ∙ part-words from object c.part_slots-slots.result slots in
    let grayed : IsGrayed c.args.heap.now c.shade_slots.new.heap (part_words from object) =
    subst (λ (ws : List ℕ). IsGrayed c.args.heap.now c.shade_slots.new.heap ws) words
    (c.shade_slots.ensures.grayed object begins) in
    ended-advanced (views_of c.args.heap.now.objects) from object
    (marking c.shade_slots.new.self c.shade_slots.new.heap)
    (marking c.advance.new.self c.advance.new.heap) (c.args.from.slots_done + c.part_slots-slots.result)
    c.scanned_count-count.result begins (colour-seen c.args.heap.now c.args.from.base _ c.requires.gray object begins)
    grayed.grayed (ap (λ (n : ℕ). c.args.from.slots_done + n) size) count (omega arith) c.advance.ensures.ended

pub returns-clause-rest : goal.returns-clause-rest
returns-clause-rest g c =
    let object = view_of_stored c.requires.gray.object in
    let begins = stored-viewed c.args.heap.now.objects c.args.from.base c.requires.gray.object c.requires.gray.begins in
    c.advance.ensures.rest ∙ (c.shade_slots.ensures.grayed object begins).rest

pub advance-requires-clause-own : goal.advance-requires-clause-own
advance-requires-clause-own g c = record {
  done = c.args.from.slots_done;
  is = ap (λ (m : Marker). m.partly) c.shade_slots.ensures.cycle ∙ c.requires.partly;
}

pub returns-clause-few : goal.returns-clause-few
returns-clause-few g c = λ stale h. c.advance.ensures.few stale (c.shade_slots.ensures.few stale h)
