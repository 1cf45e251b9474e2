-- The object was born, and then one of its words was written.
use Rattle.std.proofs.Common.{◌≡◌, false, length, Option, None, refl, ap, ◌∙◌, lit<, arith}
use Rattle.std.proofs.lemmas.List.{length-replicate}
use Rattle.mm_model.specs.declared.object.Colour.TheVariants.{White}
use Rattle.mm_model.specs.declared.object.Kind.TheVariants.{Traced}
use Rattle.mm_model.specs.Views.ObjectView.{ObjectView}
use Rattle.mm_audit.specs.Counts.{with_word}
use Rattle.mm_audit.specs.Objects.{newborn_of}
use Rattle.mm_audit.proofs.Grains.{entered-begins}
use Rattle.mm_audit.proofs.tests.a_slot_has_the_word_that_was_put_last.Goals as goal

abbrev newborn : ObjectView
newborn = newborn_of 32 (record { kind = Traced; finalize = false; counted = 1; slots = 4 }) White

abbrev empty : Option ObjectView
empty = None

pub put-requires : goal.put-requires
put-requires g c =
    let made = c.in_ok-objects.objects in
    let size : length made ≡ 512 = ap length c.in_ok-objects.ensures ∙ length-replicate 512 empty in
    let born = entered-begins c.bear.new.self made 4096 newborn c.bear.ensures.born refl (omega arith) in
    record { slot = record { object = newborn; begins = born; within = lit< tt } }

pub slot-requires : goal.slot-requires
slot-requires g c =
    let made = c.in_ok-objects.objects in
    let size : length made ≡ 512 = ap length c.in_ok-objects.ensures ∙ length-replicate 512 empty in
    let born = entered-begins c.bear.new.self made 4096 newborn c.bear.ensures.born refl (omega arith) in
    let more = c.bear.ensures.size in
    let written = entered-begins c.put.new.self c.bear.new.self 4096 (with_word 2 7 newborn)
    (c.put.ensures.written newborn born) refl (omega arith) in
    record { slot = record { object = with_word 2 7 newborn; begins = written; within = lit< tt } }

pub slots-requires : goal.slots-requires
slots-requires g c =
    let made = c.in_ok-objects.objects in
    let size : length made ≡ 512 = ap length c.in_ok-objects.ensures ∙ length-replicate 512 empty in
    let born = entered-begins c.bear.new.self made 4096 newborn c.bear.ensures.born refl (omega arith) in
    let more = c.bear.ensures.size in
    let written = entered-begins c.put.new.self c.bear.new.self 4096 (with_word 2 7 newborn)
    (c.put.ensures.written newborn born) refl (omega arith) in
    record { object = record { object = with_word 2 7 newborn; begins = written } }
