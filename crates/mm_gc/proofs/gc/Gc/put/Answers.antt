use Rattle.std.proofs.Common.{◌≡◌, ◌<◌, Some, Ok, refl, sym, subst, arith}
use Rattle.std.specs.Prelude.{slice_get}
use Rattle.std.proofs.lemmas.Result.{err_from_is_err_and}
use Rattle.mm_model.specs.declared.command.Command.TheVariants as commands
use Rattle.mm_model.specs.declared.refusal.Refusal.TheVariants as refusals
use Rattle.mm_model.specs.declared.reply.Reply.TheVariants as replies
use Rattle.mm_model.specs.Views.ViewWords.{outside_references}
use Rattle.mm_object.specs.Object.{view_of_stored}
use Rattle.mm_object.specs.Heap.{Heap}
use Rattle.mm_count.specs.Table.{Table}
use Rattle.mm_gc.specs.Gc.{Gc, view_of_gc}
use Rattle.mm_gc.specs.Kept.{KeepsGc}
use Rattle.mm_gc.specs.Inside.{gc_of}
use Rattle.mm_gc.specs.Refused.{IsMeant}
use Rattle.mm_gc.specs.Replies.{put_reply}
use Rattle.mm_gc.specs.Rows.{Answers}
use Rattle.mm_gc.proofs.Keeping.Changed.{with_parts}
use Rattle.mm_gc.proofs.Keeping.KeptParts.{counts-kept}
use Rattle.mm_gc.proofs.Meaning.{unmeant-answers}
use Rattle.mm_gc.proofs.Pushing.{no_cell-answers}
use Rattle.mm_gc.proofs.Writing.Putting.{counting-kept, put-out, put-not_counted, gray-stored, known-stored}
use Rattle.mm_gc.proofs.Writing.Putting.{slot-stored, holder-begins, put-answers, put-keeps}
use Rattle.mm_gc.proofs.Rows.Writing.{put-no_word, put-no_holder, put-nothing}
use Rattle.mm_gc.proofs.gc.Gc.put.Goals as goal

pub returns-in_err-word-clause-row : goal.returns-in_err-word-clause-row
returns-in_err-word-clause-row g c =
    let gc = c.args.self.now in
    let p = err_from_is_err_and c.from_residual.result c.from_residual.ensures.1 in
    rw (p.1, p.2)
    (no_cell-answers gc c.args.j (commands.Put c.args.i c.args.s c.args.j) c.in_err-word.field-0.0
    c.in_err-word.ensures.answer (put-no_word (view_of_gc gc) c.args.i c.args.s c.args.j))

pub returns-in_err-meant-clause-row : goal.returns-in_err-meant-clause-row
returns-in_err-meant-clause-row g c =
    let gc = c.args.self.now in
    let p = err_from_is_err_and c.from_residual-in_err-meant.result c.from_residual-in_err-meant.ensures.1 in
    rw (p.1, p.2)
    (unmeant-answers gc c.args.i (commands.Put c.args.i c.args.s c.args.j) c.in_err-meant.field-0.0
    c.in_err-meant.ensures.answer (put-no_holder (view_of_gc gc) c.args.i c.args.s c.args.j)
    (λ nothing. put-nothing (view_of_gc gc) c.args.i c.args.s c.args.j c.in_ok-word.word nothing
    c.in_ok-word.ensures.answer))

pub returns-then-meant-s-clause-row : goal.returns-then-meant-s-clause-row
returns-then-meant-s-clause-row g c =
    let gc = gc_of c.self.inside in
    let found = c.in_ok-meant.meant.found in
    let meant = subst (λ (gc : Gc). IsMeant gc c.args.i c.in_ok-meant.meant.word found) (sym c.self.view_is)
    c.in_ok-meant.ensures.answer in
    let cell = subst (λ (gc : Gc). slice_get gc.stack.words c.args.j ≡ Some c.in_ok-word.word) (sym c.self.view_is)
    c.in_ok-word.ensures.answer in
    subst (λ (gc : Gc). Answers gc gc (commands.Put c.args.i c.args.s c.args.j)
    (replies.Refused refusals.NoSlot)) c.self.view_is
    (put-out gc c.self.invariant c.args.i c.args.s c.args.j c.in_ok-meant.meant.word c.in_ok-word.word found meant
    cell (omega (arith, c.if-meant-s.true)))

pub write_slot-requires-clause-counting : goal.write_slot-requires-clause-counting
write_slot-requires-clause-counting g c = counting-kept (gc_of c.self.inside) c.self.invariant

pub returns-in_err-answer-clause-row : goal.returns-in_err-answer-clause-row
returns-in_err-answer-clause-row g c =
    let gc = gc_of c.self.inside in
    let found = c.in_ok-meant.meant.found in
    let meant = subst (λ (gc : Gc). IsMeant gc c.args.i c.in_ok-meant.meant.word found) (sym c.self.view_is)
    c.in_ok-meant.ensures.answer in
    let cell = subst (λ (gc : Gc). slice_get gc.stack.words c.args.j ≡ Some c.in_ok-word.word) (sym c.self.view_is)
    c.in_ok-word.ensures.answer in
    let p = err_from_is_err_and c.from_residual-in_err-answer.result c.from_residual-in_err-answer.ensures.1 in
    let refused = c.in_err-answer.ensures.answer (view_of_gc gc) (view_of_stored meant.object) refl
    (holder-begins gc c.self.invariant c.args.i c.args.s c.args.j c.in_ok-meant.meant.word
    c.in_ok-word.word found meant cell) c.self.invariant.counts.counted in
    rw (p.1, p.2)
    (subst (λ (old : Gc). Answers old (with_parts gc c.write_slot.new.heap c.write_slot.new.count gc.marker)
    (commands.Put c.args.i c.args.s c.args.j) (replies.Refused c.in_err-answer.field-0.0)) c.self.view_is
    (put-not_counted gc c.self.invariant c.args.i c.args.s c.args.j c.in_ok-meant.meant.word
    c.in_ok-word.word found meant cell (omega (arith, c.if-meant-s.false))
    c.write_slot.new.heap c.write_slot.new.count c.in_err-answer.field-0.0 c.in_err-answer.ensures.same_heap
    c.in_err-answer.ensures.same_table refused))

pub invariant_of-self : goal.invariant_of-self
invariant_of-self g c =
    let gc = gc_of c.self.inside in
    subst (λ (h : Heap). KeepsGc (with_parts gc h c.write_slot.new.count gc.marker))
    (sym c.in_err-answer.ensures.same_heap)
    (subst (λ (t : Table). KeepsGc (with_parts gc gc.region.heap t gc.marker))
    (sym c.in_err-answer.ensures.same_table) c.self.invariant)

pub tell_marking-requires-clause-slot : goal.tell_marking-requires-clause-slot
tell_marking-requires-clause-slot g c =
    let gc = gc_of c.self.inside in
    let found = c.in_ok-meant.meant.found in
    let meant = subst (λ (gc : Gc). IsMeant gc c.args.i c.in_ok-meant.meant.word found) (sym c.self.view_is)
    c.in_ok-meant.ensures.answer in
    let cell = subst (λ (gc : Gc). slice_get gc.stack.words c.args.j ≡ Some c.in_ok-word.word) (sym c.self.view_is)
    c.in_ok-word.ensures.answer in
    let inside : c.args.s < found.shape.slots = omega (arith, c.if-meant-s.false) in
    let stored = c.in_ok-answer.ensures.answer (view_of_gc gc) (view_of_stored meant.object) refl
    (holder-begins gc c.self.invariant c.args.i c.args.s c.args.j c.in_ok-meant.meant.word
    c.in_ok-word.word found meant cell) c.self.invariant.counts.counted in
    slot-stored gc c.self.invariant c.args.i c.args.s c.args.j c.in_ok-meant.meant.word
    c.in_ok-word.word found meant cell inside c.write_slot.new.heap c.in_ok-answer.answer stored
    c.in_ok-answer.ensures.rest

pub tell_marking-requires-clause-keeps : goal.tell_marking-requires-clause-keeps
tell_marking-requires-clause-keeps g c =
    let gc = gc_of c.self.inside in
    let found = c.in_ok-meant.meant.found in
    let meant = subst (λ (gc : Gc). IsMeant gc c.args.i c.in_ok-meant.meant.word found) (sym c.self.view_is)
    c.in_ok-meant.ensures.answer in
    let cell = subst (λ (gc : Gc). slice_get gc.stack.words c.args.j ≡ Some c.in_ok-word.word) (sym c.self.view_is)
    c.in_ok-word.ensures.answer in
    let inside : c.args.s < found.shape.slots = omega (arith, c.if-meant-s.false) in
    let stored = c.in_ok-answer.ensures.answer (view_of_gc gc) (view_of_stored meant.object) refl
    (holder-begins gc c.self.invariant c.args.i c.args.s c.args.j c.in_ok-meant.meant.word
    c.in_ok-word.word found meant cell) c.self.invariant.counts.counted in
    gray-stored gc c.self.invariant c.args.i c.args.s c.args.j c.in_ok-meant.meant.word
    c.in_ok-word.word found meant cell inside c.write_slot.new.heap c.in_ok-answer.answer stored
    c.in_ok-answer.ensures.rest

pub invariant_of-self-2 : goal.invariant_of-self-2
invariant_of-self-2 g c =
    let gc = gc_of c.self.inside in
    let found = c.in_ok-meant.meant.found in
    let meant = subst (λ (gc : Gc). IsMeant gc c.args.i c.in_ok-meant.meant.word found) (sym c.self.view_is)
    c.in_ok-meant.ensures.answer in
    let cell = subst (λ (gc : Gc). slice_get gc.stack.words c.args.j ≡ Some c.in_ok-word.word) (sym c.self.view_is)
    c.in_ok-word.ensures.answer in
    let inside : c.args.s < found.shape.slots = omega (arith, c.if-meant-s.false) in
    let stored = c.in_ok-answer.ensures.answer (view_of_gc gc) (view_of_stored meant.object) refl
    (holder-begins gc c.self.invariant c.args.i c.args.s c.args.j c.in_ok-meant.meant.word
    c.in_ok-word.word found meant cell) c.self.invariant.counts.counted in
    let outside = outside_references (view_of_gc gc) in
    put-keeps gc c.self.invariant c.args.i c.args.s c.args.j c.in_ok-meant.meant.word
    c.in_ok-word.word found meant cell inside c.write_slot.new.heap c.in_ok-answer.answer stored
    c.in_ok-answer.ensures.rest c.tell_marking.new.heap c.write_slot.new.count c.tell_marking.new.marker
    c.tell_marking.ensures.barred c.tell_marking.ensures.rest c.tell_marking.ensures.cycle c.in_ok-answer.ensures.table
    (c.tell_marking.ensures.sound c.in_ok-answer.ensures.sound)
    (c.tell_marking.ensures.counts c.write_slot.new.count outside
    (c.in_ok-answer.ensures.counts outside (counts-kept gc c.self.invariant)))
    (c.tell_marking.ensures.known
    (known-stored gc c.self.invariant c.args.i c.args.s c.args.j c.in_ok-meant.meant.word
    c.in_ok-word.word found meant cell inside c.write_slot.new.heap c.in_ok-answer.answer stored
    c.in_ok-answer.ensures.rest))
    c.tell_marking.ensures.few

pub returns-clause-row : goal.returns-clause-row
returns-clause-row g c =
    let gc = gc_of c.self.inside in
    let found = c.in_ok-meant.meant.found in
    let meant = subst (λ (gc : Gc). IsMeant gc c.args.i c.in_ok-meant.meant.word found) (sym c.self.view_is)
    c.in_ok-meant.ensures.answer in
    let cell = subst (λ (gc : Gc). slice_get gc.stack.words c.args.j ≡ Some c.in_ok-word.word) (sym c.self.view_is)
    c.in_ok-word.ensures.answer in
    let inside : c.args.s < found.shape.slots = omega (arith, c.if-meant-s.false) in
    let stored = c.in_ok-answer.ensures.answer (view_of_gc gc) (view_of_stored meant.object) refl
    (holder-begins gc c.self.invariant c.args.i c.args.s c.args.j c.in_ok-meant.meant.word
    c.in_ok-word.word found meant cell) c.self.invariant.counts.counted in
    subst (λ (old : Gc). Answers old
    (with_parts gc c.tell_marking.new.heap c.write_slot.new.count c.tell_marking.new.marker)
    (commands.Put c.args.i c.args.s c.args.j) (put_reply (Ok c.in_ok-answer.answer))) c.self.view_is
    (put-answers gc c.self.invariant c.args.i c.args.s c.args.j c.in_ok-meant.meant.word
    c.in_ok-word.word found meant cell inside c.write_slot.new.heap c.in_ok-answer.answer stored
    c.in_ok-answer.ensures.rest c.tell_marking.new.heap c.write_slot.new.count c.tell_marking.new.marker
    c.tell_marking.ensures.barred c.tell_marking.ensures.rest c.tell_marking.ensures.cycle)
