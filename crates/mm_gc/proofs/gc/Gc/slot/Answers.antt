use Rattle.std.proofs.Common.{Ok, Err, subst}
use Rattle.mm_model.specs.declared.refusal.Refusal.TheVariants as refusals
use Rattle.mm_gc.specs.Describing.{SlotAnswer}
use Rattle.mm_gc.specs.Gc.{Gc, view_of_gc}
use Rattle.mm_gc.specs.Inside.{gc_of}
use Rattle.mm_gc.proofs.Readers.{slot-past, slot-found}
use Rattle.mm_gc.proofs.Meaning.{resolved_in-none}
use Rattle.mm_gc.proofs.gc.Gc.slot.Goals as goal

pub returns-then-found-s-clause-answer : goal.returns-then-found-s-clause-answer
returns-then-found-s-clause-answer g c =
    let e = c.in-Some.ensures.found in
    subst (λ (gc : Gc). SlotAnswer (view_of_gc gc) c.args.word c.args.s (Err refusals.NoSlot)) c.self.view_is
    (slot-past (gc_of c.self.inside) c.args.word c.self.invariant.shown c.in-Some.found e.0 e.1 e.2 c.args.s
    c.if-found-s.true)

pub returns-else-found-s-clause-answer : goal.returns-else-found-s-clause-answer
returns-else-found-s-clause-answer g c =
    let e = c.in-Some.ensures.found in
    subst (λ (gc : Gc). SlotAnswer (view_of_gc gc) c.args.word c.args.s (Ok c.slot_word.result)) c.self.view_is
    (slot-found (gc_of c.self.inside) c.args.word c.self.invariant.shown c.in-Some.found e.0 e.1 e.2 c.args.s
    c.slot_word.result c.if-found-s.false (c.slot_word.ensures.word e.0 e.1.begins))

pub returns-in-None-clause-answer : goal.returns-in-None-clause-answer
returns-in-None-clause-answer g c =
    subst (λ (gc : Gc). SlotAnswer (view_of_gc gc) c.args.word c.args.s (Err refusals.Nothing)) c.self.view_is
    (resolved_in-none (gc_of c.self.inside) c.args.word c.in-None.ensures.found)
