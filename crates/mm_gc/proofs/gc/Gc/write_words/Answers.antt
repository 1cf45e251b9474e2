use Rattle.std.proofs.Common.{◌≡◌, length, sym, subst}
use Rattle.mm_object.specs.Heap.{Heap, IsSound}
use Rattle.mm_gc.specs.BareWords.{WordsStore, IsBareAt, AreWritten}
use Rattle.mm_gc.specs.Gc.{Gc, view_of_gc}
use Rattle.mm_gc.specs.Inside.{gc_of}
use Rattle.mm_gc.specs.Kept.{KeepsGc}
use Rattle.mm_gc.proofs.BareWords.Heaps.{heap-with, are-written, keeps-with}
use Rattle.mm_gc.proofs.Keeping.Changed.{with_parts}
use Rattle.mm_gc.proofs.gc.Gc.write_words.Goals as goal

pub invariant_of-self : goal.invariant_of-self
invariant_of-self g c =
    let gc = gc_of c.self.inside in
    let base = c.in_ok-base.base in
    let at = subst (λ (gc : Gc). IsBareAt gc c.args.i c.args.s (length c.args.words.now) base) (sym c.self.view_is)
    c.in_ok-base.ensures.answer in
    let store : WordsStore = record { cell = c.args.i; slot = c.args.s; words = c.args.words.now } in
    let is : c.write_slots.new.heap ≡ heap-with gc store base at =
    c.write_slots.ensures.written at.slots.object at.slots.begins in
    subst (λ (h : Heap). KeepsGc (with_parts gc h gc.table gc.marker)) (sym is)
    (keeps-with gc store base at c.self.invariant (subst IsSound is c.write_slots.ensures.sound))

pub returns-clause-written : goal.returns-clause-written
returns-clause-written g c =
    let gc = gc_of c.self.inside in
    let base = c.in_ok-base.base in
    let at = subst (λ (gc : Gc). IsBareAt gc c.args.i c.args.s (length c.args.words.now) base) (sym c.self.view_is)
    c.in_ok-base.ensures.answer in
    let store : WordsStore = record { cell = c.args.i; slot = c.args.s; words = c.args.words.now } in
    let is : c.write_slots.new.heap ≡ heap-with gc store base at =
    c.write_slots.ensures.written at.slots.object at.slots.begins in
    let after = with_parts gc c.write_slots.new.heap gc.table gc.marker in
    subst (λ (old : Gc). AreWritten (view_of_gc old) (view_of_gc after) store) c.self.view_is
    (subst (λ (h : Heap). AreWritten (view_of_gc gc) (view_of_gc (with_parts gc h gc.table gc.marker)) store) (sym is)
    (are-written gc store base at))
