use Rattle.std.proofs.Common.{sym, ap, subst}
use Rattle.mm_object.specs.Object.{views_of}
use Rattle.mm_object.specs.Heap.{Heap}
use Rattle.mm_gc.specs.Counts.{HasCounts}
use Rattle.mm_gc.specs.Stores.{IsStored}
use Rattle.mm_gc.proofs.Writing.Written.{plain-counts, plain-stored}
use Rattle.mm_gc.proofs.slots.write_uncounted.Goals as goal

pub returns-clause-answer : goal.returns-clause-answer
returns-clause-answer g c = λ view seen shows there.
    let slot = c.requires.slot in
    subst
    (λ (h : Heap). IsStored view
    (record { holder = record { base = c.args.base; value = seen }; slot = c.args.s; word = c.args.word })
    (views_of h.objects) c.looseness-answer.result)
    (sym (c.set_slot.ensures.slot slot.object slot.begins))
    (plain-stored c.args.heap.now c.args.base c.args.s c.args.word slot.object slot.begins slot.within
    (c.requires.plain slot.object slot.begins) c.looseness-answer.result c.looseness-answer.ensures.loose view seen
    shows there)

pub returns-clause-counts : goal.returns-clause-counts
returns-clause-counts g c = λ table outside counts.
    let slot = c.requires.slot in
    subst (λ (h : Heap). HasCounts table h outside) (sym (c.set_slot.ensures.slot slot.object slot.begins))
    (plain-counts c.args.heap.now c.args.base c.args.s c.args.word slot.object slot.begins slot.within
    (c.requires.plain slot.object slot.begins) table outside counts)

pub returns-clause-rest : goal.returns-clause-rest
returns-clause-rest g c =
    let slot = c.requires.slot in
    ap (λ (h : Heap). record h { objects = c.set_slot.new.self.objects })
    (c.set_slot.ensures.slot slot.object slot.begins)
