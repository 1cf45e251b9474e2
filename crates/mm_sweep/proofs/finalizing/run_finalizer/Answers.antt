use Rattle.std.proofs.Common.{ℕ, List, [], ◌∷◌, length, sym, ap, subst, ◌∙◌, arith}
use Rattle.mm_sweep.specs.Told.{Told, Finalize}
use Rattle.mm_sweep.proofs.Finals.{final_told-true, final_told-false, final_slots-true, final_slots-false}
use Rattle.mm_sweep.proofs.finalizing.run_finalizer.Goals as goal

pub finalize-requires : goal.finalize-requires
finalize-requires g c =
    let o = c.requires.object in
    let few = (c.slots.ensures.sound.shape c.args.base o.0 o.1).slots in
    let same = ap length (c.slots.ensures.words o.0 o.1) in
    omega arith

pub returns-then-has_finalizer-clause-told : goal.returns-then-has_finalizer-clause-told
returns-then-has_finalizer-clause-told g c =
    let o = c.requires.object in
    let flag = sym (c.has_finalizer.ensures.flag o.0 o.1) ∙ c.if-has_finalizer.true in
    subst
    (λ (told : List Told). g.J.Finalizer.tells c.args.journal.now c.finalize.new.self told)
    (ap (λ (words : List ℕ). Finalize c.args.base words ∷ []) (c.slots.ensures.words o.0 o.1)
    ∙ sym (final_told-true c.args.heap.now.objects c.args.base o.0 o.1 flag))
    c.finalize.ensures

pub returns-then-has_finalizer-clause-cost : goal.returns-then-has_finalizer-clause-cost
returns-then-has_finalizer-clause-cost g c =
    let o = c.requires.object in
    let flag = sym (c.has_finalizer.ensures.flag o.0 o.1) ∙ c.if-has_finalizer.true in
    let same = ap length (c.slots.ensures.words o.0 o.1) in
    let slots = final_slots-true c.args.heap.now.objects c.args.base o.0 o.1 flag in
    omega (arith, c.slots.ensures.cost, c.has_finalizer.ensures.cost)

pub returns-else-has_finalizer-clause-told : goal.returns-else-has_finalizer-clause-told
returns-else-has_finalizer-clause-told g c =
    let o = c.requires.object in
    let flag = sym (c.has_finalizer.ensures.flag o.0 o.1) ∙ c.if-has_finalizer.false in
    subst
    (λ (told : List Told). g.J.Finalizer.tells c.args.journal.now c.args.journal.now told)
    (sym (final_told-false c.args.heap.now.objects c.args.base o.0 o.1 flag))
    (g.met.J.Finalizer.tells_nothing c.args.journal.now)

pub returns-else-has_finalizer-clause-cost : goal.returns-else-has_finalizer-clause-cost
returns-else-has_finalizer-clause-cost g c =
    let o = c.requires.object in
    let flag = sym (c.has_finalizer.ensures.flag o.0 o.1) ∙ c.if-has_finalizer.false in
    let none = final_slots-false c.args.heap.now.objects c.args.base o.0 o.1 flag in
    omega (arith, none, c.has_finalizer.ensures.cost)
