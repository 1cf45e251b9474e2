use Rattle.std.proofs.Common.{ap, arith, sym, ◌∙◌}
use Rattle.mm_model.specs.declared.object.Shape.{Shape}
use Rattle.mmgc.proofs.Pacing.Walked.{work-scanned}
use Rattle.mmgc.proofs.work.work_at.Goals as goal

pub overflow_add-result : goal.overflow_add-result
overflow_add-result g c =
    let same = c.shape-shape.ensures.shape c.requires.0 c.requires.1 in
    let few = (c.shape-shape.ensures.sound.shape c.args.base c.requires.0 c.requires.1).slots in
    let slots = ap (λ (s : Shape). s.slots) same in
    omega (arith, few, slots)

pub returns-then-is_scanned-clause-work : goal.returns-then-is_scanned-clause-work
returns-then-is_scanned-clause-work g c object begins =
    work-scanned object c.shape-shape.result (c.shape-shape.ensures.shape object begins)
    (sym c.is_scanned.ensures ∙ c.if-is_scanned.true)

pub returns-then-is_scanned-clause-fits : goal.returns-then-is_scanned-clause-fits
returns-then-is_scanned-clause-fits g c object begins =
    let slots = ap (λ (s : Shape). s.slots) (c.shape-shape.ensures.shape object begins) in
    let room = c.shape-shape.ensures.sound.room c.args.base object begins in
    omega (arith, slots, room)

pub returns-else-is_scanned-clause-fits : goal.returns-else-is_scanned-clause-fits
returns-else-is_scanned-clause-fits g c object begins =
    let room = c.shape-shape.ensures.sound.room c.args.base object begins in
    omega (arith, room)
