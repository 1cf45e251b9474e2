use Rattle.std.proofs.Common.{sym, ap, ◌∙◌}
use Rattle.mm_model.specs.declared.object.Shape.{Shape}
use Rattle.mm_model.specs.Object.{is_counted}
use Rattle.mm_gc.proofs.Writing.Tight.{falls_in_counted-covers, falls_in_counted-none}
use Rattle.mm_gc.proofs.slots.falls_in_counted.Goals as goal

pub returns-in-Some-clause-falls : goal.returns-in-Some-clause-falls
returns-in-Some-clause-falls g c =
    let found = c.in-Some.ensures.found in
    c.is_counted.ensures ∙ ap (λ (shape : Shape). is_counted shape.kind) found.2
    ∙ sym (falls_in_counted-covers c.args.heap.now c.in-Some.ensures.sound c.args.word c.in-Some.found.base found.0
    found.1)

pub returns-in-None-clause-falls : goal.returns-in-None-clause-falls
returns-in-None-clause-falls g c =
    sym (falls_in_counted-none c.args.heap.now c.args.word c.in-None.ensures.found)
