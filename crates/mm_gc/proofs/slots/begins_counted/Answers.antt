use Rattle.std.proofs.Common.{sym, ap, ◌∙◌}
use Rattle.mm_model.specs.declared.object.Shape.{Shape}
use Rattle.mm_model.specs.Object.{is_counted}
use Rattle.mm_gc.proofs.Writing.Tight.{begins_counted-at, begins_counted-inside, begins_counted-none}
use Rattle.mm_gc.proofs.slots.begins_counted.Goals as goal

pub returns-then-found-word-clause-answer : goal.returns-then-found-word-clause-answer
returns-then-found-word-clause-answer g c =
    let found = c.in-Some.ensures.found in
    c.is_counted.ensures ∙ ap (λ (shape : Shape). is_counted shape.kind) found.2
    ∙ sym (begins_counted-at c.args.heap.now c.in-Some.ensures.sound c.args.word c.in-Some.found.base found.0 found.1
    c.if-found-word.true)

pub returns-else-found-word-clause-answer : goal.returns-else-found-word-clause-answer
returns-else-found-word-clause-answer g c =
    let found = c.in-Some.ensures.found in
    begins_counted-inside c.args.heap.now c.in-Some.ensures.sound c.args.word c.in-Some.found.base found.0 found.1
    c.if-found-word.false

pub returns-in-None-clause-answer : goal.returns-in-None-clause-answer
returns-in-None-clause-answer g c =
    sym (begins_counted-none c.args.heap.now c.args.word c.in-None.ensures.found c.in-None.ensures.sound)
