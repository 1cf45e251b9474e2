use Rattle.std.proofs.Common.{sym, ap, ◌∙◌}
use Rattle.mm_model.specs.Object.{is_counted}
use Rattle.mm_model.specs.declared.object.Shape.{Shape}
use Rattle.mm_reap.proofs.Pinned.{names-other}
use Rattle.mm_reap.proofs.pins.counted_in.Goals as goal

pub returns-else-is_counted-clause-base : goal.returns-else-is_counted-clause-base
returns-else-is_counted-clause-base g c =
    let found = c.in-Some.ensures.found in
    names-other c.args.heap.now c.look_up.ensures.sound c.args.word c.in-Some.found.base found.0 found.1
    (ap (λ (s : Shape). is_counted s.kind) (sym found.2) ∙ sym c.is_counted.ensures ∙ c.if-is_counted.false)

pub returns-then-is_counted-clause-base : goal.returns-then-is_counted-clause-base
returns-then-is_counted-clause-base g c =
    let found = c.in-Some.ensures.found in (
      found.0,
      found.1,
      ap (λ (s : Shape). is_counted s.kind) (sym found.2) ∙ sym c.is_counted.ensures ∙ c.if-is_counted.true,
    )

pub returns-in-None-clause-base : goal.returns-in-None-clause-base
returns-in-None-clause-base g c = λ base object covers counted. c.in-None.ensures.found base object covers
