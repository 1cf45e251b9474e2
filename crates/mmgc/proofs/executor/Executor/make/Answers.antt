use Rattle.std.proofs.Common.{Some, refl, subst, sym}
use Rattle.mmgc.specs.Pacing.{IsFresh}
use Rattle.mmgc.proofs.executor.Executor.make.Goals as goal

pub returns-in-Some-default-clause-pace : goal.returns-in-Some-default-clause-pace
returns-in-Some-default-clause-pace c =
    subst (λ rate. IsFresh rate (Some c.make.result)) (sym c.in-Some-default.is-0)
    (c.make.result, refl, c.make.ensures.rate, c.make.ensures.since)
