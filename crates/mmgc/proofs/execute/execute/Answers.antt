use Rattle.mmgc.specs.Keeping.{keeps-trans}
use Rattle.mmgc.proofs.Carrying.{carries_out}
use Rattle.mmgc.proofs.execute.execute.Goals as goal

pub returns-clause-carried : goal.returns-clause-carried
returns-clause-carried g c = carries_out c.execute-reply.ensures.step (λ told was. was.0) c.line.ensures.written

pub returns-clause-kept : goal.returns-clause-kept
returns-clause-kept g c = keeps-trans c.execute-reply.ensures.step.told.was.1 c.line.ensures.kept
