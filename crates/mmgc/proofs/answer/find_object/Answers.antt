use Rattle.std.proofs.Common.{subst}
use Rattle.mmgc.specs.Appending.{IsFoundIn}
use Rattle.mmgc.proofs.AddedLines.{found}
use Rattle.mmgc.proofs.answer.find_object.Goals as goal

pub returns : goal.returns
returns g c =
    subst (λ h. IsFoundIn h c.args.word c.find.result) c.heap.ensures.value
    (found c.heap.result.now c.args.word c.find.result c.find.ensures.base)
