use Rattle.std.proofs.Common.{arith}
use Rattle.mm_trace.proofs.Fronts.{four_bytes}
use Rattle.mm_trace.proofs.name.behind_four.Goals as goal

pub returns : goal.returns
returns c =
    four_bytes c.args.line.now c.args.front.now (omega arith) (omega arith)
    (λ i. omega (arith, c.type_inv.line i)) (λ i. omega (arith, c.fits-front i)) (cc)
