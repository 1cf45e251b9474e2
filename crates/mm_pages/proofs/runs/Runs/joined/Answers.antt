use Rattle.std.proofs.Common.{arith}
use Rattle.mm_pages.proofs.Joins.{Sums-join}
use Rattle.mm_pages.proofs.runs.Runs.joined.Goals as goal

pub returns : goal.returns
returns c = λ free s t. Sums-join free _ _ _ _ _ _ _ _ _ _ s t (omega arith) (omega arith) (omega arith)
    (grind arith)
    c.run_on.ensures.stays c.run_on.ensures.goes c.run_on-2.ensures.stays c.run_on-2.ensures.goes
