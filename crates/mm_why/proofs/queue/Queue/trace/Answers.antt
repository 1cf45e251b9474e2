use Rattle.std.proofs.Common.{ℕ, reverse, subst}
use Rattle.mm_why.specs.Path.{IsPathOf}
use Rattle.mm_why.proofs.queue.Queue.trace.Goals as goal

pub returns-in-Some-clause-path : goal.returns-in-Some-clause-path
returns-in-Some-clause-path g c = λ shown reasons.
    subst (λ (b : ℕ). IsPathOf shown b c.in-Some.last.lead.length (reverse c.trace_back.new.path.items))
    c.in-Some.ensures.entry.at (c.trace_back.ensures.path shown reasons)
