-- One place less, and then one more.
use Rattle.std.proofs.Common.{ap, ◌∙◌, arith}
use Rattle.mm_audit.specs.Counts.{one_more, one_less, recounted_at}
use Rattle.mm_audit.proofs.Recounts.{recounted-told}
use Rattle.mm_audit.proofs.counts.Counts.exchange.Goals as goal

pub returns-clause-moved : goal.returns-clause-moved
returns-clause-moved c =
    let old = c.requires.old in
    let new = c.requires.new in
    let room = c.lower.ensures.room in
    recounted-told one_more c.args.new c.lower.new.self c.raise.new.self new.aligned (omega (arith, new.inside))
    c.raise.ensures.counted c.raise.ensures.other
    ∙ ap (recounted_at one_more c.args.new)
    (recounted-told one_less c.args.old c.args.self.now c.lower.new.self old.aligned old.inside
    c.lower.ensures.counted c.lower.ensures.other)
