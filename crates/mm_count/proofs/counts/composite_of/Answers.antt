use Rattle.std.proofs.Common.{ap, ◌∙◌}
use Rattle.mm_count.specs.Composite.{composite_in}
use Rattle.mm_count.proofs.counts.composite_of.Goals as goal

pub returns-clause-says : goal.returns-clause-says
returns-clause-says g c = λ object begins.
    c.of.ensures.says ∙ ap composite_in (c.composite.ensures.word object begins)
