-- The lemma says it.
use Rattle.mm_sites.proofs.Living.{totals-living}
use Rattle.mm_sites.proofs.laws.totals_are_those_of_the_living.Goals as goal

pub returns : goal.returns
returns c = λ a sites entries site good beside entered. totals-living a good.placed sites beside entries entered site
