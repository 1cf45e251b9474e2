-- The lemma says it.
use Rattle.mm_sites.proofs.Parallel.{site_line-passed}
use Rattle.mm_sites.proofs.laws.lines_of_sites_are_passed_over.Goals as goal

pub returns : goal.returns
returns c = site_line-passed
