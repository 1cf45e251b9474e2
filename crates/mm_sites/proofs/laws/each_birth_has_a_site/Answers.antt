-- The lemma says it.
use Rattle.mm_sites.proofs.Parallel.{births_have_sites}
use Rattle.mm_sites.proofs.laws.each_birth_has_a_site.Goals as goal

pub returns : goal.returns
returns c = births_have_sites
