-- The lemma says it.
use Rattle.mm_sites.proofs.OneMore.{birth_sites-more}
use Rattle.mm_sites.proofs.laws.sites_of_births_come_one_after_another.Goals as goal

pub returns : goal.returns
returns c = birth_sites-more
