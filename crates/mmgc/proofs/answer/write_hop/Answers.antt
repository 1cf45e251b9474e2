use Rattle.mmgc.specs.Keeping.{keeps-trans}
use Rattle.mmgc.proofs.answer.write_hop.Goals as goal

pub returns-clause-kept : goal.returns-clause-kept
returns-clause-kept g c = keeps-trans c.write_via.ensures.kept c.write_last.ensures.kept
