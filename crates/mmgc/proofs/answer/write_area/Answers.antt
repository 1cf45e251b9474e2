use Rattle.mmgc.specs.Keeping.{keeps-trans}
use Rattle.mmgc.proofs.answer.write_area.Goals as goal

pub returns-clause-kept : goal.returns-clause-kept
returns-clause-kept g c = keeps-trans c.write_named.ensures.kept c.write_number.ensures.kept
