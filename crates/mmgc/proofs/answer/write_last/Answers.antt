use Rattle.mmgc.specs.Keeping.{keeps-trans}
use Rattle.mmgc.proofs.answer.write_last.Goals as goal

pub returns-clause-kept : goal.returns-clause-kept
returns-clause-kept g c = keeps-trans c.write_number.ensures.kept c.text.ensures.kept
