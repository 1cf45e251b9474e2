use Rattle.mmgc.specs.Keeping.{keeps-trans}
use Rattle.mmgc.proofs.answer.write_length.Goals as goal

pub returns-clause-kept : goal.returns-clause-kept
returns-clause-kept g c = keeps-trans c.text.ensures.kept c.write_last.ensures.kept
