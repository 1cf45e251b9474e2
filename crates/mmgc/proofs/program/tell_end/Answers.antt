use Rattle.mmgc.proofs.Telling.{told}
use Rattle.mmgc.proofs.program.tell_end.Goals as goal

pub returns : goal.returns
returns g c = told c.write_end.result c.write_end.ensures
