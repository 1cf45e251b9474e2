use Rattle.mmgc.proofs.Telling.{told}
use Rattle.mmgc.proofs.program.tell.Goals as goal

pub returns : goal.returns
returns g c = told c.write_part.result c.write_part.ensures
