use Rattle.std.proofs.Common.{codes, refl}
use Rattle.mmgc.specs.Added.{No_object}
use Rattle.mmgc.proofs.answer.write_why.Goals as goal

pub returns-in-None-clause-written : goal.returns-in-None-clause-written
returns-in-None-clause-written g c =
    record { text = codes "no object\n"; is = No_object c.in-None.ensures refl; written = c.text.ensures.written }
