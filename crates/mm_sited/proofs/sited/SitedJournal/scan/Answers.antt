-- What is told frees nothing.
use Rattle.std.proofs.Common.{refl}
use Rattle.mm_sited.proofs.sited.SitedJournal.scan.Goals as goal

pub returns : goal.returns
returns g c = (refl, refl, c.scan.ensures, refl)
