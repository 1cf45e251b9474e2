use Rattle.std.proofs.Common.{refl}
use Rattle.mmgc.proofs.Unhindered.{unhindered, never_rises}
use Rattle.mmgc.proofs.tests.faults.status_without_faults.Goals as goal

pub returns : goal.returns
returns c =
    c.run-status.ensures.complete
    (unhindered _ c.args.trace.items c.requires refl c.make-source.ensures.left never_rises
    never_rises)
