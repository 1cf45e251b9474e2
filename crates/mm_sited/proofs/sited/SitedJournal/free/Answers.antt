-- What is entered at the base of a freed object is taken away.
use Rattle.std.proofs.Common.{refl}
use Rattle.mm_sited.proofs.Taken.{freed-taken}
use Rattle.mm_sited.proofs.sited.SitedJournal.free.Goals as goal

pub returns : goal.returns
returns g c =
    let freed = c.freed.ensures in
    let taken = freed-taken c.freed.result c.args.self.now.sites.now c.freed.new.self c.args.base
    freed.found freed.removed freed.same in (refl, refl, c.free.ensures, taken)
