use Rattle.std.proofs.Common.{rules, refl}
use Rattle.mm_c.specs.Calls.{OnOpen}
use Rattle.mm_c.proofs.in_bulk.mm_read.Goals as goal

pub returns-in-Some : goal.returns-in-Some
returns-in-Some c =
    OnOpen c.in-Some.owned.value c.in-Some.owned.value c.in-Some.ensures.taken c.restore.ensures
    (refl, search rules)
