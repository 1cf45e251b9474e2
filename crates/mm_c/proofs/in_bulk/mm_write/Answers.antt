use Rattle.std.proofs.Common.{rules}
use Rattle.mm_c.specs.Calls.{OnOpen}
use Rattle.mm_c.proofs.in_bulk.mm_write.Goals as goal

pub returns-in-Some : goal.returns-in-Some
returns-in-Some c =
    OnOpen c.deref_mut.result.now c.write-answer.new.self (search rules) c.restore.ensures
    c.write-answer.ensures
