use Rattle.std.proofs.Common.{rules}
use Rattle.mm_c.specs.Calls.{OnOpen}
use Rattle.mm_c.proofs.handle.MmHeap.call.Goals as goal

pub returns-in-Some : goal.returns-in-Some
returns-in-Some c =
    OnOpen c.deref_mut.result.now c.serve-answer.new.self (search rules) c.restore.ensures
    c.serve-answer.ensures
