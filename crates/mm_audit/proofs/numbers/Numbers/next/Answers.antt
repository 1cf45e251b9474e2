-- The next word that has a member has the next member.
use Rattle.std.proofs.Common.{arith}
use Rattle.mm_audit.proofs.Used.{used-within}
use Rattle.mm_audit.proofs.numbers.Numbers.next.Goals as goal

pub overflow_mul-word : goal.overflow_mul-word
overflow_mul-word c =
    let s = c.self.inside in
    let within = used-within s.marks s.used c.self.invariant c.in-Some-next.word c.in-Some-next.ensures.marked in
    let few = c.self.invariant.few in
    omega arith

pub next_beside-requires-in-Some-next : goal.next_beside-requires-in-Some-next
next_beside-requires-in-Some-next c =
    let s = c.self.inside in
    record { inside = used-within s.marks s.used c.self.invariant c.in-Some-next.word c.in-Some-next.ensures.marked }
