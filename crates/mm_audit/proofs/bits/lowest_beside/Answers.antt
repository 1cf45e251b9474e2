-- The lowest bit that is left of a word once those below it are shifted out.
use Rattle.std.proofs.Common.{◌/◌, arith}
use Rattle.mm_audit.proofs.Marks.{lowest-rest, none-rest}
use Rattle.mm_audit.proofs.bits.lowest_beside.Goals as goal

pub overflow_add-result : goal.overflow_add-result
overflow_add-result c =
    let lowest = lowest-rest c.args.words.now c.args.from c.if-rest-eq0.false
    (omega (arith, c.type_inv.words (c.args.from / 64))) in
    let within = lowest.within in
    let small = c.requires.small in
    omega arith

pub returns-then-rest-eq0 : goal.returns-then-rest-eq0
returns-then-rest-eq0 c = none-rest c.args.words.now c.args.from c.if-rest-eq0.true

pub returns-else-rest-eq0 : goal.returns-else-rest-eq0
returns-else-rest-eq0 c =
    lowest-rest c.args.words.now c.args.from c.if-rest-eq0.false (omega (arith, c.type_inv.words (c.args.from / 64)))
