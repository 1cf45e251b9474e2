-- The next number that is marked is that of the page.
use Rattle.std.proofs.Common.{◌+◌, arith}
use Rattle.mm_audit.proofs.LowestPlaces.{first-marked, none-marked}
use Rattle.mm_audit.proofs.places.lowest_page.Goals as goal

pub returns-in-None-clause-first : goal.returns-in-None-clause-first
returns-in-None-clause-first c test tell =
    none-marked c.args.set.now c.args.row c.args.limit test tell
    (λ page from below marked. c.in-None.ensures (c.args.row + page) (omega arith) marked)

pub returns-then-n-row-clause-first : goal.returns-then-n-row-clause-first
returns-then-n-row-clause-first c test tell =
    first-marked c.args.set.now c.args.row c.args.limit test tell c.in-Some.n c.in-Some.ensures c.if-n-row.true

pub returns-else-n-row-clause-first : goal.returns-else-n-row-clause-first
returns-else-n-row-clause-first c test tell =
    none-marked c.args.set.now c.args.row c.args.limit test tell
    (λ page from below marked.
    let least = c.in-Some.ensures.least (c.args.row + page) (omega arith) marked in
    let past = c.if-n-row.false in
    absurd (omega arith))
