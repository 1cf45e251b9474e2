use Rattle.std.proofs.Common.{sym}
use Rattle.mm_object.specs.Object.{views_of}
use Rattle.mm_count.specs.Counts.{one_more, raised}
use Rattle.mm_count.proofs.Null.{changed-zero, table_raised-zero, counted_more-zero, keeps-same}
use Rattle.mm_count.proofs.Null.{none_begins}
use Rattle.mm_count.proofs.Sticky.{with_sticky-none}
use Rattle.mm_count.proofs.table.ZeroTable.raise_named.Goals as goal

pub returns-then-word-eq0-clause-heap : goal.returns-then-word-eq0-clause-heap
returns-then-word-eq0-clause-heap g c =
    changed-zero c.args.heap.now c.requires.sound raised c.args.word c.if-word-eq0.true

pub returns-then-word-eq0-clause-table : goal.returns-then-word-eq0-clause-table
returns-then-word-eq0-clause-table g c =
    table_raised-zero c.args.heap.now c.requires.sound c.args.self.now c.args.word c.if-word-eq0.true

pub returns-then-word-eq0-clause-counts : goal.returns-then-word-eq0-clause-counts
returns-then-word-eq0-clause-counts g c =
    counted_more-zero c.args.heap.now c.requires.sound c.args.word c.if-word-eq0.true

pub returns-then-word-eq0-clause-objects : goal.returns-then-word-eq0-clause-objects
returns-then-word-eq0-clause-objects g c = keeps-same c.args.heap.now.objects

pub returns-then-word-eq0-clause-views : goal.returns-then-word-eq0-clause-views
returns-then-word-eq0-clause-views g c = λ outside right.
    sym
    (with_sticky-none (one_more outside c.args.word) c.args.word (views_of c.args.heap.now.objects)
    (none_begins c.args.heap.now c.requires.sound c.args.word c.if-word-eq0.true))
