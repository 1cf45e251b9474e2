use Rattle.std.proofs.Common.{sym}
use Rattle.mm_object.specs.Object.{views_of}
use Rattle.mm_count.specs.Counts.{one_more}
use Rattle.mm_count.proofs.Null.{keeps-same, none_begins}
use Rattle.mm_count.proofs.Sticky.{with_sticky-none}
use Rattle.mm_gc.proofs.Colours.Outlines.{linked-kept, keeps-links}
use Rattle.mm_gc.proofs.AreaCells.WordCounts.{raised-zero}
use Rattle.mm_gc.proofs.area_cells.raise_word.Goals as goal

pub returns-then-word-eq0-clause-counts : goal.returns-then-word-eq0-clause-counts
returns-then-word-eq0-clause-counts g c =
    raised-zero c.args.heap.now c.requires.sound c.args.count.now c.args.word c.if-word-eq0.true

pub returns-then-word-eq0-clause-objects : goal.returns-then-word-eq0-clause-objects
returns-then-word-eq0-clause-objects g c = keeps-same c.args.heap.now.objects

pub returns-clause-counts : goal.returns-clause-counts
returns-clause-counts g c = λ outside counts.
    record {
      right = c.raise.ensures.right;
      counted = c.raise.ensures.counts outside counts.counted;
      listed = c.raise.ensures.listed counts.listed;
      unpinned = c.raise.ensures.unpinned counts.unpinned;
      linked = linked-kept c.args.heap.now c.raise.new.heap
          (keeps-links c.args.heap.now.objects c.raise.new.heap.objects c.raise.ensures.objects) counts.linked;
    }

pub returns-then-word-eq0-clause-views : goal.returns-then-word-eq0-clause-views
returns-then-word-eq0-clause-views g c = λ outside right.
    sym
    (with_sticky-none (one_more outside c.args.word) c.args.word (views_of c.args.heap.now.objects)
    (none_begins c.args.heap.now c.requires.sound c.args.word c.if-word-eq0.true))
