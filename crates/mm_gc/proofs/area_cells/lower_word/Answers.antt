use Rattle.mm_count.proofs.Null.{keeps-same}
use Rattle.mm_gc.proofs.Colours.Outlines.{linked-kept, keeps-links}
use Rattle.mm_gc.proofs.AreaCells.WordCounts.{held-reference, lowered-zero}
use Rattle.mm_gc.proofs.area_cells.lower_word.Goals as goal

pub lower-requires-clause-some : goal.lower-requires-clause-some
lower-requires-clause-some g c =
    held-reference c.args.heap.now.objects c.args.word c.requires.counted c.requires.named c.if-word-eq0.false

pub returns-then-word-eq0-clause-counts : goal.returns-then-word-eq0-clause-counts
returns-then-word-eq0-clause-counts g c =
    lowered-zero c.args.heap.now c.requires.sound c.args.count.now c.args.word c.if-word-eq0.true

pub returns-then-word-eq0-clause-objects : goal.returns-then-word-eq0-clause-objects
returns-then-word-eq0-clause-objects g c = keeps-same c.args.heap.now.objects

pub returns-clause-counts : goal.returns-clause-counts
returns-clause-counts g c = λ outside counts.
    record {
      right = c.lower.ensures.right;
      counted = c.lower.ensures.counts outside counts.counted;
      listed = c.lower.ensures.listed counts.listed;
      unpinned = c.lower.ensures.unpinned counts.unpinned;
      linked = linked-kept c.args.heap.now c.lower.new.heap
          (keeps-links c.args.heap.now.objects c.lower.new.heap.objects c.lower.ensures.objects) counts.linked;
    }
