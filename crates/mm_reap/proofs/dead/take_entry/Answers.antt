use Rattle.std.proofs.Common.{sym, ◌∙◌}
use Rattle.mm_count.specs.Counts.{composite_at}
use Rattle.mm_count.proofs.Tables.{left-table}
use Rattle.mm_reap.proofs.Entries.{entry-counted, entry-listed, pinned-from-kept, pinned-from-left, entries-left}
use Rattle.mm_reap.proofs.Recounted.{recounted-same}
use Rattle.mm_reap.proofs.dead.take_entry.Goals as goal

pub is_pinned-requires : goal.is_pinned-requires
is_pinned-requires g c =
    entry-counted c.args.count.now c.args.heap.now c.requires.reaped.right c.args.i c.entry-base.result c.requires.entry
    c.entry-base.ensures.base

pub returns-then-is_pinned-clause-pinned : goal.returns-then-is_pinned-clause-pinned
returns-then-is_pinned-clause-pinned g c =
    pinned-from-kept c.args.count.now c.args.heap.now c.args.i c.entry-base.result c.requires.entry
    c.entry-base.ensures.base c.requires.pinned (sym c.is_pinned.ensures.pinned ∙ c.if-is_pinned.true)

pub returns-then-is_pinned-clause-heap : goal.returns-then-is_pinned-clause-heap
returns-then-is_pinned-clause-heap g c = recounted-same c.args.heap.now

pub take_out-requires-clause-entry : goal.take_out-requires-clause-entry
take_out-requires-clause-entry g c =
    record {
      counted = entry-counted c.args.count.now c.args.heap.now c.requires.reaped.right c.args.i c.entry-base.result
          c.requires.entry c.entry-base.ensures.base;
      listed = entry-listed c.args.count.now c.args.heap.now c.requires.reaped.right c.args.i c.entry-base.result
          c.requires.entry c.entry-base.ensures.base;
      unpinned = sym c.is_pinned.ensures.pinned ∙ c.if-is_pinned.false;
    }

pub returns-clause-entries : goal.returns-clause-entries
returns-clause-entries g c =
    entries-left c.args.count.now c.args.heap.now c.requires.reaped.right c.args.i c.entry-base.result c.requires.entry
    c.entry-base.ensures.base c.take_out.new.count c.take_out.ensures.table

pub returns-clause-pinned : goal.returns-clause-pinned
returns-clause-pinned g c =
    pinned-from-left c.args.count.now c.args.heap.now c.requires.reaped.right c.args.i c.entry-base.result
    c.requires.entry c.entry-base.ensures.base c.take_out.new.count c.take_out.ensures.table c.requires.pinned
    c.take_out.new.heap c.take_out.ensures.left

pub returns-clause-table : goal.returns-clause-table
returns-clause-table g c =
    left-table c.args.count.now c.take_out.new.count (composite_at c.args.heap.now.objects c.entry-base.result)
    c.take_out.ensures.table
