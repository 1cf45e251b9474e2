use Rattle.mm_reap.specs.Pins.{IsUnpinnedEntry}
use Rattle.mm_count.specs.Counts.{composite_at}
use Rattle.mm_count.proofs.Tables.{left-table}
use Rattle.mm_reap.proofs.Recounted.{recounted-same}
use Rattle.mm_reap.proofs.Slots.{none-at-zero, slot-counted, passed-over, taken-out}
use Rattle.mm_reap.proofs.dead.follow_slot.Goals as goal

pub returns-then-word-eq0-clause-pinned : goal.returns-then-word-eq0-clause-pinned
returns-then-word-eq0-clause-pinned g c =
    let slot = c.requires.slot in
    passed-over c.args.heap.now.objects c.args.base c.args.s c.counted_word-word.result slot
    (c.counted_word-word.ensures.word slot.object slot.begins)
    (λ (e : IsUnpinnedEntry c.args.heap.now.objects c.counted_word-word.result).
    none-at-zero c.args.heap.now c.requires.reaped.sound c.counted_word-word.result c.if-word-eq0.true e.counted)
    c.requires.pinned

pub returns-then-word-eq0-clause-heap : goal.returns-then-word-eq0-clause-heap
returns-then-word-eq0-clause-heap g c = recounted-same c.args.heap.now

pub is_unpinned_entry-requires : goal.is_unpinned_entry-requires
is_unpinned_entry-requires g c =
    let slot = c.requires.slot in
    slot-counted c.args.heap.now.objects c.args.base c.args.s c.counted_word-word.result slot
    (c.counted_word-word.ensures.word slot.object slot.begins) c.requires.tight c.if-word-eq0.false

pub returns-then-not-is_unpinned_entry-clause-pinned : goal.returns-then-not-is_unpinned_entry-clause-pinned
returns-then-not-is_unpinned_entry-clause-pinned g c =
    let slot = c.requires.slot in
    passed-over c.args.heap.now.objects c.args.base c.args.s c.counted_word-word.result slot
    (c.counted_word-word.ensures.word slot.object slot.begins) c.if-not-is_unpinned_entry.ensures.entry
    c.requires.pinned

pub returns-then-not-is_unpinned_entry-clause-heap : goal.returns-then-not-is_unpinned_entry-clause-heap
returns-then-not-is_unpinned_entry-clause-heap g c = recounted-same c.args.heap.now

pub returns-clause-pinned : goal.returns-clause-pinned
returns-clause-pinned g c =
    let slot = c.requires.slot in
    taken-out c.args.heap.now c.take_out.new.heap c.args.base c.args.s c.counted_word-word.result slot
    (c.counted_word-word.ensures.word slot.object slot.begins) c.take_out.ensures.heap c.take_out.ensures.left
    c.requires.pinned

pub returns-clause-table : goal.returns-clause-table
returns-clause-table g c =
    left-table c.args.count.now c.take_out.new.count (composite_at c.args.heap.now.objects c.counted_word-word.result)
    c.take_out.ensures.table
