use Rattle.std.proofs.Common.{◌≢◌, ℕ, sym, ap, ◌∙◌, subst, slice_index}
use Rattle.mm_model.specs.Views.ViewWords.{outside_references}
use Rattle.mm_object.specs.Heap.{Heap}
use Rattle.mm_count.specs.Table.{Table}
use Rattle.mm_count.specs.Counts.{lowered, changed_at, written_at, composite_at, table_raised, table_lowered}
use Rattle.mm_count.specs.Counts.{IsCountedBy, one_more, NamesCounted, HasReference}
use Rattle.mm_count.proofs.Stores.Stored.{between-right, between-places, between-counted, between-named}
use Rattle.mm_count.proofs.Stores.Stored.{between-reference}
use Rattle.mm_count.proofs.Stores.Stored.{between-table}
use Rattle.mm_count.proofs.Stores.Writing.{keeps-then, keeps-unwritten, views-unwritten, between-rest, between-unpinned}
use Rattle.mm_count.proofs.Stores.Writing.{between-listed, between-objects, between-views, views-written}
use Rattle.mm_count.proofs.table.ZeroTable.store.Goals as goal

pub set_slot-requires : goal.set_slot-requires
set_slot-requires g c =
    let o = c.requires.slot.object in
    let now = c.raise_named.ensures.objects.to c.args.base o c.requires.slot.begins in
    record { object = record o { composite = now.0 }; begins = now.1; within = c.requires.slot.within }

pub lower_named-requires-clause-named : goal.lower_named-requires-clause-named
lower_named-requires-clause-named g c =
    let slot = c.requires.slot in
    let is = c.counted_word-old.ensures.word slot.object slot.begins in
    let old = subst (λ (n : ℕ). NamesCounted c.args.heap.now.objects n) (sym is)
    (c.requires.old slot.object slot.begins) in
    between-named c.args.heap.now c.raise_named.new.heap c.set_slot.new.self c.args.base c.args.s c.args.w slot
    c.raise_named.ensures.objects c.raise_named.ensures.heap c.set_slot.ensures.slot c.counted_word-old.result old
    c.requires.new c.if-old-w.false

pub lower_named-requires-clause-some : goal.lower_named-requires-clause-some
lower_named-requires-clause-some g c = λ some.
    let slot = c.requires.slot in
    let is = c.counted_word-old.ensures.word slot.object slot.begins in
    let old = subst (λ (n : ℕ). NamesCounted c.args.heap.now.objects n) (sym is)
    (c.requires.old slot.object slot.begins) in
    let reference = subst (λ (n : ℕ). HasReference c.args.heap.now.objects n) (sym is)
    (c.requires.some slot.object slot.begins (λ e. c.if-old-w.false (is ∙ e)) (λ e. some (is ∙ e))) in
    between-reference c.args.heap.now c.raise_named.new.heap c.set_slot.new.self c.args.base c.args.s c.args.w slot
    c.raise_named.ensures.objects c.raise_named.ensures.heap c.set_slot.ensures.slot c.counted_word-old.result old
    c.requires.new c.if-old-w.false reference

pub lower_named-requires-clause-right : goal.lower_named-requires-clause-right
lower_named-requires-clause-right g c =
    between-right c.args.heap.now c.raise_named.new.heap c.set_slot.new.self c.args.base c.args.s c.args.w
    c.requires.slot c.raise_named.ensures.objects c.raise_named.ensures.heap c.set_slot.ensures.slot
    c.raise_named.new.self c.raise_named.ensures.right

pub returns-clause-table : goal.returns-clause-table
returns-clause-table g c = λ other.
    let slot = c.requires.slot in
    let is = c.counted_word-old.ensures.word slot.object slot.begins in
    let old = subst (λ (n : ℕ). NamesCounted c.args.heap.now.objects n) (sym is)
    (c.requires.old slot.object slot.begins) in
    c.lower_named.ensures.table
    ∙ ap (λ (t : Table). table_lowered t (composite_at c.set_slot.new.self.objects c.counted_word-old.result)
    c.counted_word-old.result) c.raise_named.ensures.table
    ∙ between-table c.args.heap.now c.raise_named.new.heap c.set_slot.new.self c.args.base c.args.s c.args.w slot
    c.raise_named.ensures.objects c.raise_named.ensures.heap c.set_slot.ensures.slot c.counted_word-old.result old
    c.requires.new other (table_raised c.args.self.now (composite_at c.args.heap.now.objects c.args.w))

pub returns-clause-heap : goal.returns-clause-heap
returns-clause-heap g c = λ other.
    c.lower_named.ensures.heap
    ∙ ap (changed_at lowered c.counted_word-old.result)
    (between-places c.args.heap.now c.raise_named.new.heap c.set_slot.new.self c.args.base c.args.s c.args.w
    c.requires.slot c.raise_named.ensures.objects c.raise_named.ensures.heap c.set_slot.ensures.slot)

pub returns-clause-counts : goal.returns-clause-counts
returns-clause-counts g c = λ outside right.
    let slot = c.requires.slot in
    let is = c.counted_word-old.ensures.word slot.object slot.begins in
    let now = between-counted c.args.heap.now c.raise_named.new.heap c.set_slot.new.self c.args.base c.args.s c.args.w
    slot c.raise_named.ensures.objects c.raise_named.ensures.heap c.set_slot.ensures.slot outside
    (c.raise_named.ensures.counts outside right) in
    c.lower_named.ensures.counts outside
    (subst (λ (n : ℕ). IsCountedBy c.set_slot.new.self.objects (one_more outside n)) (sym is) now)

pub returns-then-old-w-clause-objects : goal.returns-then-old-w-clause-objects
returns-then-old-w-clause-objects g c =
    let slot = c.requires.slot in
    keeps-unwritten c.args.heap.now c.args.base c.args.s c.args.w slot
    (sym c.if-old-w.true ∙ c.counted_word-old.ensures.word slot.object slot.begins)

pub returns-then-old-w-clause-views : goal.returns-then-old-w-clause-views
returns-then-old-w-clause-views g c = λ view object shows begins right.
    let slot = c.requires.slot in
    views-unwritten c.args.heap.now c.args.base c.args.s c.args.w slot
    (sym c.if-old-w.true ∙ c.counted_word-old.ensures.word slot.object slot.begins) view object shows begins

pub returns-clause-objects : goal.returns-clause-objects
returns-clause-objects g c =
    keeps-then (written_at c.args.base c.args.s c.args.w c.args.heap.now).objects c.set_slot.new.self.objects
    c.lower_named.new.heap.objects
    (between-objects c.args.heap.now c.raise_named.new.heap c.set_slot.new.self c.args.base c.args.s c.args.w
    c.requires.slot c.raise_named.ensures.objects c.raise_named.ensures.heap c.set_slot.ensures.slot)
    c.lower_named.ensures.objects

pub returns-clause-rest : goal.returns-clause-rest
returns-clause-rest g c =
    c.lower_named.ensures.rest
    ∙ ap (λ (h : Heap). record h { objects = c.lower_named.new.heap.objects })
    (between-rest c.args.heap.now c.raise_named.new.heap c.set_slot.new.self c.args.base c.args.s c.args.w
    c.requires.slot c.raise_named.ensures.objects c.raise_named.ensures.heap c.set_slot.ensures.slot
    c.raise_named.ensures.rest)

pub returns-clause-views : goal.returns-clause-views
returns-clause-views g c = λ view object shows begins right.
    let slot = c.requires.slot in
    let other : slice_index slot.object.words c.args.s ≢ c.args.w = λ e.
    c.if-old-w.false (c.counted_word-old.ensures.word slot.object slot.begins ∙ e) in
    c.lower_named.ensures.views
    ∙ between-views c.args.heap.now c.raise_named.new.heap c.set_slot.new.self c.args.base c.args.s c.args.w
    c.requires.slot c.raise_named.ensures.objects c.raise_named.ensures.heap c.set_slot.ensures.slot
    (outside_references view) other (c.raise_named.ensures.views (outside_references view) right)
    ∙ views-written c.args.heap.now c.args.base c.args.s c.args.w slot other view object shows begins

pub returns-clause-unpinned : goal.returns-clause-unpinned
returns-clause-unpinned g c = λ none.
    c.lower_named.ensures.unpinned
    (between-unpinned c.args.heap.now c.raise_named.new.heap c.set_slot.new.self c.args.base c.args.s c.args.w
    c.requires.slot c.raise_named.ensures.objects c.raise_named.ensures.heap c.set_slot.ensures.slot
    (c.raise_named.ensures.unpinned none))

pub returns-clause-listed : goal.returns-clause-listed
returns-clause-listed g c = λ all.
    c.lower_named.ensures.listed
    (between-listed c.args.heap.now c.raise_named.new.heap c.set_slot.new.self c.args.base c.args.s c.args.w
    c.requires.slot c.raise_named.ensures.objects c.raise_named.ensures.heap c.set_slot.ensures.slot
    (c.raise_named.ensures.listed all))
