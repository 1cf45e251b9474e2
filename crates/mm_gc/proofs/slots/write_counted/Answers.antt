use Rattle.std.proofs.Common.{◌≡◌, sym, ◌∙◌, subst}
use Rattle.std.specs.Prelude.{slice_index}
use Rattle.mm_model.proofs.View.ByBase.Entries.{begins_same}
use Rattle.mm_object.specs.Object.{StoredObject, views_of}
use Rattle.mm_count.specs.Counts.{NamesCounted, HasReference}
use Rattle.mm_gc.proofs.Writing.Written.{named-tight, slot-named, slot-reference, counted-refused, counted-stored}
use Rattle.mm_gc.proofs.Writing.Written.{stored-linked}
use Rattle.mm_gc.proofs.slots.write_counted.Goals as goal

pub returns-then-not-is_tight-clause-answer : goal.returns-then-not-is_tight-clause-answer
returns-then-not-is_tight-clause-answer g c = λ view seen shows there counted.
    counted-refused c.args.heap.now c.args.base c.args.s c.args.word c.requires.slot view seen shows there
    (sym c.is_tight.ensures.answer ∙ c.if-not-is_tight.true)

pub store-requires-clause-new : goal.store-requires-clause-new
store-requires-clause-new g c =
    named-tight c.args.heap.now.objects c.args.word (sym c.is_tight.ensures.answer ∙ c.if-not-is_tight.false)

pub store-requires-clause-old : goal.store-requires-clause-old
store-requires-clause-old g c = λ object begins.
    let slot = c.requires.slot in
    let same = begins_same c.args.heap.now.objects c.args.base slot.object object slot.begins begins in
    subst (λ (o : StoredObject). NamesCounted c.args.heap.now.objects (slice_index o.words c.args.s)) same
    (slot-named c.args.heap.now c.args.base c.args.s slot c.requires.counting.tight)

pub store-requires-clause-some : goal.store-requires-clause-some
store-requires-clause-some g c = λ object begins other some.
    let slot = c.requires.slot in
    let same = begins_same c.args.heap.now.objects c.args.base slot.object object slot.begins begins in
    let counting = c.requires.counting in
    subst (λ (o : StoredObject). HasReference c.args.heap.now.objects (slice_index o.words c.args.s)) same
    (slot-reference c.args.heap.now c.args.base c.args.s slot counting.outside counting.counts.counted
    (slot-named c.args.heap.now c.args.base c.args.s slot counting.tight)
    (λ e. some (subst (λ (o : StoredObject). slice_index o.words c.args.s ≡ 0) same e)))

pub returns-clause-answer : goal.returns-clause-answer
returns-clause-answer g c = λ view seen shows there counted.
    counted-stored c.args.heap.now c.args.base c.args.s c.args.word c.requires.slot view seen shows there
    (sym c.is_tight.ensures.answer ∙ c.if-not-is_tight.false) (views_of c.store.new.heap.objects)
    (c.store.ensures.views view seen shows there counted)

pub returns-clause-counts : goal.returns-clause-counts
returns-clause-counts g c = λ outside counts.
    let slot = c.requires.slot in
    record {
      right = c.store.ensures.right;
      counted = c.store.ensures.counts outside counts.counted;
      listed = c.store.ensures.listed counts.listed;
      unpinned = c.store.ensures.unpinned counts.unpinned;
      linked = stored-linked c.args.heap.now c.args.base c.args.s c.args.word slot.object slot.begins slot.within
          c.store.new.heap c.store.ensures.objects counts.linked;
    }
