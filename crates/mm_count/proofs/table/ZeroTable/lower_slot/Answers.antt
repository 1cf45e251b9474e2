use Rattle.std.proofs.Common.{ℕ, [], ◌∷◌, sym, ◌∙◌, subst}
use Rattle.mm_count.specs.Table.{IsCountedAt}
use Rattle.mm_count.specs.Counts.{composite_at, HasReference}
use Rattle.mm_count.specs.Kept.{AreLowered}
use Rattle.mm_count.proofs.Stores.Lowering.{lowered-zero, totals-lowered}
use Rattle.mm_count.proofs.Tables.{lowered-table, lowered-front, front-same}
use Rattle.mm_count.proofs.table.ZeroTable.lower_slot.Goals as goal

pub returns-then-word-eq0-clause-lowered : goal.returns-then-word-eq0-clause-lowered
returns-then-word-eq0-clause-lowered g c = λ object begins.
    lowered-zero c.args.heap.now c.counted_word-word.ensures.sound _
    (sym (c.counted_word-word.ensures.word object begins) ∙ c.if-word-eq0.true)

pub lower-requires-clause-counted : goal.lower-requires-clause-counted
lower-requires-clause-counted g c =
    let slot = c.requires.slot in
    let is = c.counted_word-word.ensures.word slot.object slot.begins in
    subst (IsCountedAt c.args.heap.now.objects) (sym is)
    (c.requires.named slot.object slot.begins (λ e. c.if-word-eq0.false (is ∙ e)))

pub lower-requires-clause-some : goal.lower-requires-clause-some
lower-requires-clause-some g c =
    let slot = c.requires.slot in
    let is = c.counted_word-word.ensures.word slot.object slot.begins in
    subst (HasReference c.args.heap.now.objects) (sym is)
    (c.requires.some slot.object slot.begins (λ e. c.if-word-eq0.false (is ∙ e)))

pub returns-clause-lowered : goal.returns-clause-lowered
returns-clause-lowered g c = λ object begins.
    let slot = c.requires.slot in
    let is = c.counted_word-word.ensures.word slot.object slot.begins in
    let k = subst (IsCountedAt c.args.heap.now.objects) (sym is)
    (c.requires.named slot.object slot.begins (λ e. c.if-word-eq0.false (is ∙ e))) in
    let composite = (c.requires.right.spelled c.counted_word-word.result k.object k.begins).counted k.counted in
    subst (λ (w : ℕ). AreLowered c.args.heap.now c.lower.new.heap (w ∷ []))
    (c.counted_word-word.ensures.word object begins)
    (record {
      rest = c.lower.ensures.rest;
      views = c.lower.ensures.views;
      objects = c.lower.ensures.objects;
      pins = c.lower.ensures.pins;
      entered = c.lower.ensures.entered;
      totals = λ total before.
          totals-lowered c.args.heap.now c.lower.new.heap c.counted_word-word.result k.object k.begins composite
          k.counted c.lower.ensures.heap total before;
    })

pub returns-clause-table : goal.returns-clause-table
returns-clause-table g c =
    lowered-table c.args.self.now c.lower.new.self
    (composite_at c.args.heap.now.objects c.counted_word-word.result) c.counted_word-word.result c.lower.ensures.table

pub returns-then-word-eq0-clause-front : goal.returns-then-word-eq0-clause-front
returns-then-word-eq0-clause-front g c = front-same c.args.self.now.entries

pub returns-clause-front : goal.returns-clause-front
returns-clause-front g c =
    lowered-front c.args.self.now c.lower.new.self
    (composite_at c.args.heap.now.objects c.counted_word-word.result) c.counted_word-word.result c.lower.ensures.table
