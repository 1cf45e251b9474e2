use Rattle.std.proofs.Common.{◌+◌, ◌*◌, ◌/◌, Some, ap, ◌∙◌}
use Rattle.std.specs.Prelude.{slice_set}
use Rattle.mm_object.specs.Object.{views_of}
use Rattle.mm_gc.proofs.AreaCells.Replaced.{replaced-objects, replaced-named, replaced-counts, replaced-sticky}
use Rattle.mm_gc.proofs.AreaCells.Replaced.{replaced-rest}
use Rattle.mm_gc.proofs.area_cells.replace_word.Goals as goal

pub lower_word-requires-clause-named : goal.lower_word-requires-clause-named
lower_word-requires-clause-named g c =
    let cell = c.requires.cell in
    replaced-named c.args.heap.now c.raise_word.new.heap c.set_cell.new.heap
    (slice_set c.raise_word.new.heap.raw ((cell.area.base + 4 * c.args.at.cell) / 4) (Some c.args.word))
    (c.in-Ok.ensures.written cell.area cell.lives) c.args.old c.args.word c.raise_word.ensures.objects
    c.requires.counting.old_named

pub lower_word-requires-clause-counted : goal.lower_word-requires-clause-counted
lower_word-requires-clause-counted g c =
    let cell = c.requires.cell in
    let counting = c.requires.counting in
    record {
      outside = counting.after;
      counted = (replaced-counts c.args.heap.now c.raise_word.new.heap c.set_cell.new.heap
          (slice_set c.raise_word.new.heap.raw ((cell.area.base + 4 * c.args.at.cell) / 4) (Some c.args.word))
          (c.in-Ok.ensures.written cell.area cell.lives) c.args.old c.args.word c.raise_word.new.count counting.before
          counting.after counting.replaced (c.raise_word.ensures.counts counting.before counting.counts)).counted;
    }

pub lower_word-requires-clause-right : goal.lower_word-requires-clause-right
lower_word-requires-clause-right g c =
    let cell = c.requires.cell in
    let counting = c.requires.counting in
    (replaced-counts c.args.heap.now c.raise_word.new.heap c.set_cell.new.heap
    (slice_set c.raise_word.new.heap.raw ((cell.area.base + 4 * c.args.at.cell) / 4) (Some c.args.word))
    (c.in-Ok.ensures.written cell.area cell.lives) c.args.old c.args.word c.raise_word.new.count counting.before
    counting.after counting.replaced (c.raise_word.ensures.counts counting.before counting.counts)).right

pub returns-clause-counts : goal.returns-clause-counts
returns-clause-counts g c = λ before after replaced counts.
    let cell = c.requires.cell in
    c.lower_word.ensures.counts after
    (replaced-counts c.args.heap.now c.raise_word.new.heap c.set_cell.new.heap
    (slice_set c.raise_word.new.heap.raw ((cell.area.base + 4 * c.args.at.cell) / 4) (Some c.args.word))
    (c.in-Ok.ensures.written cell.area cell.lives) c.args.old c.args.word c.raise_word.new.count before after replaced
    (c.raise_word.ensures.counts before counts))

pub returns-clause-views : goal.returns-clause-views
returns-clause-views g c = λ before after replaced right.
    let cell = c.requires.cell in
    let raw = slice_set c.raise_word.new.heap.raw ((cell.area.base + 4 * c.args.at.cell) / 4) (Some c.args.word) in
    c.lower_word.ensures.views
    ∙ ap views_of
    (replaced-objects c.args.heap.now c.raise_word.new.heap c.set_cell.new.heap raw
    (c.in-Ok.ensures.written cell.area cell.lives) c.args.old c.args.word)
    ∙ c.raise_word.ensures.views before right
    ∙ replaced-sticky c.args.heap.now c.raise_word.new.heap c.set_cell.new.heap raw
    (c.in-Ok.ensures.written cell.area cell.lives) c.args.old c.args.word before after replaced
    (views_of c.args.heap.now.objects)

pub returns-clause-rest : goal.returns-clause-rest
returns-clause-rest g c =
    let cell = c.requires.cell in
    replaced-rest c.args.heap.now c.raise_word.new.heap c.set_cell.new.heap
    (slice_set c.raise_word.new.heap.raw ((cell.area.base + 4 * c.args.at.cell) / 4) (Some c.args.word))
    (c.in-Ok.ensures.written cell.area cell.lives) c.args.old c.args.word c.lower_word.new.heap
    c.raise_word.ensures.rest c.lower_word.ensures.rest
